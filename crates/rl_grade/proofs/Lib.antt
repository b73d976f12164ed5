mod Asking
mod Batching
pub mod Complete
pub mod Distinct
mod Driving
mod Finding
mod First
mod Grading
mod Keeping
mod Listed
pub mod Made
mod Parts
mod Pushed
mod Reading
mod HiddenBits
mod HiddenFields
mod HiddenFlaws
mod HiddenOnes
pub mod HiddenTests
mod Related
mod RelatedSteps
mod ResetRows
mod Rounds
mod Running
mod Sameness
mod Sorting
mod Started
mod TogetherAccess
mod TogetherBeliefs
mod TogetherCourses
mod TogetherFinds
mod TogetherItems
mod TogetherMakeup
mod TogetherOutcomes
mod TogetherSteps
mod Trials
mod UncheckedAccess
mod UncheckedBeliefs
mod UncheckedCourses
mod UncheckedFinds
mod UncheckedFlaws
mod UncheckedItems
mod UncheckedOutcomes
mod UncheckedReach
mod UncheckedTests
