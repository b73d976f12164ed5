-- That a find is the first event which shows more with the flaw than the one of its number without it.
use Rattle.std.specs.Prelude.{◌≡◌, ℕ, ◌<◌, true, false, List, get_or, slice_get, Option, Some, None}
use Rattle.rl_grade.specs.declared.seen.Find.{Find}
use Rattle.rl_grade.specs.declared.seen.Seen.{Seen}
use Rattle.rl_grade.specs.Find.{beside, first_find, seen_of, shows}
use Rattle.rl_grade.specs.Heard.{Heard}

-- what event k shows; one that isn't there shows nothing
abbrev pub seen_at : List Seen → ℕ → Seen
seen_at base k = get_or base k (record { differ = 0; error = false })

-- what an event shows that event k of the other run doesn't
abbrev pub more_than : List Seen → ℕ → Heard → Seen
more_than base k h = beside (seen_of h.told.event) (seen_at base k)

-- event k, where it is there, shows no more than the one of its number
abbrev pub ShowsNoMore : List Seen → List Heard → ℕ → Type 0
ShowsNoMore base heard k = (h : Heard) → slice_get heard k ≡ Some h → shows (more_than base k h) ≡ false

-- it is the first event that shows more, by its line, its operation and what it shows more
pub record IsFirstMore (base : List Seen) (heard : List Heard) (find : Find) : Type 0 where
  pub k : ℕ
  pub event : Heard
  pub there : slice_get heard k ≡ Some event
  pub more : shows (more_than base k event) ≡ true
  pub none_before : (j : ℕ) → j < k → ShowsNoMore base heard j
  pub is : find ≡ record { line = event.line; op = event.told.event.op; new = more_than base k event }

-- nothing was found, and no event shows more; or the first that does
abbrev pub IsAnswer : List Seen → List Heard → Option Find → Type 0
IsAnswer base heard None = (k : ℕ) → ShowsNoMore base heard k
IsAnswer base heard (Some find) = IsFirstMore base heard find

-- A flaw is found exactly where some event shows more, at the first that does.
abbrev pub FindIsFirst : Type 0
FindIsFirst = (base : List Seen) (heard : List Heard) → IsAnswer base heard (first_find base heard)
