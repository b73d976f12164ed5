pub mod PlainLog
pub mod Sound
pub mod SoakScript
pub mod SoakDescription
pub mod SoakNoFault
