pub mod Descriptors
pub mod Calls
pub mod PlainRun
pub mod Loading
pub mod Cache
