pub mod Values
pub mod Settings
pub mod CommandLine
pub mod Limits
