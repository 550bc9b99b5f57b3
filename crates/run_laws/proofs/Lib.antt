pub mod Loaded
pub mod Premises
