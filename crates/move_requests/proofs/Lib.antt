pub mod Deaf
pub mod Looks
pub mod Snoc
pub mod Heard
