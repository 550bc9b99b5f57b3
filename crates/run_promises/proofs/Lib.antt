pub mod Steps
pub mod Puts
pub mod Whole
pub mod Finish
mod Rows
