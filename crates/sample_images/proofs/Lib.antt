pub mod Filled
pub mod Data
