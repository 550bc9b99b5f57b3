pub mod FileState
pub mod Shown
pub mod Data
pub mod Plans
