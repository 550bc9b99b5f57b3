pub mod Top
pub mod Promised
pub mod Defined
