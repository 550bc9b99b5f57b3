pub mod Closed
pub mod Decoded
pub mod Listed
