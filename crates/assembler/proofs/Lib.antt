pub mod Encodable
pub mod Parts
