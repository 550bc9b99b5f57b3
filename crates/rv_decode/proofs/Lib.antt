pub mod Digits
pub mod Immediates
pub mod Operations
pub mod Selected
pub mod Decodes
pub mod Encodes
pub mod Encodable
pub mod ByTable
pub mod Below
mod Computes
