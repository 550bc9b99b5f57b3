pub mod Fields
pub mod Instruction
pub mod Table
pub mod Formats
pub mod Encoding
pub mod Laws
