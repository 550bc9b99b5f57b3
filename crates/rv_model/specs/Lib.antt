pub mod Memory
pub mod Rights
pub mod Registers
pub mod Arithmetic
pub mod Effect
pub mod Space
pub mod Data
