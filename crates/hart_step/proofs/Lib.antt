pub mod Registers
mod Spares
mod Executions
mod Starved
mod Stores
mod Views
mod Strides
