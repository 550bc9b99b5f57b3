pub mod Lines
pub mod Plain
pub mod Rewrite
pub mod Traces
