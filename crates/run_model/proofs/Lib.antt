pub mod Samples
mod Rows
mod TraceRows
mod FillRows
