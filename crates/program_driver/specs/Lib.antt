pub mod Rounds
pub mod Advances
pub mod Causes
pub mod Lines
pub mod Runs
pub mod Uses
pub mod Traces
pub mod Progress
