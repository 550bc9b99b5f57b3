pub mod StoreCalls
pub mod Answers
pub mod Runs
pub mod Turns
pub mod Outcomes
