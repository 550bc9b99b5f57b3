pub mod Words
pub mod OneMachine
