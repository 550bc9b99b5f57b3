pub mod Run
pub mod Opens
pub mod Demo
