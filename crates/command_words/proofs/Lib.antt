pub mod Steps
pub mod ValueLaws
pub mod WordLaws
pub mod LimitLaws
pub mod Rows
