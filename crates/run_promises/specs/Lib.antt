pub mod Schedules
pub mod Promises
pub mod Laws
