pub mod Access
pub mod Operation
pub mod Paged
pub mod Places
pub mod Held
