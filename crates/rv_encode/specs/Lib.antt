pub mod Code
pub mod Resolved
pub mod Buffer
