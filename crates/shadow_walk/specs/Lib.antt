pub mod Shows
pub mod Walks
pub mod Restarts
pub mod Performed
