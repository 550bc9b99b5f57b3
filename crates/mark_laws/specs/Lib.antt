pub mod Agreement
pub mod Sizes
pub mod Settled
