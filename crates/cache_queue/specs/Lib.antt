pub mod Orders
pub mod State
pub mod Frames
pub mod Storage
pub mod Finishes
pub mod Flights
