pub mod SmallSpots
