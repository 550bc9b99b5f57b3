pub mod Listings
pub mod LinkLoads
