pub mod Asked
pub mod Offers
pub mod Hears
pub mod Laws
