pub mod Access
pub mod Fills
pub mod Tables
pub mod Views
