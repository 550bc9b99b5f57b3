pub mod TextLaws
pub mod Standing
pub mod Entries
pub mod MovedSegments
pub mod Front
pub mod Body
pub mod OnDisk
pub mod ReadBack
mod WorkedFront
