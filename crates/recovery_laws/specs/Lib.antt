pub mod Texts
pub mod Moved
pub mod OnDisk
pub mod ReadBack
