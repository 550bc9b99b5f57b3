pub mod Loaded
pub mod Unseen
pub mod Kept
pub mod SamePlain
pub mod Disk
pub mod Again
