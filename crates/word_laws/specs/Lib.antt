pub mod Shown
pub mod ShadowWords
pub mod OwnWords
