pub mod Word
pub mod Park
pub mod Padded
pub mod Layout
pub mod Files
pub mod Listed
