pub mod PatchedWords
pub mod Fits
pub mod Emitted
pub mod EmittedBlocks
pub mod Fetches
pub mod Steps
pub mod Gates
