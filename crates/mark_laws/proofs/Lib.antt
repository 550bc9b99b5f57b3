pub mod OneInstruction
pub mod OneCall
pub mod Sizes
pub mod Horizons
pub mod Numbers
pub mod Changes
pub mod OwnChanges
