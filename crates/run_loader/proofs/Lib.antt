pub mod FirstStates
pub mod Undamaged
pub mod Texts
