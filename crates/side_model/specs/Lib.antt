pub mod Hart
pub mod Tables
pub mod Places
pub mod Words
pub mod Rows
pub mod Sees
pub mod JumpRows
