pub mod Texts
pub mod Common
