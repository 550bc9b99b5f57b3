pub mod Layouts
pub mod Sources
pub mod Rewriting
