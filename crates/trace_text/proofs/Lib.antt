pub mod WordLaws
pub mod NumberLaws
pub mod HexText
pub mod LineLaws
pub mod Printed
pub mod LinesRead
pub mod OneForm
pub mod ReadLines
mod LineCuts
