pub mod Run
pub mod OwnMoves
pub mod ShadowMoves
pub mod Moves
pub mod Trace
pub mod Patterns
pub mod Restarts
pub mod Marks
