pub mod Queue
pub mod CallRows
pub mod RestartRows
pub mod LinkWords
pub mod Fills
pub mod OtherMoves
