mod Lengths
mod WorkedBlocks
pub mod Alike
