pub mod Building
pub mod Targets
pub mod PlainWords
pub mod BranchWords
pub mod JalWords
pub mod JalrWords
pub mod Crossing
