pub mod Following
pub mod PlainRows
pub mod BranchRows
pub mod JalRows
pub mod JalrRows
