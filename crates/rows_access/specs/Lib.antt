pub mod Accesses
pub mod CheckRows
pub mod LoadRows
pub mod StoreRows
