pub mod Laws
pub mod Loads
pub mod Results
pub mod DataLemmas
