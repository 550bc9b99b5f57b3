mod WorkedFile
mod StreamLemmas
mod WordLemmas
mod PartLemmas
mod SequenceLemmas
pub mod FileLemmas
pub mod PlaceLemmas
pub mod Rewritable
