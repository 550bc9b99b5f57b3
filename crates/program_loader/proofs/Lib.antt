mod WordBytes
mod PartLemmas
mod ArgumentLemmas
mod StartLemmas
