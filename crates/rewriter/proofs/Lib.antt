pub mod TextLemmas
pub mod CodeLemmas
