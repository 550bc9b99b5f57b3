pub mod SlotLemmas
pub mod DataLemmas
pub mod PlanLemmas
