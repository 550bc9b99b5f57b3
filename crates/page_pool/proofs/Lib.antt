pub mod PageLemmas
pub mod FrameLemmas
mod StorageLemmas
mod PoolLemmas
