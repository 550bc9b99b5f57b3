pub mod Blocks
mod Silent
mod CallLemmas
mod Steps
mod RunLogs
mod Stretches
