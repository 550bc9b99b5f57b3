pub mod Core
pub mod Step
pub mod Flows
pub mod Executes
pub mod Steps
pub mod ShadowSteps
pub mod Strides
