pub mod Gates
pub mod ShadowSteps
pub mod ProgramSteps
pub mod StubSteps
