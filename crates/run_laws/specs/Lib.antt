pub mod Completes
pub mod OwnLaws
pub mod HintLaws
pub mod StubLaws
pub mod Numbers
pub mod SoundLaws
pub mod LogLaws
