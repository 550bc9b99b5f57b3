pub mod Executables
pub mod Demos
