pub mod Shows
pub mod Stretches
pub mod Causes
pub mod OwnGoes
pub mod ShadowGoes
pub mod Fetches
pub mod Goes
pub mod Opens
