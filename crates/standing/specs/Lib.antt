pub mod Places
pub mod Standing
