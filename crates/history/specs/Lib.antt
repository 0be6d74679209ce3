pub mod Held
pub mod Refusals
