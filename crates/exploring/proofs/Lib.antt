pub mod Following
pub mod Declining
mod Writing
