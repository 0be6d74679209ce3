pub mod Multiplying
pub mod Limiting
pub mod Turning
