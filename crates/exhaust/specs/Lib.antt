pub mod Exhausted
pub mod Told
pub mod Stops
pub mod Searched
