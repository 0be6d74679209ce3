pub mod Entering
pub mod Gathering
