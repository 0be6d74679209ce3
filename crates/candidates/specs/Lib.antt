pub mod Refusals
pub mod Lists
pub mod Turns
pub mod Gathering
pub mod Noding
