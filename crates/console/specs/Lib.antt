pub mod Exits
pub mod Texts
pub mod Words
