pub mod Rules
pub mod Lists
pub mod Agreeing
pub mod Facts
pub mod Prints
pub mod Hex
pub mod Texts
