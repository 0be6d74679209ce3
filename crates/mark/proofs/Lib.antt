pub mod Lemmas
pub mod Hexes
pub mod Texts
pub mod Unique
pub mod Finding
