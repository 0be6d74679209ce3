pub mod Counting
pub mod Moving
