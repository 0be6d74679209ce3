pub mod Spelling
pub mod Lines
