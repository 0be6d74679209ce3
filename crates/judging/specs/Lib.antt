pub mod Codes
pub mod Tables
pub mod Same
