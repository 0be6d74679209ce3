pub mod Leaving
pub mod Walking
