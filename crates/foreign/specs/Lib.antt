pub mod Counts
pub mod Declined
pub mod FirstStates
pub mod Own
