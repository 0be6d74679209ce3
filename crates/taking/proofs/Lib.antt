pub mod Pointing
pub mod Fitting
pub mod Joining
