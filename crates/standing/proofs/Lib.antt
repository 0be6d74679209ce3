pub mod Putting
pub mod Covering
pub mod Picking
pub mod Stepping
pub mod Listing
