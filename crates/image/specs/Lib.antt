pub mod Sectors
pub mod Refusals
pub mod Cuts
pub mod Access
pub mod Layers
pub mod Shown
pub mod Fetched
