pub mod Recovers
pub mod Naming
pub mod Standing
pub mod Carrying
pub mod Settling
pub mod Whole
pub mod Adding
pub mod Pasting
