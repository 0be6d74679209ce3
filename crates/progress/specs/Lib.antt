pub mod Moves
pub mod Views
pub mod Reports
pub mod Bounds
