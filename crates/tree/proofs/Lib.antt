pub mod Digits
pub mod Laid
pub mod Rotated
