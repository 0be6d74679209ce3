pub mod Patching
pub mod Copying
pub mod Comparing
pub mod Entering
pub mod Placing
