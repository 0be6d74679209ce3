pub mod Patched
pub mod Replayed
