pub mod Pointing
pub mod Reading
pub mod Listing
pub mod Late
pub mod Safe
