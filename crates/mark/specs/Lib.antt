pub mod Numbers
pub mod Marks
pub mod Refusals
pub mod Found
