pub mod Loading
pub mod Asking
