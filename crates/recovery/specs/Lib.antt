pub mod Lines
pub mod Results
