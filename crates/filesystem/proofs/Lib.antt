pub mod Laying
pub mod Saying
