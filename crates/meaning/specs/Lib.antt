pub mod Judgements
pub mod Meanings
pub mod Loads
pub mod Taken
pub mod Judging
pub mod Sounding
pub mod Subjects
