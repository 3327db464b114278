pub mod Intervals
pub mod Answers
