pub mod Missed
pub mod Begins
pub mod Displaced
pub mod Answers
