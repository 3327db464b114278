pub mod Numbers
pub mod Command
pub mod Files
pub mod Words
pub mod Matches
