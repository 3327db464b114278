pub mod Searches
pub mod Answered
pub mod Runs
pub mod Map
pub mod Search
