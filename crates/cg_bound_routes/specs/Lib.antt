pub mod Ways
pub mod Table
pub mod Search
pub mod Question
