pub mod Pairs
pub mod Loads
pub mod Worked
pub mod Rows
pub mod Steps
pub mod Small
pub mod Decided
