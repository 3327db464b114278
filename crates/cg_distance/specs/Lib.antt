pub mod Least
pub mod Leaving
pub mod Found
pub mod Table
