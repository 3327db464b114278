pub mod Bound
pub mod Search
pub mod Text
