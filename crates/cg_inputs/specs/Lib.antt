pub mod Sources
pub mod Refused
pub mod Answered
pub mod Readings
