pub mod Facts
pub mod Cases
pub mod Suits
