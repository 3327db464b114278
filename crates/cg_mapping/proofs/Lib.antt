pub mod Answered
pub mod Back
pub mod Depths
pub mod EdgeOperands
pub mod Numbered
pub mod Once
pub mod Steps
pub mod Tallies
