pub mod Offering
pub mod Tables
pub mod Excess
pub mod Edges
pub mod Keeping
pub mod Starting
pub mod Scheduled
