pub mod Responded
pub mod Faults
pub mod Kept
