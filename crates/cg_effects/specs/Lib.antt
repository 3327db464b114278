pub mod Ends
pub mod Outcome
pub mod Reads
pub mod Status
pub mod Refusals
