pub mod Source
pub mod Indexed
pub mod Tasks
pub mod Walk
