pub mod Live
pub mod Operands
pub mod Restating
pub mod Settling
pub mod Merging
pub mod Joining
pub mod Simplified
pub mod Guards
