mod Loops
mod LoopGiven
pub mod Looped
pub mod Stored
pub mod Spelled
pub mod ImageGiven
pub mod Imaged
pub mod Worded
pub mod Netlisted
pub mod Depended
pub mod Simplified
pub mod Migrated
