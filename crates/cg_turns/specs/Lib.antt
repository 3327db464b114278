pub mod Window
pub mod Frame
pub mod Step
pub mod Done
pub mod Pairs
pub mod Trace
pub mod Last
pub mod Watched
