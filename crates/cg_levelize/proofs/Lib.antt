pub mod Passing
pub mod Levels
pub mod Turned
pub mod Walks
pub mod Reading
pub mod Finished
pub mod Solved
