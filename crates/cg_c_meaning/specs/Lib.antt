pub mod Meaning
pub mod Turns
pub mod Typed
pub mod Taken
