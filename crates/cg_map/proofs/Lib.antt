pub mod Attempts
pub mod Alike
pub mod Always
