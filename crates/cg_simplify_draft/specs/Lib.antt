pub mod Follows
pub mod Rewritten
pub mod Settings
pub mod Restates
