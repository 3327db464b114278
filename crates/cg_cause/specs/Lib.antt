pub mod Cause
pub mod Allowed
