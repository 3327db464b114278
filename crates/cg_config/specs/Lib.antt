pub mod Changes
pub mod Parts
pub mod Known
pub mod Rules
pub mod Told
