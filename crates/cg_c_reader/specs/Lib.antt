pub mod Classes
pub mod Seen
pub mod Within
pub mod Left
pub mod Parts
pub mod Faults
