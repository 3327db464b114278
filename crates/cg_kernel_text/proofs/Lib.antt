pub mod Back
pub mod Clear
pub mod Depths
pub mod Plain
