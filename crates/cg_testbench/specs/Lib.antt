pub mod Pieces
pub mod Unit
pub mod Cells
pub mod Sizes
pub mod Lines
pub mod Setup
pub mod Array
pub mod Bench
