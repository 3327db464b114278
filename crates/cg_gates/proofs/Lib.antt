pub mod Finds
pub mod Early
pub mod Rings
pub mod Graph
pub mod Cells
pub mod Own
pub mod Follow
pub mod Unrolled
pub mod Late
pub mod Solution
mod Rows
pub mod Places
pub mod Counting
pub mod Shapes
pub mod Fronts
pub mod Drivers
pub mod Stems
pub mod Answered
