pub mod Alike
pub mod Answer
pub mod Counts
pub mod Elements
pub mod Lean
