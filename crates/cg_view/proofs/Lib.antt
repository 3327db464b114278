pub mod Sparse
pub mod Located
pub mod Heads
