pub mod Flat
pub mod Hub
pub mod Answer
