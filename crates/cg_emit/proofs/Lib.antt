mod Padded
mod Placed
mod Selected
mod Paths
mod Routes
mod Whole
pub mod Overlapped
