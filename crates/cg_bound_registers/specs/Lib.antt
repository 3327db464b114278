pub mod Pressure
pub mod Sums
pub mod Times
