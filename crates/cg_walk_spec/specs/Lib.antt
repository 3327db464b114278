pub mod State
pub mod Words
pub mod Walk
pub mod Good
pub mod Alike
pub mod Ranges
pub mod Laws
pub mod Pending
