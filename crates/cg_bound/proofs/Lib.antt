pub mod Legal
pub mod Offers
pub mod Intervals
pub mod Halving
pub mod Always
