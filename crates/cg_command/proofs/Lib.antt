pub mod Digits
pub mod Failures
pub mod Uses
pub mod Walk
pub mod Parts
pub mod Judged
pub mod Maps
pub mod Ranged
