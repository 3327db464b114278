pub mod Legal
mod Equal
mod Found
pub mod Decided
