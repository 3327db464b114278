pub mod Hashed
pub mod Listed
pub mod Plans
pub mod Standing
pub mod Values
