pub mod Laws
pub mod Places
pub mod Moved
pub mod Fitting
pub mod Turned
pub mod Rotated
