pub mod Tried
pub mod Laws
