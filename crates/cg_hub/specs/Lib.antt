pub mod Hub
pub mod Scheduled
pub mod Laws
