pub mod Steps
pub mod Named
pub mod Filled
pub mod Members
pub mod Each
pub mod Lowest
pub mod All
