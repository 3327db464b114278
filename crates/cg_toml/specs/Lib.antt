pub mod Bytes
pub mod Members
