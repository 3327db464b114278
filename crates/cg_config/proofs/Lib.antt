pub mod Canonical
pub mod Canonicals
pub mod Changed
pub mod Ports
pub mod ByCase
pub mod Fielded
