pub mod Claims
pub mod Table
pub mod Kept
pub mod Lists
pub mod Nodes
pub mod Along
pub mod Plain
