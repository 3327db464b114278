pub mod Graph
pub mod Lists
pub mod Users
pub mod Nodes
