pub mod Built
pub mod Edges
pub mod Live
pub mod Made
