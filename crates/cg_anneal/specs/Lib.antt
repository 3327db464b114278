pub mod Edges
pub mod Walking
pub mod Steps
pub mod Ended
pub mod Laws
