pub mod Topological
pub mod Fault
pub mod Ring
pub mod Walk
