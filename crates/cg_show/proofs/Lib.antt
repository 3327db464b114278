pub mod Steps
pub mod Rows
pub mod Report
pub mod Panelled
pub mod Shown
pub mod Pictured
pub mod Exact
