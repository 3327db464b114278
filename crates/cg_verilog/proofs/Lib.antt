pub mod Numbers
pub mod Exact
pub mod Steps
pub mod Whole
pub mod Unique
pub mod Printing
