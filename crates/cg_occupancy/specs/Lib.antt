pub mod Marks
pub mod Counts
pub mod Tables
