pub mod Violations
pub mod Faults
pub mod Buckets
pub mod Cells
