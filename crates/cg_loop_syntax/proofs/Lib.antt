pub mod Rows
pub mod WellRows
