pub mod Margin
pub mod Columns
pub mod Table
pub mod Sizes
pub mod Search
