pub mod Halving
pub mod Words
pub mod Ascii
pub mod Widths
pub mod Rows
pub mod Sizes
