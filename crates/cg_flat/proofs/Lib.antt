pub mod Lists
pub mod Widths
mod Rows
