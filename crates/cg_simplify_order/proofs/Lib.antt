pub mod Adding
pub mod Least
pub mod Listed
pub mod Needed
pub mod Rows
pub mod Stays
pub mod Valid
