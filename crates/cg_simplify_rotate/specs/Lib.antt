pub mod Rows
pub mod Moving
pub mod Texts
pub mod Turning
