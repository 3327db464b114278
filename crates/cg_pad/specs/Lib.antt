pub mod Work
pub mod Bytes
pub mod Cursor
pub mod Lent
pub mod Texts
