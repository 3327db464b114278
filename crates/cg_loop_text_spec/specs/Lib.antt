pub mod Words
pub mod Grammar
pub mod Rules
pub mod Meaning
pub mod Read
