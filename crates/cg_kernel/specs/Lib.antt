pub mod Answer
pub mod Numbers
pub mod Rules
pub mod Words
pub mod Written
pub mod Texts
