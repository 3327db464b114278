pub mod Parts
pub mod Numbers
pub mod Rules
pub mod Texts
