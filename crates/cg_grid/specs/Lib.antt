pub mod Grid
pub mod Parts
pub mod Rules
pub mod Texts
pub mod Written
