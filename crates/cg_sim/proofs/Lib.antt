mod Listed
mod Chosen
pub mod Cycles
mod Left
pub mod First
