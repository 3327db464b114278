pub mod Terminals
pub mod Course
pub mod Outs
pub mod Reserved
pub mod Effects
pub mod Moment
pub mod State
pub mod Texts
