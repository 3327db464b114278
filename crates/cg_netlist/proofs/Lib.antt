pub mod Letters
pub mod Digits
pub mod Called
pub mod Bits
pub mod Ports
pub mod Nets
pub mod Valid
pub mod Named
pub mod Whole
pub mod Lines
pub mod Printable
mod Rows
