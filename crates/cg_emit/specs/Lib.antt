pub mod Building
pub mod Emitted
