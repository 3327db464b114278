pub mod Reading
pub mod FaultText
pub mod Looked
pub mod Ported
pub mod Wrong
