pub mod Clean
pub mod Ranges
pub mod Valid
pub mod Spelled
