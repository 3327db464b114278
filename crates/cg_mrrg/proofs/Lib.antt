pub mod Parts
pub mod Numbers
pub mod Drivers
pub mod After
