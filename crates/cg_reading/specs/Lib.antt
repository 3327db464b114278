pub mod Items
pub mod Keys
pub mod Reads
pub mod Numbers
