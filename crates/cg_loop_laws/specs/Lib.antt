pub mod Meaning
pub mod Translate
pub mod Laws
