pub mod Forms
pub mod Remade
