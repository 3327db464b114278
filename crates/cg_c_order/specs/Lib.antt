pub mod Accesses
pub mod Chains
pub mod Marks
pub mod Choosing
