pub mod Affine
pub mod Congruence
pub mod Depend
pub mod Gathered
pub mod Texts
