pub mod Lengthened
pub mod WayCycles
