pub mod Operands
pub mod TasksSoFar
pub mod Owners
pub mod Ages
pub mod WalkSlots
pub mod Walk
