pub mod Placed
pub mod Counts
pub mod Draws
pub mod Reservations
pub mod Touching
pub mod Kept
pub mod Schedules
pub mod Posed
