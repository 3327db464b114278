pub mod Kept
pub mod Arguments
pub mod Begun
mod Marked
pub mod EachUnit
pub mod Facts
pub mod Slots
pub mod Rooms
pub mod Next
mod Given
mod Advanced
pub mod Carried
