pub mod Words
pub mod Marked
pub mod Panels
pub mod Schedule
pub mod Foot
pub mod Picture
pub mod Exact
