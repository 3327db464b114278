pub mod Begin
pub mod Search
pub mod Course
