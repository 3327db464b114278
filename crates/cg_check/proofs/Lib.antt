pub mod Lists
pub mod Links
pub mod Kept
pub mod Meeting
pub mod Tables
pub mod Marks
pub mod Places
pub mod Judged
