mod Folds
mod Counts
mod Steps
pub mod Stands
pub mod Turns
mod Rows
pub mod Twice
pub mod Drafts
pub mod Written
pub mod Restating
