mod Noted
pub mod Shown
mod Counted
