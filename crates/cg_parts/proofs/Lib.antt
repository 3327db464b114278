pub mod Lists
pub mod Never
