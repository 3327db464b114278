pub mod Carried
pub mod Growing
pub mod Listing
pub mod Making
pub mod Needs
pub mod Placing
pub mod Recurring
