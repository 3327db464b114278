pub mod Adding
pub mod Computed
pub mod Later
pub mod Loading
pub mod Making
pub mod Remainders
pub mod Renaming
pub mod Renewing
