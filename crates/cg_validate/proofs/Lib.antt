pub mod Places
pub mod Units
pub mod Roles
pub mod Distinct
pub mod Clean
pub mod Names
pub mod Resources
pub mod Owners
pub mod Apart
pub mod Complete
pub mod Valid
pub mod Missing
pub mod Answered
pub mod Solved
mod Rows
