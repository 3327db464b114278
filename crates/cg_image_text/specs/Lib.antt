pub mod Fields
pub mod Numbers
pub mod Places
pub mod Runs
pub mod Sections
pub mod Steps
pub mod Texts
pub mod Printed
