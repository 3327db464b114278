mod Adding
mod Bits
mod Choosing
mod Comparing
mod Deciding
mod Done
mod Found
pub mod Known
mod Planning
mod Shifting
mod Truths
