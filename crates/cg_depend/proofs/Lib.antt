pub mod Members
pub mod Numbers
pub mod Congruence
pub mod Pairs
pub mod Gaps
pub mod Ordered
pub mod Unique
pub mod Valid
pub mod Always
pub mod PairTable
mod Rows
pub mod Asked
pub mod Answered
