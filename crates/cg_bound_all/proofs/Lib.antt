pub mod Reasons
pub mod Scans
mod Fades
mod Halves
pub mod Tables
mod Networks
mod Residual
mod Sent
mod Routed
mod Built
mod Decided
pub mod Exclusions
pub mod Always
