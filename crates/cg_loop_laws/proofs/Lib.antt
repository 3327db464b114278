mod Sound
mod Firsts
mod Quiet
mod Right
mod Scopes
mod Assigned
mod Places
pub mod Ruled
mod Texts
mod Members
mod Stands
mod Wired
mod Effects
mod Expressions
mod Statements
pub mod LoopTurns
mod Accesses
pub mod Edges
mod Nodes
mod Numbered
mod Values
mod Outputs
pub mod Valid
pub mod Rows
