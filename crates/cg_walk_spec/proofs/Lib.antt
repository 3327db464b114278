pub mod Once
pub mod Edges
pub mod Sets
pub mod Uses
pub mod Alike
pub mod Zero
pub mod Rules
pub mod Drawn
pub mod Keeps
pub mod Small
pub mod Histories
mod Rows
mod States
pub mod Undone
pub mod Pending
pub mod Early
pub mod Endings
