pub mod Legal
pub mod Edges
pub mod Rules
pub mod Slots
pub mod Claims
pub mod Places
pub mod Verdict
pub mod Texts
