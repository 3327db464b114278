mod Cells
mod Settled
mod Works
mod Running
pub mod Listed
pub mod Chosen
pub mod Named
pub mod Once
pub mod Ranked
pub mod Muxes
pub mod Wired
