pub mod Run
pub mod Settle
pub mod State
pub mod Kept
