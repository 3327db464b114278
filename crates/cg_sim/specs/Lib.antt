pub mod Plan
pub mod Settle
pub mod Run
pub mod State
pub mod FirstMachine
