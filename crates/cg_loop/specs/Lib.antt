pub mod Excess
pub mod Costs
pub mod Known
pub mod Made
