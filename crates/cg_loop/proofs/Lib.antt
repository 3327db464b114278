pub mod Costs
pub mod Envs
pub mod Computing
pub mod Bodies
pub mod Excesses
pub mod Valid
