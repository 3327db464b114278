pub mod Loop
pub mod Grouped
pub mod Uses
pub mod Well
pub mod Body
