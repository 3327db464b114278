pub mod Bound
pub mod Check
pub mod Emit
pub mod Violations
pub mod Why
pub mod Show
