pub mod Exact
pub mod Exponents
pub mod Recurrence
