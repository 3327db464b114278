pub mod Totals
pub mod Balance
pub mod Sets
pub mod Moves
pub mod Visits
pub mod Shifts
pub mod Answers
pub mod Subsets
