pub mod Log
pub mod Numbered
pub mod Path
pub mod Recurrences
pub mod Chain
pub mod Edges
pub mod Listed
