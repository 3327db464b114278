pub mod InputsRead
pub mod Trialed
pub mod Commands
pub mod Judged
pub mod Left
pub mod Defined
pub mod Written
pub mod Chain
