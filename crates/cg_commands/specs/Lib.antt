pub mod Trial
pub mod Commands
pub mod Chain
