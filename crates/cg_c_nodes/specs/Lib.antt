pub mod Beside
pub mod Compiled
pub mod Placed
pub mod Running
