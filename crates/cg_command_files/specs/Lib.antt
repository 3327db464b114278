pub mod Loop
pub mod Image
pub mod Words
pub mod Verilog
pub mod Depend
pub mod Simplify
pub mod Migrate
