pub mod Why
pub mod Scan
