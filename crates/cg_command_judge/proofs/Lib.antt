pub mod Checked
pub mod Bitstream
pub mod Bounded
pub mod Listed
pub mod Explained
pub mod Margins
pub mod Shown
