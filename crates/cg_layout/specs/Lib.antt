pub mod Svg
pub mod Tiles
pub mod Layout
pub mod Ways
pub mod Places
pub mod Ends
