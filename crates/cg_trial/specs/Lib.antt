pub mod Words
pub mod Drawn
pub mod Trial
pub mod Laws
