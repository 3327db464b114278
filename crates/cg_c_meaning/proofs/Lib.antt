pub mod Repeated
pub mod Nesting
pub mod Taking
mod Apart
mod Walking
mod Typing
mod Iterating
mod Shaped
mod Arranged
mod Arranging
mod Whole
pub mod Grammatical
mod Worked
