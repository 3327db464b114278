pub mod Over
pub mod Left
pub mod Named
pub mod MappingText
pub mod Searched
pub mod MapAnswers
pub mod Reported
pub mod SearchAnswers
