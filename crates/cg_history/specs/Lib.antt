pub mod Plain
pub mod Results
pub mod State
