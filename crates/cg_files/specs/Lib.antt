pub mod Asked
pub mod Calls
pub mod Causes
pub mod Held
pub mod MemSink
pub mod MemStore
