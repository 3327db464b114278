pub mod Chains
pub mod Bound
pub mod LinkLists
pub mod Seen
pub mod Found
pub mod UnderWay
pub mod Searches
pub mod Decided
