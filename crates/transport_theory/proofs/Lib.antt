pub mod Networks
pub mod Places
pub mod Paths
pub mod SearchRows
pub mod Searches
pub mod WalkRows
pub mod Walks
pub mod RoundRows
pub mod Turns
pub mod LinkRows
pub mod LinkWrites
pub mod PlanRows
pub mod Plans
pub mod TransportRows
pub mod Sending
pub mod Writing
mod Examples
