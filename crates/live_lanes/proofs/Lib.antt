pub mod Sent
pub mod Orders
pub mod Counting
pub mod Serving
pub mod Conducting
pub mod LaneRuns
