pub mod Histories
pub mod HistoryRings
pub mod Replies
pub mod Orders
pub mod WrittenLogs
pub mod OneText
pub mod Ends
pub mod Merges
