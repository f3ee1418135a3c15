pub mod Cut
pub mod Lanes
pub mod Reply
pub mod Judged
pub mod Ends
