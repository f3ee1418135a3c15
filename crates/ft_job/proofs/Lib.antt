pub mod Numbered
pub mod FindLaws
pub mod JobLaws
pub mod Declared
pub mod DeskLaws
pub mod Ordered
