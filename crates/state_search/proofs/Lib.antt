mod Entries
mod Reach
mod Steps
