pub mod Entries
pub mod Moved
pub mod Replay
pub mod Steps
pub mod Opened
