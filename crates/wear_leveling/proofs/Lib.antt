pub mod Admission
pub mod Commits
pub mod Formats
pub mod Granted
pub mod Lying
pub mod Short
