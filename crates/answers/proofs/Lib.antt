pub mod Numbers
pub mod Searches
