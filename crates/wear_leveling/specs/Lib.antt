pub mod Open
pub mod Read
pub mod Write
pub mod Commit
pub mod Format
