pub mod Growing
pub mod Shown
