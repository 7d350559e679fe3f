pub mod Blocks
pub mod Fits
pub mod Fitted
pub mod Limits
pub mod Outcomes
