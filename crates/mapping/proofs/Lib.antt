pub mod Onto
pub mod Fitted
pub mod Highs
pub mod Walks
