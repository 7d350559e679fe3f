pub mod ByBlocks
pub mod Visits
pub mod Parts
