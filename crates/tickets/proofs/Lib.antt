pub mod Sectors
pub mod Fitting
