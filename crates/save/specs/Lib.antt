pub mod Save
pub mod Readable
pub mod Visits
pub mod Parts
