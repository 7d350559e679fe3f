pub mod Handed
pub mod Run
pub mod Demand
pub mod Good
pub mod Cases
pub mod Opening
pub mod Table
pub mod Keeps
