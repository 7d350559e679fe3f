pub mod Orders
pub mod Tabulate
pub mod Splice
pub mod Windows
pub mod Stores
pub mod Tests
pub mod Pigeons
