pub mod Puts
pub mod Frames
pub mod Pairs
pub mod RoundTrip
pub mod Settled
