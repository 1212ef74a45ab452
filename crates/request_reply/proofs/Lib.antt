pub mod Puts
pub mod RoundTrip
pub mod Members
pub mod Counts
pub mod Declaring
pub mod Pieces
