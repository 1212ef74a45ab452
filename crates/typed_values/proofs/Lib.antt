pub mod Sameness
pub mod Slash
pub mod RoundTrip
pub mod Fields
pub mod LastRecord
pub mod Orders
