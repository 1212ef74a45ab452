pub mod Listed
pub mod RoundTrip
