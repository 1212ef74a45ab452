pub mod Puts
pub mod Lists
pub mod Steps
pub mod RoundTrip
pub mod ManifestRoundTrip
