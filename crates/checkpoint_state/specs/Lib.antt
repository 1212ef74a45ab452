pub mod Stored
pub mod Meaning
pub mod Laws
pub mod Matching
