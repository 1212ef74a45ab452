pub mod Varint
pub mod Record
pub mod Places
pub mod Reads
pub mod Message
pub mod Kinds
pub mod Encoding
pub mod Laws
