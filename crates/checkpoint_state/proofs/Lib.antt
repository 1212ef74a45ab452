pub mod Records
pub mod Stored
pub mod Good
pub mod Egress
pub mod Examples
pub mod AtCheckpoint
pub mod Owned
