pub mod Blocks
pub mod Faults
pub mod Logs
pub mod Mending
pub mod Finding
pub mod Laws
