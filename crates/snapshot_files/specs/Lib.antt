pub mod Logs
pub mod Usable
pub mod Stores
pub mod Changes
pub mod Opening
pub mod Reading
pub mod Steps
pub mod Laws
