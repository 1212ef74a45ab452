pub mod Starts
pub mod Backed
pub mod Logs
