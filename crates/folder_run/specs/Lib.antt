pub mod Ends
pub mod Running
