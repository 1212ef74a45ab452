pub mod Onward
pub mod Kept
