pub mod Epochs
pub mod Outlets
pub mod Checking
