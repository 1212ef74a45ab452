pub mod Images
pub mod Calls
pub mod Saves
