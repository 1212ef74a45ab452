pub mod Appended
pub mod Ran
