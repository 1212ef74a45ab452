pub mod Words
pub mod Reading
pub mod Telling
pub mod Folders
pub mod Runs
