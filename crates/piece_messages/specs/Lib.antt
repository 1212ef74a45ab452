pub mod Stored
pub mod States
pub mod Spelling
pub mod Stands
