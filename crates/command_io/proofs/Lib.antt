pub mod Heard
pub mod Written
pub mod Refused
pub mod Stays
pub mod Appended
pub mod Ran
pub mod Opened
