pub mod Words
pub mod Ends
pub mod Stored
pub mod Judged
pub mod Audited
