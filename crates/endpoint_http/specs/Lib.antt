pub mod Answers
pub mod Parts
pub mod Parsed
pub mod Fields
pub mod Chunks
pub mod Taking
pub mod Framed
pub mod Written
