pub mod Images
pub mod Moments
pub mod Failing
pub mod Memory
pub mod Names
