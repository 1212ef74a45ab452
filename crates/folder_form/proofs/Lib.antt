pub mod Numbers
pub mod Parts
pub mod Sums
pub mod Stated
