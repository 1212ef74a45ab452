pub mod Work
pub mod Batches
pub mod Kept
pub mod KeptWork
pub mod States
pub mod Laws
