pub mod Lines
pub mod Boxes
pub mod Post
pub mod Batches
pub mod Kept
pub mod Laws
