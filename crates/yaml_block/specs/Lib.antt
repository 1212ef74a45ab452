pub mod Scalars
pub mod Lines
pub mod Layout
pub mod Trees
pub mod Documents
pub mod Laws
pub mod Steps
