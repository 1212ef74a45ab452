pub mod Behind
pub mod Alike
pub mod Exactly
