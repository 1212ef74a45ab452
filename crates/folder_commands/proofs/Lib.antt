pub mod AskedOf
pub mod Texts
pub mod Shown
pub mod Showing
pub mod LineSteps
pub mod Appending
pub mod Logged
