pub mod AskedOf
pub mod Found
pub mod OtherState
pub mod Ending
pub mod Auditing
