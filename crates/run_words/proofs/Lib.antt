pub mod Digits
pub mod FirstWrong
pub mod Budget
pub mod Bounds
pub mod Steps
pub mod Prefixes
