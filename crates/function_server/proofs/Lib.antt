pub mod Tabling
pub mod Outcomes
pub mod Backing
pub mod Refusals
pub mod Counting
