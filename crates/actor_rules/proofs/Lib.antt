pub mod Lists
pub mod Alone
pub mod Worlds
pub mod Runs
pub mod Placing
pub mod Cuts
