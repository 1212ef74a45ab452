pub mod Routing
pub mod Kept
pub mod Urls
pub mod Partitions
pub mod JobText
pub mod Plain
