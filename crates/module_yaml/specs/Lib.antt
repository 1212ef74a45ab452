pub mod Nodes
pub mod Mappings
pub mod Values
pub mod Keys
pub mod Files
pub mod Told
