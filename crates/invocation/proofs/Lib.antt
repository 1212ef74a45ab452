pub mod Endpoints
pub mod Sizing
pub mod Accepting
