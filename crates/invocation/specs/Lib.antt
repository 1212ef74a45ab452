pub mod Requests
pub mod Effects
pub mod Judging
pub mod Laws
