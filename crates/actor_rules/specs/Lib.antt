pub mod Rules
pub mod Keys
pub mod Apart
pub mod Laws
