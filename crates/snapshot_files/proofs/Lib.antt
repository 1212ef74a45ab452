mod Growing
mod Writing
mod Places
mod Checkpoints
pub mod Folding
mod Advancing
mod AllOpened
mod WholeManifest
mod FirstBlock
mod WholeFolder
mod Loads
mod KeptCheckpoints
pub mod OneThing
pub mod Owned
