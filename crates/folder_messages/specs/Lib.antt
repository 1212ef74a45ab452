pub mod Needs
pub mod Parts
pub mod Entries
pub mod Spelling
pub mod Manifests
pub mod ManifestSpelling
