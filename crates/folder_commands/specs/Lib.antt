pub mod ShowWords
pub mod Shown
pub mod Show
pub mod AppendWords
pub mod LogText
pub mod Lines
pub mod Append
pub mod Laws
