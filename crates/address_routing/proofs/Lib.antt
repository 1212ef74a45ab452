mod Templates
mod Naming
mod Hashes
mod JobWords
mod JobLines
