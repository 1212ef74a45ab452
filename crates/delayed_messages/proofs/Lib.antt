mod Orders
mod Places
mod Removing
mod Sorting
mod Outcomes
