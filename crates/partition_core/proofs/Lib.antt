mod Idle
mod Changing
pub mod Posting
mod Delaying
mod TheMachine
mod Fitting
mod Sending
mod InTurn
mod KeptCells
mod KeptStates
mod PutBack
mod KeptWaiting
