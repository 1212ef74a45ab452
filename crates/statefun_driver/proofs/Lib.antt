pub mod Tracing
mod Leading
mod Phases
mod Fronts
mod Dues
mod Rows
mod Calls
mod Recorded
mod Parting
mod Turning
mod Batches
mod Trying
mod Taking
mod Settling
mod Endpoints
mod Serving
mod Resting
mod Moving
mod Lined
mod Opening
mod Stamped
pub mod Journal
mod Standing
mod Ways
mod Causes
mod Delivered
mod Emptied
mod Replays
mod Apart
mod Backed
mod Numbered
mod Stretching
mod Ended
pub mod Restored
pub mod Driving
