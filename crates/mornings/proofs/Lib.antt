mod Fields
pub mod Rows
mod Texts
mod Limits
mod Answered
mod Puts
pub mod Verdicts
mod Sole
mod Writes
pub mod Chains
pub mod Taken
pub mod InBounds
pub mod Fits
pub mod Handed
pub mod Local
pub mod Paid
pub mod Writing
