mod Parts
mod OneWord
mod Numerals
mod Rows
mod RateEnd
mod Thens
mod FigureParts
mod ContractParts
mod Whole
mod Notes
mod FirstOut
pub mod Standing
pub mod Ranged
mod ThinNodes
mod Laying
mod FirstWords
mod Spelled
mod Rewritten
mod Weights
mod WithinLimits
mod HasText
pub mod OneContract
mod OneReading
pub mod Verdicts
mod Mapped
