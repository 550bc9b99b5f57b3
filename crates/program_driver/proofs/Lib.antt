mod Rounding
mod Driven
mod Causes
mod Lining
mod Traced
mod Turning
mod Bottomless
mod Reported
mod Idling
mod Passing
mod AtOnce
mod Stretching
mod Silent
mod CallReads
mod Using
pub mod FirstUses
mod WorkedUses
