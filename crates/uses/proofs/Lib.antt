mod Hints
mod Rewritings
mod Slots
