mod Programs
mod Divisions
mod MisalignedJumps
mod FarJumps
mod WordCounts
