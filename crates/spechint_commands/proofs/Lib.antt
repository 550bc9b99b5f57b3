mod AsPlain
mod Causes
mod Promised
mod Defined
