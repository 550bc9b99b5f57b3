mod Opens
mod Running
mod Demonstrating
