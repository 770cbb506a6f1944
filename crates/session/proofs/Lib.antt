pub mod Common
mod Heads
mod Laws
mod Lines
mod Parts
mod Sessions
mod Strangers
mod Turns
