pub mod Head
pub mod Hearing
pub mod Laws
pub mod Networks
pub mod Session
pub mod Turns
