pub mod Common
pub mod Digits
pub mod Hosts
pub mod Keywords
pub mod Lines
mod Messages
pub mod Numbers
pub mod OneReading
mod Parts
pub mod Places
pub mod Short
pub mod Texts
pub mod Words
pub mod lemmas
