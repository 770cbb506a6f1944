-- How lives end by what crossed.
pub mod Reached
pub mod Suited
pub mod Contacts
pub mod Unclosed
pub mod Together
pub mod Noted
pub mod Keys
pub mod Owed
pub mod Changed
pub mod Begun
pub mod Ahead
pub mod Opens
