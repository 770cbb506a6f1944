pub mod Words
pub mod Ends
pub mod Hearing
pub mod Openings
pub mod Spoken
pub mod Known
pub mod Laws
