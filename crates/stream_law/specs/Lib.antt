pub mod Words
pub mod Receivers
pub mod Senders
pub mod Streams
pub mod Within
pub mod Agreed
pub mod Example
pub mod Laws
