pub mod Carriage
pub mod Examples
pub mod Format
pub mod Holding
pub mod Line
pub mod Schedule
pub mod Laws
