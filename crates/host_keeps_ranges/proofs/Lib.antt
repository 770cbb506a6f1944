pub mod Orders
pub mod Desks
pub mod Takes
pub mod Calls
pub mod Requests
pub mod lemmas
