pub mod Ends
pub mod Lines
pub mod Machines
pub mod Octets
pub mod Played
pub mod Laws
