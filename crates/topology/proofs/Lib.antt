pub mod Common
pub mod Described
mod Documents
mod Hosts
pub mod Picked
pub mod Order
pub mod Sites
mod Ports
pub mod lemmas
