pub mod Topology
pub mod Reading
pub mod Examples
pub mod Laws
