pub mod Body
pub mod Faults
pub mod Octets
pub mod Packed
pub mod Place
pub mod Store
