pub mod Book
pub mod Arrived
pub mod Laws
pub mod Mixed
pub mod Worked
pub mod Toward
pub mod Told
