pub mod Services
pub mod Turns
pub mod Ears
pub mod Named
pub mod TypedLines
pub mod Worked
pub mod Laws
