pub mod Traced
pub mod Recorded
pub mod Program
pub mod Named
pub mod WorkedSides
pub mod Laws
