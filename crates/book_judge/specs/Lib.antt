pub mod Runs
pub mod Lives
pub mod Fates
pub mod Broken
pub mod Toward
pub mod Inside
pub mod WorkedPlaces
pub mod WorkedLives
