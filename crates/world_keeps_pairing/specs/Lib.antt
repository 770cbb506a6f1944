pub mod Steps
pub mod Free
pub mod Lives
pub mod WorkedLives
pub mod Laws
