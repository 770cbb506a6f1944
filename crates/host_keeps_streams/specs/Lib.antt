pub mod Ends
pub mod Said
pub mod Closings
pub mod Names
pub mod Moves
pub mod Formed
pub mod Histories
pub mod Laws
