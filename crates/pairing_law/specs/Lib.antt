pub mod Marks
pub mod Ends
pub mod Sides
pub mod Partners
pub mod Links
pub mod Places
pub mod Example
pub mod Laws
