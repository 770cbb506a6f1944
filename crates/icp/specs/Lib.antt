pub mod Notices
pub mod Outcomes
pub mod Played
pub mod Server
pub mod Sockets
pub mod User
pub mod Worked
pub mod Laws
