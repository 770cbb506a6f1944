pub mod Users
pub mod WorkedConnections
pub mod Laws
