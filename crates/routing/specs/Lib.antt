pub mod Vector
pub mod RouteTable
pub mod Walks
pub mod Settle
pub mod Inside
pub mod Laws
