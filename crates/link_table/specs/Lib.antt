pub mod Codes
pub mod Flows
pub mod Keys
pub mod Numbers
pub mod Window
pub mod Laws
