pub mod Common
pub mod Carried
pub mod Known
pub mod Users
pub mod Going
pub mod Matches
pub mod Paired
pub mod lemmas
