-- What is said of the first lives, with one more: of the streams and grants, of closes, and toward strangers.
pub mod Fed
pub mod Shown
pub mod Lost
pub mod Strangers
