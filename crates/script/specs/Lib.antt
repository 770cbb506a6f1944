pub mod Input
pub mod Script
pub mod Spelling
pub mod Steps
