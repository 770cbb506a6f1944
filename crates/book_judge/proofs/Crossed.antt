-- The messages that crossed: those of lives, those that were taken, and those that wait.
pub mod SameText
pub mod TextsBy
pub mod Made
pub mod Taken
pub mod Streamed
pub mod Supplies
pub mod Granted
pub mod Numbers
pub mod Arrivals
pub mod Sent
pub mod Counted
pub mod Numbered
pub mod Mailboxes
