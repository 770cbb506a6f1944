-- The messages of each life are the first on its link, and each message that goes out is one of a life: Books, over all moments, by Steps from one to the
-- next. Ends has the ends of lives that aren't over, and Lists what holds of lists of lives with their links. Rows has books of which it is so, and others.
pub mod Linked
pub mod Lists
pub mod Texts
pub mod Ends
pub mod Steps
pub mod Books
pub mod Full
pub mod Rows
