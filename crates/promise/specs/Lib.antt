-- All that must be believed of the headline, in reading order, beside the mailboxes of `interface` and how texts of messages are read.
pub mod Book
pub mod Safe
pub mod Formed
pub mod Notices
pub mod Connections
pub mod Fates
pub mod Ends
pub mod Arrived
-- words of worked examples
pub mod Worked
