-- What an audit tests: that each test is true exactly where that holds of which it is. Main lemmas: Messages `messages_decide`, Partners
-- `partners_decide`, Streams `streams_decide`, Grants `grants_decide`, Stamps `stamps_decide`, Judged `judged_says`, and Shown, where it shows.
pub mod Steps
pub mod Elements
pub mod Searches
pub mod Requests
pub mod Messages
pub mod Partners
pub mod Streams
pub mod Grants
pub mod Stamps
pub mod Judged
pub mod Shown
