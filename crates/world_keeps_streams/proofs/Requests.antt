-- The own request and the partner's of each life, connection by connection. Main lemmas: Sides `coupled_in` (two hosts beside the law of pairing),
-- Names `request_grows` (a request stays the same while more crosses), Own `own_is_of` (the own request of a receiving life), Placed `matched_law`
-- (two lives of one connection match), Now (requests of an end that is there), Untaken `finds`
-- (what goes out wasn't taken before).
pub mod Names
pub mod Now
pub mod Own
pub mod Placed
pub mod Sides
pub mod Untaken
