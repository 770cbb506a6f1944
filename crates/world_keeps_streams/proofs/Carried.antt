-- The lives of a host with one peer beside the calls of its program: each life has what the laws of its link have. Main lemmas: World
-- `carries_numbered` and `carries_turned` (at all lawful moments), Every `carries_by` (from each moment to the next), Moments `single_next` (a moment
-- with one call), Owned `told_lives` (lives that continue and their ends).
pub mod All
pub mod Calls
pub mod Every
pub mod Heard
pub mod Moments
pub mod Next
pub mod Owned
pub mod Said
pub mod Step
pub mod Still
pub mod Streams
pub mod World
