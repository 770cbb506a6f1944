-- No end of a host has to close. Main lemmas: Programs `all_tidy` (of all pairs, at any moment), Two `unclosed` (two ends that have heard one another).
pub mod Mute
pub mod Pairs
pub mod Programs
pub mod Two
