-- The calls of `Subnet`: what they leave, what hosts see, and when memory may run out. Main lemmas: Working `offer_shown`, `take_shown`, `step_shown`
-- and `round_shown` (what each call shows), Rounds `quiet_round_sound` (what a quiet round keeps), RoundMemory (when it may need memory), Silence
-- `not_alive` (a question that finds nothing alive), Opens (a subnet opens).
pub mod Attempting
pub mod Awaiting
pub mod Carries
pub mod Carrying
pub mod Delivering
pub mod Ending
pub mod Highest
pub mod Joining
pub mod Living
pub mod Losing
pub mod Opens
pub mod Outstanding
pub mod Owning
pub mod Passes
pub mod Putting
pub mod Resending
pub mod Refusing
pub mod Restful
pub mod Resting
pub mod RoundMemory
pub mod Rounds
pub mod Settled
pub mod Showing
pub mod Silence
pub mod SiteHosts
pub mod Starts
pub mod Stopping
pub mod Stuck
pub mod Taken
pub mod Telling
pub mod Working
