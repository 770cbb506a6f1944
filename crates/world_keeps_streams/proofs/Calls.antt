-- The calls that a host's program makes with one peer, over all moments of a world: they lead from one list of ends to the next, and each of them
-- may be made. Main lemmas: Moved `moved` (one call), Chain `chain` (all calls since the host dropped its ends), Chain `ready_both` (a program is
-- through a reset where the law has it so), Allowed `may_calls` (each call of a moment may be made), MayAll `allowed` (each call of a host may).
pub mod Allowed
pub mod CallSizes
pub mod Chain
pub mod Counted
pub mod Leads
pub mod May
pub mod MayAll
pub mod MayAsk
pub mod MayCalls
pub mod MayHear
pub mod MayLaw
pub mod MayTurns
pub mod Moved
pub mod Sizes
