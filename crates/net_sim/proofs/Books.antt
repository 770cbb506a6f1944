-- The book of a world: what each event puts into it, and what it keeps. Main lemmas: EachEvent `turn_way` (what each way in which an event can end keeps), Strangers `each_way` (the same among strangers), Whole `turn_among` (after an event it still describes one list
-- of moments), Among `step_keeps` (any event keeps a world lawful), Marks `all_changed` (what is done at the known places is done to all lives), Booked (the book has
-- what crossed), Reported `step_reported` (what services have reported is so), Refusals `step_stands` (a refusal, and running out of memory, leave it as it was).
pub mod Always
pub mod Among
pub mod BookEvents
pub mod Booked
pub mod Counts
pub mod EachEvent
pub mod Fated
pub mod Held
pub mod InOrder
pub mod Lent
pub mod LifeLoops
pub mod Machines
pub mod Marks
pub mod Nobody
pub mod Places
pub mod Refusals
pub mod Reported
pub mod RunLoop
pub mod SafeRow
pub mod Seated
pub mod Same
pub mod SomeHosts
pub mod Strangers
pub mod Undoing
pub mod Turned
pub mod Unformed
pub mod Untold
pub mod Unsafe
pub mod UnsafeEnded
pub mod Unhanded
pub mod Whole
