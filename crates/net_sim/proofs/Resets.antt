-- The hosts of a world as a run of the law of resets, and what follows for clean resets. Main lemmas: Coupled `coupled` (the hosts over the mailboxes
-- are a run of the law), StoryLemmas `story_agrees` (each program is where the law has it), Bridge `places_same` (crossings at the same places), Clean
-- `step_lawful` (worlds stay lawful), Unheard `unheard` (a host that is not through a reset does nothing with a text).
pub mod Bridge
pub mod Calls
pub mod Clean
pub mod Coupled
pub mod Kept
pub mod Offers
pub mod Ordered
pub mod Settled
pub mod Spelled
pub mod StoryLemmas
pub mod Turns
pub mod Unheard
