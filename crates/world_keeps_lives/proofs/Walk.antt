-- One walk over all that a host does with a peer, for a predicate on its ends and one on what it reports: Leaves (what has to be shown at each leaf, and
-- what is kept then of a turn) and Calls (each call of the host). By Rules, which take all changes alike that name no request, it is one lemma for each call:
-- ByRules. Never is another walk, over moments: what is so of no life up to now.
pub mod Rules
pub mod Leaves
pub mod Calls
pub mod ByRules
pub mod Never
