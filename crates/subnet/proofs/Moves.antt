-- Each event of a subnet as moves of the flow law. Main lemmas: Offers `offer_sound`, Takes `take_sound`, Deliveries `deliver_sound` (these three
-- events), EventSteps `step_sound` (each event keeps a subnet sound), WholeRuns `always_run` (the log is a run of the mailboxes).
pub mod Askable
pub mod Asking
pub mod Deliveries
pub mod EventSteps
pub mod Fates
pub mod Forgetting
pub mod GivingUp
pub mod HostsDown
pub mod HostsUp
pub mod ImpsDown
pub mod ImpsUp
pub mod ManyFlows
pub mod Offers
pub mod Openings
pub mod QuietCalls
pub mod Stepping
pub mod Takes
pub mod Turns
pub mod Views
pub mod WholeRuns
