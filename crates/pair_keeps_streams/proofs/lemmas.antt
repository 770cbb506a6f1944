-- The lemmas of this crate that others may use: the proofs of world_keeps_streams do. All others in proofs/ are its own.
pub use Rattle.pair_keeps_streams.proofs.After.{Stepped, after, x_after, y_after}
pub use Rattle.pair_keeps_streams.proofs.Agree.{OfOne, agree, counters, giver_heard, linked, linked_waiting, taker_heard}
pub use Rattle.pair_keeps_streams.proofs.AllSteps.{Steps, all_steps}
pub use Rattle.pair_keeps_streams.proofs.Finds.{finds_free}
pub use Rattle.pair_keeps_streams.proofs.Granted.{IsRequest, NotTaken, taken_gone}
pub use Rattle.pair_keeps_streams.proofs.Heard.{IsFirstCall, heard_more, heard_step}
pub use Rattle.pair_keeps_streams.proofs.Joint.{Fetched, Free, IsFirst, IsPaired, IsPairedCall, IsPosted, Joint, Lies, Party, Post, queue_by, receives, sends}
pub use Rattle.pair_keeps_streams.proofs.Parting.{IsWordless, mirror, opened}
pub use Rattle.pair_keeps_streams.proofs.Queues.{AreSeparate, Stays, at_changed, kept_if, separate, sweep_found}
pub use Rattle.pair_keeps_streams.proofs.StepAsks.{IsAsking}
pub use Rattle.pair_keeps_streams.proofs.StepHears.{IsHeard}
pub use Rattle.pair_keeps_streams.proofs.Streams.{receives_receiver, receives_sender, sends_receiver, sends_sender}
