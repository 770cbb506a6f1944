-- The lemmas of this crate that others may use: the proofs of headline and mixed_worlds do. All others in proofs/ are its own.
pub use Rattle.world_keeps_streams.proofs.Books.Agree.{world_agrees}
pub use Rattle.world_keeps_streams.proofs.Books.All.{world_sent, world_source}
pub use Rattle.world_keeps_streams.proofs.Books.Answered.{world_answered}
pub use Rattle.world_keeps_streams.proofs.Ends.Arrived.{world_arrived}
pub use Rattle.world_keeps_streams.proofs.Books.Arrives.{world_arrives}
pub use Rattle.world_keeps_streams.proofs.Books.Between.{world_between}
pub use Rattle.world_keeps_streams.proofs.Books.Calm.{done, silent_next, world_calms}
pub use Rattle.world_keeps_streams.proofs.Books.Comes.{world_comes}
pub use Rattle.world_keeps_streams.proofs.Books.Came.{world_came}
pub use Rattle.world_keeps_streams.proofs.Books.Closes.{world_rests}
pub use Rattle.world_keeps_streams.proofs.Books.EndingHanded.{world_ended}
pub use Rattle.world_keeps_streams.proofs.Books.Handed.{took_all, world_handed_over}
pub use Rattle.world_keeps_streams.proofs.Books.Later.{world_closes}
pub use Rattle.world_keeps_streams.proofs.Books.Settled.{world_settles}
pub use Rattle.world_keeps_streams.proofs.Books.WasSent.{world_was_sent}
pub use Rattle.world_keeps_streams.proofs.Books.Firsts.{world_firsts, world_formed}
pub use Rattle.world_keeps_streams.proofs.Ends.Contacts.{contacts_now_are, world_contacts}
pub use Rattle.world_keeps_streams.proofs.Ends.Fits.{world_over}
pub use Rattle.world_keeps_streams.proofs.Ends.Within.{world_within}
pub use Rattle.world_keeps_streams.proofs.Lives.Among.{among_there, in_beside}
