-- The lemmas of this crate that others may use: the proofs of headline, mixed_worlds and world_keeps_streams do.
-- All others in proofs/ are its own.
pub use Rattle.world_keeps_lives.proofs.AllOurs
pub use Rattle.world_keeps_lives.proofs.AllOurs.{drained, handed, live, taken}
pub use Rattle.world_keeps_lives.proofs.AllOurs.{world_drained, world_handed, world_taken, world_told}
pub use Rattle.world_keeps_lives.proofs.Among
pub use Rattle.world_keeps_lives.proofs.AnyPeer.{SomeEnd, any_message, one_order}
pub use Rattle.world_keeps_lives.proofs.Asks.{request_holds}
pub use Rattle.world_keeps_lives.proofs.Books.{all_told_append, each_ending}
pub use Rattle.world_keeps_lives.proofs.Calms.{map_two}
pub use Rattle.world_keeps_lives.proofs.Desks.{AreAside, At, Elsewhere, IsLess, Near, Place, at_aside, clash, open_mine, open_parts}
pub use Rattle.world_keeps_lives.proofs.Drained
pub use Rattle.world_keeps_lives.proofs.Drained.{handed_in}
pub use Rattle.world_keeps_lives.proofs.Ends.{IsRefusing, found_changed, none_changed, refusing_found}
pub use Rattle.world_keeps_lives.proofs.Facts.{no}
pub use Rattle.world_keeps_lives.proofs.Firsts.Books.{WasAt, same_out}
pub use Rattle.world_keeps_lives.proofs.Firsts.Ends.{HasOwner, Together, not_zero, str_foreign}
pub use Rattle.world_keeps_lives.proofs.Firsts.Full
pub use Rattle.world_keeps_lives.proofs.Firsts.Rows.{gave_sent, gave_stray, gave_two, not_receiving, not_sending}
pub use Rattle.world_keeps_lives.proofs.Formed
pub use Rattle.world_keeps_lives.proofs.Goes.{IsOfTwo, Waits, all_go, unasked_by}
pub use Rattle.world_keeps_lives.proofs.Grounds.{crossed_below}
pub use Rattle.world_keeps_lives.proofs.Hosts.{HasEnds, Holds, answer_holds, message_holds}
pub use Rattle.world_keeps_lives.proofs.Hosts.{offer_holds, same_turned, waits}
pub use Rattle.world_keeps_lives.proofs.Laws.{live_end, safe_life}
pub use Rattle.world_keeps_lives.proofs.Laws
pub use Rattle.world_keeps_lives.proofs.Firsts.Books
pub use Rattle.world_keeps_lives.proofs.Firsts.Linked.{HasRequests, Linked, LinkedBook}
pub use Rattle.world_keeps_lives.proofs.Moments.{opening_holds}
pub use Rattle.world_keeps_lives.proofs.Named.{NamedAt, Names, found_at, named_again, named_is, named_there, names_of, some_named, way_of}
pub use Rattle.world_keeps_lives.proofs.Named.{none_some}
pub use Rattle.world_keeps_lives.proofs.Walk.Never.{has_not, never_earlier}
unfoldable pub use Rattle.world_keeps_lives.proofs.Walk.Never.{never_has, none_has}
pub use Rattle.world_keeps_lives.proofs.Notices.{kept_log, told}
pub use Rattle.world_keeps_lives.proofs.Owners.{owner_found}
pub use Rattle.world_keeps_lives.proofs.Pairs.{goes_at, goes_on, goes_with, handed_among, not_both, prefix_more}
pub use Rattle.world_keeps_lives.proofs.Walk.ByRules.{Done, Ends, answer_keeps, goes_all, leaves, may_grant, message_keeps}
pub use Rattle.world_keeps_lives.proofs.Walk.ByRules.{offer_keeps, request_keeps, request_told, starts}
pub use Rattle.world_keeps_lives.proofs.Walk.Rules.{Begins, Each, Goes, Hears, IsOther, MayTell, Quiet}
pub use Rattle.world_keeps_lives.proofs.Walk.Rules.{Rules, each_first, each_in, each_of, each_weaker, found_in, quiet_off, quiet_sent}
pub use Rattle.world_keeps_lives.proofs.Rows.{none_there}
pub use Rattle.world_keeps_lives.proofs.Sockets.{IsFit}
pub use Rattle.world_keeps_lives.proofs.Sockets
pub use Rattle.world_keeps_lives.proofs.Steps.{called_less, closed_less, good_queued, heard_less, sent_less}
pub use Rattle.world_keeps_lives.proofs.Takes.{G, good_data, good_taken}
pub use Rattle.world_keeps_lives.proofs.Firsts.Texts.{before_still, texts_none, texts_one, texts_same}
pub use Rattle.world_keeps_lives.proofs.Turns.{GoodTurn, good_ready, good_reset}
pub use Rattle.world_keeps_lives.proofs.Unopened.{IsNoOpening, unopened}
pub use Rattle.world_keeps_lives.proofs.Walk.Leaves.{GoesAll, HearsAll, IsNoMore, IsUnended, Leaves, MaySay, Plain}
pub use Rattle.world_keeps_lives.proofs.Walk.Leaves.{Starts, no_more, off_unsent, turn_order}
pub use Rattle.world_keeps_lives.proofs.Walk.Calls.{MayGrant, answer_passes, message_passes, offer_passes, request_passes, turn_passes}
