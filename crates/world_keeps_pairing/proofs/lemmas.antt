-- The lemmas of this crate that others may use: the proofs of headline, world_keeps_connections, world_keeps_lives and world_keeps_streams do. All others in proofs/ are its own.
pub use Rattle.world_keeps_pairing.proofs.AllOurs
pub use Rattle.world_keeps_pairing.proofs.BookPartners.{life_alone, life_in, life_matches, life_paired, one_own, other_sends, partner_named, place_there, safe_partners, two_left, two_right}
pub use Rattle.world_keeps_pairing.proofs.LifeLists.{between_itself, in_among, in_book, told_in, two_in_book}
pub use Rattle.world_keeps_pairing.proofs.LinkDesks.{and_never}
pub use Rattle.world_keeps_pairing.proofs.LinkGone.{some_commands}
pub use Rattle.world_keeps_pairing.proofs.LinkRun.{AllTied, all_tied, heard_off_in, queued_commands, queued_link, queued_once, takes}
pub use Rattle.world_keeps_pairing.proofs.LinkTied.{message_pair, offered_pair}
pub use Rattle.world_keeps_pairing.proofs.LinkTurns.{odd_send, send_odd, some_is}
pub use Rattle.world_keeps_pairing.proofs.LivesAmong.{by_sockets, lives_among}
pub use Rattle.world_keeps_pairing.proofs.Marks.{IsPair, even_odd, foreign_of, own_of}
pub use Rattle.world_keeps_pairing.proofs.Messages.{Hears, IsFrom, are_same}
pub use Rattle.world_keeps_pairing.proofs.Moments.{Side_of, Tie, waiting}
pub use Rattle.world_keeps_pairing.proofs.Origins.{are_origins, served_below}
pub use Rattle.world_keeps_pairing.proofs.Programs.{AText, AnRrp, AnRst, Sort, plain_joint, sort_of}
pub use Rattle.world_keeps_pairing.proofs.Served.{AreServed, served_in}
pub use Rattle.world_keeps_pairing.proofs.Sides.{Unheard, all_hears, all_says, at_texts, before, half, hears_if, left_if, met_if, receiver_half, sender_half, unheard}
pub use Rattle.world_keeps_pairing.proofs.Tied.{AreOrigins, IsOrigin, programs_ranged, receiver_hears, sender_hears}
pub use Rattle.world_keeps_pairing.proofs.Turns.{heard_is, other, ready_is}
pub use Rattle.world_keeps_pairing.proofs.Unpaired.{IsSilent, IsUnpaired, unpaired_turned, waiting_silent}
pub use Rattle.world_keeps_pairing.proofs.UnpairedMoments.{AllBare, all_bare, mail_below}
pub use Rattle.world_keeps_pairing.proofs.AllOurs.{book_lives, book_run, world_alone, world_partners}
