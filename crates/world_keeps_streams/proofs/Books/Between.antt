-- Each message of data goes between two lives of the book (`each_is_between`).
use Rattle.world_keeps_streams.proofs.Common.{◌≡◌, ℕ, ◌+◌, ◌<◌, ◌≤◌, ◌==◌, true, false, List, length, refl, sym, subst, arith, Contains, Seen, Host, Crossing, HostMessage, IsLawful, Moment, crossings_of, WorldState, book_lives, odd_send, IsSentIn, AreOurs, Network, all_ours, among_all, lives_among, mixed_kept}
use Rattle.interface.specs.declared.crossing.Crossing.TheVariants as crossing
use Rattle.promise.specs.Formed.{CrossedAt, link_of, texts_on}
use Rattle.promise.specs.Safe.{Match, before, sends}
use Rattle.promise.specs.declared.life.Life.{Life}
use Rattle.net_sim.specs.Told.{kept_in}
use Rattle.world_keeps_streams.specs.Between.{EachIsBetween, IsBetween}
use Rattle.world_keeps_streams.proofs.Books.Firsts.{sent_in}
use Rattle.world_keeps_streams.proofs.Ends.Arrived.{granter}
use Rattle.world_keeps_streams.proofs.Lives.Among.{among_there, now_kept}
use Rattle.world_keeps_streams.proofs.Lives.Lists.{IsOf, contains, is_of}
use Rattle.world_keeps_streams.proofs.Ours.{ours_receiver}
use Rattle.world_keeps_streams.proofs.Requests.Sides.{Lawful, lives_in, book_lawful}

module _ (hosts : Network) (ms : List Moment) (l : Lawful hosts ms) (place : ℕ) (m : HostMessage)
    (crossed : CrossedAt place (crossing.Out m) (crossings_of ms)) (off : (m.flow.link.0 == 0) ≡ false)
    (ours : AreOurs hosts m.flow.source m.flow.destination) where
  -- who sent it
  abbrev was : (x : Life) × Contains (lives_among hosts.strange (mixed_kept hosts.strange ms).book.lives) x
      × IsSentIn (crossings_of ms) place m x
  was = sent_in hosts ms l place m ours crossed off

  abbrev s : Life
  s = was.0

  there : Contains (kept_in ms).book.lives s × AreOurs hosts s.host s.peer
  there = now_kept hosts ms s was.1

  kind : sends s ≡ true
  kind = odd_send s.socket was.2.sending

  -- and who granted what was sent
  abbrev gave : (r : Life) × IsOf r (lives_in ms) × Match (crossings_of ms) r s
  gave = granter hosts ms l s there.1 (is_of s (lives_in ms) there.0) kind
      (let less : length (texts_on s (link_of (crossings_of ms) s) (before place (crossings_of ms))) < s.messages =
      was.2.counted in omega (arith, less))

  pub is_between : IsBetween (crossings_of ms) (lives_among hosts.strange (kept_in ms).book.lives) place m
  is_between = record {
    sender = s;
    receiver = gave.0;
    there = among_there hosts s (lives_in ms) there.1 there.0;
    partner = among_there hosts gave.0 (lives_in ms) (ours_receiver hosts gave.2 there.1)
        (contains gave.0 (lives_in ms) gave.1);
    matches = gave.2;
    counted = record { flow = was.2.flow; own = was.2.own; partner = was.2.partner; counted = was.2.counted };
  }

-- where all hosts run the program, so it is of all messages and lives
pub each_is_between : (hosts : List Host) (ms : List Moment) → Lawful (all_ours hosts) ms
    → EachIsBetween (crossings_of ms) (kept_in ms).book.lives
each_is_between hosts ms l place m crossed off =
    subst (λ (ls : List Life). IsBetween (crossings_of ms) ls place m) (among_all (kept_in ms).book.lives)
    (is_between (all_ours hosts) ms l place m crossed off (refl, refl))

pub world_between : {C : Type 0} (seen : C → Seen) (hosts : List Host) (w : WorldState C) → IsLawful seen hosts w
    → EachIsBetween w.kept.book.crossings w.kept.book.lives
world_between seen hosts w lawful =
    subst (λ (log : List Crossing). EachIsBetween log w.kept.book.lives) (sym lawful.whole.crossings)
    (subst (λ (lives : List Life). EachIsBetween (crossings_of lawful.whole.moments) lives)
    (sym (book_lives seen hosts w lawful))
    (each_is_between hosts lawful.whole.moments (book_lawful seen hosts w lawful)))
