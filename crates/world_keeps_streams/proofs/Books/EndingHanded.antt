-- A receiving life that ended by CLS took all that its partner sent, and all that was handed over there.
use Rattle.world_keeps_streams.proofs.Common.{List, sym, subst, ◌≡◌, refl, Seen, Host, Crossing, Kept, IsLawful, Moment, crossings_of, WorldState, Network, AreOurs, all_ours, Contains, Match}
use Rattle.promise.specs.Fates.{IsBeside, ClosesWhole}
use Rattle.promise.specs.declared.life.Fate.TheVariants as fate
use Rattle.promise.specs.declared.life.Life.{Life}
use Rattle.net_sim.specs.Told.{kept_in}
use Rattle.world_keeps_streams.proofs.Requests.Sides.{Lawful, book_lawful}
use Rattle.world_keeps_streams.proofs.Books.Ending.{WasClosed, ended_by_partner}
use Rattle.world_keeps_streams.proofs.Books.Handed.{took_beside}
use Rattle.world_keeps_streams.proofs.Books.Later.{closes_whole}

-- ---- all of a book

module _ (hosts : Network) (ms : List Moment) (l : Lawful hosts ms) where
  pub took_sent : (x s : Life) → AreOurs hosts x.host x.peer
      → IsBeside x fate.Ended (kept_in ms).book.lives (kept_in ms).fates → Contains (kept_in ms).book.lives s
      → Match (crossings_of ms) x s → (x.bits ≡ s.bits) × (x.messages ≡ s.messages)
  took_sent x s ours i there m = let w : WasClosed hosts ms x = ended_by_partner hosts ms l x ours i m.receiving in closes_whole hosts ms l x ours w.closed w.ours s there m

pub closes_all : (hosts : List Host) (ms : List Moment) → Lawful (all_ours hosts) ms
    → ClosesWhole (crossings_of ms) (kept_in ms).book.lives (kept_in ms).handed (kept_in ms).fates
closes_all hosts ms l = record {
  took_sent = λ x s i there m. took_sent (all_ours hosts) ms l x s (refl, refl) i there m;
  took_handed = λ x s t i j m. took_beside hosts ms l x (ended_by_partner (all_ours hosts) ms l x (refl, refl) i m.receiving).closed s t j m;
}

-- ---- worlds

pub world_ended : {C : Type 0} (seen : C → Seen) (hosts : List Host) (w : WorldState C) → IsLawful seen hosts w → ClosesWhole w.kept.book.crossings w.kept.book.lives w.kept.handed w.kept.fates
world_ended seen hosts w lawful =
    subst (λ (log : List Crossing). ClosesWhole log w.kept.book.lives w.kept.handed w.kept.fates) (sym lawful.whole.crossings)
    (subst (λ (k : Kept). ClosesWhole (crossings_of lawful.whole.moments) k.book.lives k.handed k.fates) (sym lawful.whole.kept)
    (closes_all hosts lawful.whole.moments (book_lawful seen hosts w lawful)))
