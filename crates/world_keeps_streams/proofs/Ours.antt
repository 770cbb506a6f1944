-- A host with a program, whatever strangers do: what it has on each socket, where `kept_in` has what every program would report. Strangers
-- report nothing, and what one would report changes no life of another host.
use Rattle.world_keeps_streams.proofs.Common.{◌≡◌, inl, inr, ℕ, false, List, [], ◌∷◌, refl, sym, subst, Contains, Host, Crossing, Match, HaveAddresses, Moment, program, Happened, AreOurs, Network, pair_with, crossings_of, Coupled, coupled, origin_in, HasOpenEnd}
use Rattle.world_keeps_pairing.proofs.lemmas.{AllTied, all_tied, are_origins, mail_below, served_in}
use Rattle.interface.specs.Mailboxes as mail
use Rattle.promise.specs.declared.life.Life.{Life}
use Rattle.net_sim.specs.Book.{opening_kept}
use Rattle.net_sim.specs.Told.{kept_in}
use Rattle.world_keeps_lives.proofs.lemmas.{HasEnds, Holds, live_end, opening_holds}
use Rattle.world_keeps_lives.proofs.lemmas.Sockets.{fit, idle, ordered, own_moment}

pub held : (a : Host) (k : ℕ) (hosts : Network) → HaveAddresses hosts.all → hosts.strange a ≡ false
    → (moments : List Moment) → mail.IsRun hosts.all (crossings_of moments) → Happened hosts moments
    → Holds a k (program a moments) (kept_in moments)
held a k hosts addresses plain [] run time = opening_holds a k opening_kept tt
held a k hosts addresses plain (x ∷ moments) run time =
    own_moment hosts addresses a plain k x moments _ run time (ordered hosts addresses a plain moments (mail_below hosts.all x moments run) time.1)
    (fit hosts addresses a plain moments (mail_below hosts.all x moments run) time.1) (idle hosts addresses a plain moments (mail_below hosts.all x moments run) time.1)
    (held a k hosts addresses plain moments (mail_below hosts.all x moments run) time.1)

module _ (hosts : Network) (moments : List Moment) (addresses : HaveAddresses hosts.all)
    (run : mail.IsRun hosts.all (crossings_of moments)) (time : Happened hosts moments) where
  pub live : (x : Life) → hosts.strange x.host ≡ false → Contains (kept_in moments).book.lives x → x.ended ≡ false
      → HasOpenEnd (program x.host moments) x
  live x plain there goes = live_end (program x.host moments) (kept_in moments) x there goes (held x.host x.socket hosts addresses plain moments run time)

  pub has_ends : (a p : Host) → AreOurs hosts a p
      → HasEnds (origin_in (crossings_of moments) a p) (pair_with p (program a moments).peers)
  has_ends a p ours own foreign two = elim two [
    | inl r ↦ (_, (tied.tied a p ours).receiver (record { receive = own; send = foreign }) (r.0, r.1))
    | inr s ↦ (_, (tied.tied p a (ours.1, ours.0)).sender (record { receive = foreign; send = own }) (s.1, s.0))
  ] where
    tied : AllTied hosts (origin_in (crossings_of moments)) moments
    tied =
        let c : Coupled hosts moments = coupled hosts addresses moments run time in
        all_tied hosts _ moments (are_origins 0 _ [] moments refl) c.story c.run (served_in hosts moments time)

-- a life of two such hosts
pub ours_of : (hosts : Network) (x : Life) (a b : Host) → AreOurs hosts a b → (x.host ≡ a) × (x.peer ≡ b)
    → AreOurs hosts x.host x.peer
ours_of hosts x a b ours of_a = (subst (λ (h : Host). hosts.strange h ≡ false) (sym of_a.0) ours.0, subst (λ (h : Host). hosts.strange h ≡ false) (sym of_a.1) ours.1)

-- and of the one that it matches
pub ours_sender : (hosts : Network) {log : List Crossing} {x s : Life} → Match log x s → AreOurs hosts x.host x.peer
    → AreOurs hosts s.host s.peer
ours_sender hosts {s = s} m ours = ours_of hosts s _ _ (ours.1, ours.0) (sym m.peers.0, m.peers.1)

pub ours_receiver : (hosts : Network) {log : List Crossing} {x s : Life} → Match log x s → AreOurs hosts s.host s.peer
    → AreOurs hosts x.host x.peer
ours_receiver hosts {x = x} m ours = ours_of hosts x _ _ (ours.1, ours.0) (sym m.peers.1, m.peers.0)
