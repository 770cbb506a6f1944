-- An end whose own CLS hasn't gone out doesn't go by what comes in, and one whose partner's CLS wasn't taken doesn't go by what goes out: by the one walk over
-- what a host does with a peer.
use Rattle.world_keeps_streams.proofs.Common.{◌≡◌, inl, inr, ℕ, Bool, true, false, List, [], ◌∷◌, Some, refl, ap, sym, subst, ◌∙◌, Host, HostMessage, Command, Order, PairState, Parcel, Entry, Notice, both, NcpState, pair_with, AreInOrder, next_in, offered, Peer, AreCommands, accepted}
use Rattle.host_pairs.specs.Entries.{is_sent, is_over}
use Rattle.world_keeps_lives.proofs.lemmas.{Each, GoesAll, HearsAll, IsOther, IsUnended, Leaves, MaySay, Plain, message_passes, off_unsent, offer_passes}
use Rattle.interface.specs.declared.crossing.Inbound.TheVariants as inbound
use Rattle.host_pairs.specs.Parcels as parcel
use Rattle.host_pairs.specs.declared.notice.Notice.TheVariants as notice
use Rattle.world_keeps_streams.proofs.Deeds.Effects.{Among}

each_among : (Q : Entry → Type 0) (es : List Entry) → ((e : Entry) → Among e es → Q e) → Each Q es
each_among Q [] h = tt
each_among Q (e ∷ es) h = (h e (inl refl), each_among Q es (λ f i. h f (inr i)))

module _ (p : Host) (own foreign : ℕ) where
  -- a notice of no end of these sockets that goes
  abbrev pub IsNoEnding : Notice → Type 0
  IsNoEnding (notice.Ended s q f) = q ≡ p → s ≡ own → f ≡ foreign → ⊥
  IsNoEnding n = Unit {0}

  other : (n : Notice) → IsOther n → IsUnended n → IsNoEnding n
  other (notice.Ended s q f) o u = absurd u
  other n o u = tt

  -- an end of these sockets doesn't pass a test that all pass that go
  module _ (g : Host) (test : Entry → Bool) (passes : (e : Entry) → is_over e ≡ true → test e ≡ true) (stays : (e f : Entry) → Plain e f → test e ≡ false → test f ≡ false) where
    abbrev IsOff : Entry → Type 0
    IsOff e = g ≡ p → e.own ≡ own → e.foreign ≡ foreign → test e ≡ false

    leaves : Leaves IsOff IsNoEnding g
    leaves = record {
      plain = λ e f q off at is there. stays e f q (off at (sym q.quiet.own ∙ is) (sym q.quiet.foreign ∙ there));
      others = other;
      ends = λ e off over at is there. (let two : true ≡ false = sym (passes e over) ∙ off at is there in absurd (cc));
      opens = λ e a b off asked partner goes. tt;
      returns = λ e messages bits off opened. tt;
    }

    all_off : (s : NcpState) → ((e : Entry) → Among e (pair_with p s.peers).entries → e.own ≡ own → e.foreign ≡ foreign → test e ≡ false) → Each IsOff (pair_with g s.peers).entries
    all_off s off = each_among IsOff _ (λ e i at. off e (subst (λ (h : Host). Among e (pair_with h s.peers).entries) at i))

  -- ---- what comes in: a CLS of the own queue doesn't go out by it

  module _ (g : Host) where
    abbrev sent : Entry → Bool
    sent e = is_sent e.closing

    over_sent : (e : Entry) → is_over e ≡ true → sent e ≡ true
    over_sent e over = (both _ e.partner_closed over).0

    still_unsent : (e f : Entry) → Plain e f → sent e ≡ false → sent f ≡ false
    still_unsent e f q = q.unsent

    hears : (stamp : ℕ) (orders : List Order) → HearsAll (IsOff g sent over_sent still_unsent) stamp orders
    hears stamp orders = record {
      begins = record { fresh = λ e mine asked partner unclosed none at is there. ap is_sent unclosed; refused = λ o f s at is there. refl };
      rts = λ o f link e there even odd same too none off. off;
      str = λ o f size e there odd even same too none off. off;
      cls = λ e off at is there. off_unsent e (off at is there);
      all = λ link messages bits e there on off. off;
    }

  pub heard_lasts : (s : NcpState) (m : HostMessage) (stamp : ℕ) → ((e : Entry) → Among e (pair_with p s.peers).entries → e.own ≡ own → e.foreign ≡ foreign → is_sent e.closing ≡ false) → Each IsNoEnding (accepted s (inbound.Message m) stamp).1
  heard_lasts s m stamp off =
      let g : Host = m.flow.source in
      (message_passes (IsOff g (sent g) (over_sent g) (still_unsent g)) IsNoEnding g (leaves g (sent g) (over_sent g) (still_unsent g)) s m stamp refl
      ((λ control. hears g stamp _), (λ on_link e k found opened read. tt)) (all_off g (sent g) (over_sent g) (still_unsent g) s off)).told

  -- ---- what goes out: no CLS is taken by it

  module _ (g : Host) where
    abbrev heard : Entry → Bool
    heard e = e.partner_closed

    over_heard : (e : Entry) → is_over e ≡ true → heard e ≡ true
    over_heard e over = (both _ e.partner_closed over).1

    still_unheard : (e f : Entry) → Plain e f → heard e ≡ false → heard f ≡ false
    still_unheard e f q = q.unheard

    goes : (stamp : ℕ) (cs : List Command) → GoesAll (IsOff g heard over_heard still_unheard) stamp cs
    goes stamp cs = record {
      rts = λ o f link e there even same too off. off;
      str = λ o f size e there odd same too off. off;
      cls = λ e off. off;
    }

    may : (stamp : ℕ) (x : Parcel) (q : PairState) → MaySay (IsOff g heard over_heard still_unheard) IsNoEnding g (leaves g heard over_heard still_unheard) stamp x q
    may stamp (parcel.Commands count) q = goes stamp _
    may stamp x q = tt

  pub said_lasts : (s : NcpState) (stamp : ℕ) (g : Peer) (x : Parcel) → AreInOrder s.peers → next_in s.peers ≡ Some (g, x) → AreCommands (pair_with g.host s.peers).queue
      → ((e : Entry) → Among e (pair_with p s.peers).entries → e.own ≡ own → e.foreign ≡ foreign → e.partner_closed ≡ false) → Each IsNoEnding (offered s stamp).1
  said_lasts s stamp g x order next ok off =
      let h : Host = g.host in
      (offer_passes (IsOff h (heard h) (over_heard h) (still_unheard h)) IsNoEnding h (leaves h (heard h) (over_heard h) (still_unheard h)) s stamp g x order next refl ok
      (may h stamp x (pair_with h s.peers)) (all_off h (heard h) (over_heard h) (still_unheard h) s off)).told
