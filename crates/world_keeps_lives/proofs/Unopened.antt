-- No end opens of which a CLS was queued or taken: so no life begins then.
use Rattle.world_keeps_lives.proofs.Common.{Contains, Host, HostMessage, Command, Order, has_cls, is_ending, Parcel, Entry, Notice, pair_with, HaveAddresses, Asked, Crossed, IsNext, IsStory, Moment, places, program, crossings_of, host_in, notices_by, programs_ranged, served_in, Network, pair_range, Happened}
use Rattle.std.proofs.Common.{◌≡◌, ◌⊎◌, inl, inr, ℕ, Bool, List, ◌∷◌, None, refl, ap, sym, subst, ◌∙◌, true, false}
use Rattle.std.proofs.lemmas.Bool.{or_right}
use Rattle.interface.specs.Mailboxes as mail
use Rattle.interface.specs.declared.crossing.Crossing.TheVariants as crossing
use Rattle.host_pairs.specs.Parcels as parcel
use Rattle.host_pairs.specs.declared.notice.Notice.TheVariants as notice
use Rattle.world_keeps_lives.proofs.Facts.{no, no_place}
use Rattle.world_keeps_lives.proofs.Walk.Rules.{Begins, Each, Goes, Hears, IsOther, MayTell, Quiet, Rules, each_of, each_weaker}
use Rattle.world_keeps_lives.proofs.Walk.ByRules.{answer_keeps, message_keeps, offer_keeps, request_told}

-- a notice of no opening of these sockets with this peer
abbrev pub IsNoOpening : Host → ℕ → ℕ → Notice → Type 0
IsNoOpening p own foreign (notice.Opened s q f a b) = q ≡ p → s ≡ own → f ≡ foreign → ⊥
IsNoOpening p own foreign n = Unit {0}

-- an end that is ending stays so
ending_still : (e f : Entry) → Quiet e f → is_ending e ≡ true → is_ending f ≡ true
ending_still e f q h = by (has_cls e.closing) e.partner_closed refl refl where
  by : (v w : Bool) → has_cls e.closing ≡ v → e.partner_closed ≡ w → is_ending f ≡ true
  by true w g k = let t : has_cls f.closing ≡ true = q.closing g in rw t refl
  by false true g k = let t : f.partner_closed ≡ true = q.off k in rw t (or_right (has_cls f.closing) true refl)
  by false false g k = let none : is_ending e ≡ false = (rw (g, k) refl) in no _ h none

module _ (p : Host) (own foreign : ℕ) where
  other : (n : Notice) → IsOther n → IsNoOpening p own foreign n
  other (notice.Opened s q f a b) o = absurd o
  other (notice.Sent s bits) o = tt
  other (notice.Arrived s bits) o = tt
  other n o = tt

  -- the ends of these sockets with a peer are ending, or, if new ones may begin, have not asked
  abbrev Shut : Host → Type 0 → Entry → Type 0
  Shut g New e = g ≡ p → e.own ≡ own → e.foreign ≡ foreign → (is_ending e ≡ true) ⊎ ((e.asked ≡ None) × New)

  shut_rules : (g : Host) (New : Type 0) → Rules (Shut g New) (IsNoOpening p own foreign) g
  shut_rules g New = record {
    quiet = λ e f q shut at is there. elim (shut at (sym q.own ∙ is) (sym q.foreign ∙ there)) [
      | inl h ↦ inl (ending_still e f q h)
      | inr none ↦ inr (q.asked ∙ none.0, none.1)
    ];
    others = other;
    opens = λ e a b shut asked partner goes at is there. elim (shut at is there) [
      | inl h ↦ no _ h goes
      | inr none ↦ no_place a (sym none.0 ∙ asked)
    ];
    returns = λ e messages bits shut o. tt;
  }

  shut_begins : (g : Host) → Begins (Shut g (Unit {0}))
  shut_begins g = record {
    fresh = λ e mine asked partner at is there. inr (asked, tt);
    refused = λ o f stamp at is there. inl refl;
  }

  shut_hears : (g : Host) (here : ℕ) (orders : List Order) → Hears (Shut g (Unit {0})) here orders
  shut_hears g here orders = record {
    begins = shut_begins g;
    rts = λ o f link e there even odd same too shut at is foreign_is. shut at is foreign_is;
    str = λ o f size e there odd even same too shut at is foreign_is. shut at is foreign_is;
  }

  shut_goes : (g : Host) (here : ℕ) (cs : List Command) → Goes (Shut g ⊥) here cs
  shut_goes g here cs = record {
    rts = λ o f link e there even same too shut at is foreign_is. elim (shut at is foreign_is) [ inl h ↦ inl h | inr none ↦ absurd none.1 ];
    str = λ o f size e there odd same too shut at is foreign_is. elim (shut at is foreign_is) [ inl h ↦ inl h | inr none ↦ absurd none.1 ];
  }

  -- ---- one moment

  module _ (hosts : Network) (addresses : HaveAddresses hosts.all) (moments : List Moment)
      (run : mail.IsRun hosts.all (crossings_of moments)) (time : Happened hosts moments) where
    abbrev AreShut : Host → Type 0
    AreShut h = (e : Entry) → Contains (pair_with p (program h moments).peers).entries e → e.own ≡ own → e.foreign ≡ foreign → is_ending e ≡ true

    at_first : (h g : Host) (New : Type 0) → AreShut h → Each (Shut g New) (pair_with g (program h moments).peers).entries
    at_first h g New shut =
        each_weaker _ _ _
        (λ e there at is foreign_is. inl (shut e (subst (λ (x : Host). Contains (pair_with x (program h moments).peers).entries e) at there) is foreign_is))
        (each_of _)

    pub unopened : (y : Moment) → hosts.strange (host_in y) ≡ false → IsStory hosts (y ∷ moments) → AreShut (host_in y)
        → Each (IsNoOpening p own foreign) (notices_by y moments)
    unopened (Crossed (crossing.Out m)) plain story shut =
        (offer_keeps (Shut m.flow.destination ⊥) (IsNoOpening p own foreign) m.flow.destination (shut_rules m.flow.destination ⊥) _ _ n.peer n.parcel n.order n.next
        (sym (ap (λ (x : HostMessage). x.flow.destination) n.message)) (pair_range m.flow.destination _ (programs_ranged hosts moments (served_in hosts moments time) m.flow.source plain).pairs).commands (may n.parcel) (at_first m.flow.source m.flow.destination ⊥ shut)).told where
          n : IsNext (program m.flow.source moments) m
          n = story.0 plain

          may : (z : Parcel) → MayTell (Shut m.flow.destination ⊥) (IsNoOpening p own foreign) m.flow.destination (shut_rules m.flow.destination ⊥) (places moments) z (pair_with m.flow.destination (program m.flow.source moments).peers)
          may (parcel.Commands count) = shut_goes m.flow.destination (places moments) _
          may z = tt
    unopened (Crossed (crossing.In m)) plain story shut =
        (message_keeps (Shut m.flow.source (Unit {0})) (IsNoOpening p own foreign) m.flow.source (shut_rules m.flow.source (Unit {0})) _ m _ refl
        ((λ zero. shut_hears m.flow.source (places moments) _), (λ off e k f o t. tt)) (at_first m.flow.destination m.flow.source (Unit {0}) shut)).told
    unopened (Crossed (crossing.Answer kind f)) plain story shut =
        (answer_keeps (Shut f.destination ⊥) (IsNoOpening p own foreign) f.destination (shut_rules f.destination ⊥) _ kind f _ refl (at_first f.source f.destination ⊥ shut)).told
    unopened (Crossed (crossing.Down g)) plain story shut = tt
    unopened (Crossed (crossing.Up g)) plain story shut = tt
    unopened (Asked h r) plain story shut =
        request_told (Shut h ⊥) (IsNoOpening p own foreign) h (shut_rules h ⊥) _ r
