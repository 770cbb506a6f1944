-- Where a user is notified of an opening, one of its two requests has just crossed, unless a life of its own request is there.
use Rattle.world_keeps_lives.proofs.Common.{◌≡◌, ◌⊎◌, inl, inr, ℕ, Bool, true, false, List, Some, is_some, refl, ap, sym, subst, ◌∙◌, Contains, Host, HostMessage, Command, Order, has_cls, is_open, Parcel, Entry, Notice, pair_with, HaveAddresses, Asked, Crossed, IsNext, Moment, places, program, crossings_of, host_in, notices_by, Life, same_Some, AreOurs, Network, Happened}
use Rattle.interface.specs.Mailboxes as mail
use Rattle.world_keeps_pairing.proofs.lemmas.{queued_commands}
use Rattle.interface.specs.declared.crossing.Crossing.TheVariants as crossing
use Rattle.host_pairs.specs.Parcels as parcel
use Rattle.host_pairs.specs.declared.notice.Notice.TheVariants as notice
use Rattle.world_keeps_lives.proofs.Facts.{no, no_place}
use Rattle.world_keeps_lives.proofs.Desks.{IsAnOpen, open_parts}
use Rattle.world_keeps_lives.proofs.Walk.Rules.{Begins, Each, Goes, Hears, IsOther, MayTell, Quiet, Rules}
use Rattle.world_keeps_lives.proofs.Walk.ByRules.{answer_keeps, message_keeps, offer_keeps, request_told}

-- an end that is open was so before, where nothing but its closing has changed
pub open_back : (e f : Entry) → Quiet e f → is_open f ≡ true → is_open e ≡ true
open_back e f q o = by (has_cls e.closing) e.partner_closed refl refl where
  parts : IsAnOpen f
  parts = open_parts f o

  by : (v w : Bool) → has_cls e.closing ≡ v → e.partner_closed ≡ w → is_open e ≡ true
  by true w g h = no (has_cls f.closing) (q.closing g) parts.unclosed
  by false true g h = no f.partner_closed (q.off h) parts.unheard
  by false false g h = rw (ap is_some (sym q.asked) ∙ parts.asked, ap is_some (sym q.partner) ∙ parts.partner, g, h) refl

module _ (lives : List Life) (here : ℕ) where
  -- a life has this own request
  pub record HasLife (own foreign asked : ℕ) : Type 0 where
    pub life : Life
    pub there : Contains lives life
    pub place : life.own_stamp ≡ asked
    pub socket : life.socket ≡ own
    pub foreign_is : life.foreign ≡ foreign

  abbrev pub Now : ℕ → ℕ → ℕ → ℕ → Type 0
  Now own foreign a b = (a ≡ here) ⊎ ((b ≡ here) ⊎ HasLife own foreign a)

  abbrev pub Stamped : Notice → Type 0
  Stamped (notice.Opened socket peer foreign own partner) = Now socket foreign own partner
  Stamped n = Unit {0}

  abbrev pub Due : Entry → Type 0
  Due e = is_open e ≡ true → (a b : ℕ) → e.asked ≡ Some a → e.partner ≡ Some b → Now e.own e.foreign a b

  other : (n : Notice) → IsOther n → Stamped n
  other (notice.Opened s q f a b) o = absurd o
  other (notice.Sent s bits) o = tt
  other (notice.Arrived s bits) o = tt
  other n o = tt

  rules : (p : Host) → Rules Due Stamped p
  rules p = record {
    quiet = λ e f q d o a b asked partner.
        subst (λ (n : ℕ). Now n f.foreign a b) (sym q.own) (subst (λ (n : ℕ). Now e.own n a b) (sym q.foreign) (d (open_back e f q o) a b (sym q.asked ∙ asked) (sym q.partner ∙ partner)));
    others = other;
    opens = λ e a b d asked partner goes. (let o : is_open e ≡ true = rw (asked, partner, goes) refl in d o a b asked partner);
    returns = λ e messages bits d o. tt;
  }

  begins : Begins Due
  begins = record { fresh = λ e mine asked partner o a b is p. no_place a (sym asked ∙ is); refused = λ own foreign stamp o a b is p. no_place a is }

  hears : (orders : List Order) → Hears Due here orders
  hears orders = record {
    begins = begins;
    rts = λ own foreign l e there even odd o f d opened a b asked partner. inr (inl (sym (same_Some here b partner)));
    str = λ own foreign size e there odd even o f d opened a b asked partner. inr (inl (sym (same_Some here b partner)));
  }

  goes : (cs : List Command) → Goes Due here cs
  goes cs = record {
    rts = λ own foreign l e there even o f d opened a b asked partner. inl (sym (same_Some here a asked));
    str = λ own foreign size e there odd o f d opened a b asked partner. inl (sym (same_Some here a asked));
  }

-- ---- one moment

-- the host with which a moment's host has to do
abbrev pub other_in : Moment → Host
other_in (Crossed (crossing.Out m)) = m.flow.destination
other_in (Crossed (crossing.In m)) = m.flow.source
other_in (Crossed (crossing.Answer kind f)) = f.destination
other_in (Crossed (crossing.Down h)) = h
other_in (Crossed (crossing.Up h)) = h
other_in (Asked h r) = h

module _ (hosts : Network) (addresses : HaveAddresses hosts.all) (moments : List Moment) (run : mail.IsRun hosts.all (crossings_of moments)) (time : Happened hosts moments) (lives : List Life)
    (old : (a b : Host) → AreOurs hosts a b → Each (Due lives (places moments)) (pair_with b (program a moments).peers).entries) where
  pub stamped : (y : Moment) → AreOurs hosts (host_in y) (other_in y)
      → ((m : HostMessage) → y ≡ Crossed (crossing.Out m) → IsNext (program m.flow.source moments) m)
      → Each (Stamped lives (places moments)) (notices_by y moments)
  stamped (Crossed (crossing.Out m)) ours story =
      (offer_keeps (Due lives (places moments)) (Stamped lives (places moments)) m.flow.destination (rules lives (places moments) m.flow.destination) _ _ n.peer n.parcel n.order n.next
      (sym (ap (λ (x : HostMessage). x.flow.destination) n.message)) (queued_commands hosts moments addresses run time m.flow.source m.flow.destination ours) (may n.parcel) (old m.flow.source m.flow.destination ours)).told where
        n : IsNext (program m.flow.source moments) m
        n = story m refl

        may : (z : Parcel)
            → MayTell (Due lives (places moments)) (Stamped lives (places moments)) m.flow.destination (rules lives (places moments) m.flow.destination) (places moments) z (pair_with m.flow.destination (program m.flow.source moments).peers)
        may (parcel.Commands count) = goes lives (places moments) _
        may z = tt
  stamped (Crossed (crossing.In m)) ours story =
      (message_keeps (Due lives (places moments)) (Stamped lives (places moments)) m.flow.source (rules lives (places moments) m.flow.source) _ m _ refl
      ((λ zero. hears lives (places moments) _), (λ off e k f o t. tt)) (old m.flow.destination m.flow.source ours)).told
  stamped (Crossed (crossing.Answer kind f)) ours story =
      (answer_keeps (Due lives (places moments)) (Stamped lives (places moments)) f.destination (rules lives (places moments) f.destination) _ kind f _ refl (old f.source f.destination ours)).told
  stamped (Crossed (crossing.Down g)) ours story = tt
  stamped (Crossed (crossing.Up g)) ours story = tt
  stamped (Asked h r) ours story = request_told (Due lives (places moments)) (Stamped lives (places moments)) h (rules lives (places moments) h) _ r
