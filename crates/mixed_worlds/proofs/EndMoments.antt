-- What holds of each end that a host's program has with a peer holds after the next moment, whatever that peer sends.
use Rattle.mixed_worlds.proofs.Common.{◌≡◌, ◌==◌, ℕ, Bool, true, false, if◌then◌else◌, List, ◌∷◌, map, take, Some, refl, ap, sym, subst, ◌∙◌, Host, same_host, Flow, HostMessage, same_host-true, Command, Legal, orders_of, PairState, Parcel, Entry, Notice, control_flow, accepted, NcpState, opening_state, pair_with, served, message_for, next_in, offered, pair_range, offer_read, Asked, Crossed, Moment, places, program, IsMixed, IsReadBack, eqb-true}
use Rattle.mixed_worlds.proofs.Moments.{says}
use Rattle.sockets.proofs.lemmas.{answer_leaves, message_leaves, next_pair, offer_leaves}
use Rattle.world_keeps_lives.proofs.lemmas.{Begins, Each, Ends, Goes, Hears, Quiet, Rules, message_keeps, GoesAll, Leaves, MayGrant, MaySay, Starts, answer_passes, goes_all, leaves, may_grant, message_passes, offer_passes, request_passes, starts}
use Rattle.mixed_worlds.proofs.Moments.{Orders, Says, older, ordered}
use Rattle.interface.specs.declared.crossing.Crossing.TheVariants as crossing
use Rattle.interface.specs.declared.crossing.Inbound.TheVariants as inbound
use Rattle.host_pairs.specs.Parcels as parcel
use Rattle.mixed_worlds.proofs.Sockets.{fit}

pub control_is : (f : Flow) (x y : Host) → x ≡ f.source → y ≡ f.destination → f.link.0 ≡ 0 → f ≡ control_flow x y
control_is f x y s d l =
    ap (λ (n : ℕ). two f.source f.destination n) l ∙ ap (λ (h : Host). two h f.destination 0) (sym s)
    ∙ ap (λ (h : Host). two x h 0) (sym d) where
      two : Host → Host → ℕ → Flow
      two a b n = record { source = a; destination = b; link = record { 0 = n } }

if_ends : (P : Entry → Type 0) (p : Host) (b : Bool) (t old : NcpState) → (b ≡ true → Ends P p t) → Ends P p old
    → Ends P p (if b then t else old)
if_ends P p true t old now k = now refl
if_ends P p false t old now k = k

-- of ends only, and of no notice
abbrev pub Free : Notice → Type 0
Free n = Unit {0}

free : (P : Entry → Type 0) (p : Host) → ((e f : Entry) → Quiet e f → P e → P f) → Rules P Free p
free P p quiet = record {
  quiet = quiet;
  others = λ n o. tt;
  opens = λ e a b i asked partner goes. tt;
  returns = λ e messages bits i o. tt;
}

module _ (orders : Orders) (strange : Host → Bool) (hosts : List Host) (a : Host) (off : strange a ≡ false) where
  -- what goes out of this host is what it says
  pub own_out : (m : HostMessage) (moments : List Moment) → IsMixed strange hosts (Crossed (crossing.Out m) ∷ moments)
      → a ≡ m.flow.source → Says (program a moments) m
  own_out m moments mixed from =
      subst (λ (y : Host). Says (program y moments) m) (sym from)
      (says (program m.flow.source moments) m (mixed.happen.0 (subst (λ (y : Host). strange y ≡ false) from off)))

  module _ (p : Host) (moments : List Moment) where
    -- what waits to be said to the peer
    abbrev queue : List Command
    queue = (pair_with p (program a moments).peers).queue

    -- what it takes that this holds of ends after a moment, leaf by leaf: that it holds of those that begin there, of
    -- those whose requests are said there, and of all after a control message of the peer
    abbrev pub Moves : (Entry → Type 0) → Moment → Type 0
    Moves P (Crossed (crossing.Out m)) = m.flow ≡ control_flow a p → (n : ℕ)
        → orders_of m.text ≡ map Legal (take n queue) → GoesAll P (places moments) (take n queue)
    Moves P (Crossed (crossing.In m)) = m.flow ≡ control_flow p a
        → Ends P p (accepted (program a moments) (inbound.Message m) (places moments)).0
    Moves P (Asked g r) = same_host a g ≡ true → Starts P × MayGrant P r
    Moves P x = Unit {0}

    module _ (P : Entry → Type 0) (walk : Leaves P Free p) where
      out : (m : HostMessage) → IsMixed strange hosts (Crossed (crossing.Out m) ∷ moments)
          → Moves P (Crossed (crossing.Out m)) → Ends P p (program a moments) → a ≡ m.flow.source
          → Ends P p (offered (program a moments) (places moments)).0
      out m mixed moved old from = at (same_host p o.peer.host) refl where
        below : IsMixed strange hosts moments
        below = older orders strange hosts (Crossed (crossing.Out m)) moments mixed

        o : Says (program a moments) m
        o = own_out m moments mixed from

        may : (x : Parcel) → o.peer.host ≡ p → next_in (program a moments).peers ≡ Some (o.peer, x)
            → message_for (program a moments).own o.peer x ≡ m
            → MaySay P Free p walk (places moments) x (pair_with p (program a moments).peers)
        may parcel.Reset to next is = tt
        may parcel.Reply to next is = tt
        may (parcel.Bytes e size count) to next is = tt
        may (parcel.Commands count) to next is =
            let same : pair_with p (program a moments).peers ≡ o.peer.pair = subst
            (λ (y : Host). pair_with y (program a moments).peers ≡ o.peer.pair) to
            (next_pair (program a moments).peers o.peer (parcel.Commands count)
            (ordered orders strange hosts a moments off below) next) in
            let back : IsReadBack o.peer.pair (parcel.Commands count) = offer_read (program a moments) o.peer
            (parcel.Commands count) (fit strange hosts a off moments below).ranged next in
            moved
            (control_is m.flow a p from (sym to ∙ ap (λ (y : HostMessage). y.flow.destination) is)
            (sym (ap (λ (y : HostMessage). y.flow.link.0) is))) count
            (ap (λ (y : HostMessage). orders_of y.text) (sym is) ∙ back
            ∙ ap (λ (q : PairState). map Legal (take count q.queue)) (sym same))

        at : (b : Bool) → same_host p o.peer.host ≡ b → Ends P p (offered (program a moments) (places moments)).0
        at true f =
            let to : o.peer.host ≡ p = sym (same_host-true p o.peer.host f) in
            (offer_passes P Free p walk (program a moments) (places moments) o.peer o.parcel
            (ordered orders strange hosts a moments off below) o.next to
            (pair_range p (program a moments).peers
            (fit strange hosts a off moments below).ranged.pairs).commands (may o.parcel to o.next o.message) old).ends
        at false f = subst (λ (q : PairState). Each P q.entries)
            (sym (offer_leaves (program a moments) (places moments) o.peer o.parcel p o.next f)) old

      comes : (m : HostMessage) → Moves P (Crossed (crossing.In m)) → Ends P p (program a moments)
          → a ≡ m.flow.destination → Ends P p (accepted (program a moments) (inbound.Message m) (places moments)).0
      comes m moved old to = at (same_host p m.flow.source) refl where
        on_link : p ≡ m.flow.source → (b : Bool) → (m.flow.link.0 == 0) ≡ b
            → Ends P p (accepted (program a moments) (inbound.Message m) (places moments)).0
        on_link from true here = moved (control_is m.flow p a from to (eqb-true m.flow.link.0 0 here))
        on_link from false away =
            (message_passes P Free p walk (program a moments) m (places moments) (sym from) (
              λ here. absurd (let clash : true ≡ false = sym here ∙ away in cc),
              λ other e k found opened read. tt,
            ) old).ends

        at : (b : Bool) → same_host p m.flow.source ≡ b
            → Ends P p (accepted (program a moments) (inbound.Message m) (places moments)).0
        at true f = on_link (same_host-true p m.flow.source f) (m.flow.link.0 == 0) refl
        at false f = subst (λ (q : PairState). Each P q.entries)
            (sym (message_leaves (program a moments) m (places moments) p f)) old

      pub moves_ends : (x : Moment) → IsMixed strange hosts (x ∷ moments) → Moves P x → Ends P p (program a moments)
          → Ends P p (program a (x ∷ moments))
      moves_ends (Crossed (crossing.Out m)) mixed moved old = if_ends P p (same_host a m.flow.source)
          (offered (program a moments) (places moments)).0 (program a moments)
          (λ e. out m mixed moved old (same_host-true a m.flow.source e)) old
      moves_ends (Crossed (crossing.In m)) mixed moved old = if_ends P p (same_host a m.flow.destination)
          (accepted (program a moments) (inbound.Message m) (places moments)).0 (program a moments)
          (λ e. comes m moved old (same_host-true a m.flow.destination e)) old
      moves_ends (Crossed (crossing.Answer kind f)) mixed moved old = if_ends P p (same_host a f.source)
          (accepted (program a moments) (inbound.Answer kind f) (places moments)).0 (program a moments)
          (λ e. at (same_host p f.destination) refl) old where
            at : (b : Bool) → same_host p f.destination ≡ b
                → Ends P p (accepted (program a moments) (inbound.Answer kind f) (places moments)).0
            at true g = (answer_passes P Free p walk (program a moments) kind f (places moments)
                (sym (same_host-true p f.destination g)) old).ends
            at false g = subst (λ (q : PairState). Each P q.entries)
                (sym (answer_leaves (program a moments) kind f (places moments) p g)) old
      moves_ends (Crossed (crossing.Down g)) mixed moved old = if_ends P p (same_host a g) (opening_state a)
          (program a moments) (λ e. tt) old
      moves_ends (Crossed (crossing.Up g)) mixed moved old = if_ends P p (same_host a g) (opening_state a)
          (program a moments) (λ e. tt) old
      moves_ends (Asked g r) mixed asked old = if_ends P p (same_host a g) (served (program a moments) r)
          (program a moments)
          (λ e. request_passes P Free p walk (asked e).0 (program a moments) r (asked e).1 old) old

    -- the same, by rules that take all changes alike that name no request
    abbrev pub Moved : (Entry → Type 0) → Moment → Type 0
    Moved P (Crossed (crossing.Out m)) = m.flow ≡ control_flow a p → (n : ℕ)
        → orders_of m.text ≡ map Legal (take n queue) → Goes P (places moments) (take n queue)
    Moved P (Crossed (crossing.In m)) = m.flow ≡ control_flow p a → Hears P (places moments) (orders_of m.text)
    Moved P (Asked g r) = Begins P
    Moved P x = Unit {0}

    module _ (P : Entry → Type 0) (quiet : (e f : Entry) → Quiet e f → P e → P f) where
      pub moved_ends : (x : Moment) → IsMixed strange hosts (x ∷ moments) → Moved P x → Ends P p (program a moments)
          → Ends P p (program a (x ∷ moments))
      moved_ends x mixed moved old = moves_ends P (leaves P Free p (free P p quiet)) x mixed (by x moved) old where
        by : (x : Moment) → Moved P x → Moves P x
        by (Crossed (crossing.Out m)) moved = λ flow n reads.
            goes_all P Free p (free P p quiet) (places moments) (take n queue) (moved flow n reads)
        by (Crossed (crossing.In m)) moved = λ flow.
            (message_keeps P Free p (free P p quiet) (program a moments) m (places moments)
            (ap (λ (f : Flow). f.source) flow) (λ here. moved flow, λ away e k found opened read. tt) old).ends
        by (Asked g r) begins = λ own. (starts P begins, may_grant P Free p (free P p quiet) r)
        by (Crossed c) moved = tt
