-- Hosts go down and come up, and so do their IMPs.
use Rattle.flow_law.proofs.Common.{◌≡◌, ℕ, Bool, true, false, List, [], ◌∷◌, Option, Some, None, inl, inr, refl, ap, sym, ◌∙◌, subst, eq-eqb, if◌then◌else◌, cases_Bool, Near, Fate, View, Packet, Queued, Kind, is_request, is_refusal, Invariant, Begun, Carried, Held, Gone, Unnoted, Lost, FateSays, Fated}
use Rattle.link_table.specs.declared.destination.Fate.TheVariants as fate
use Rattle.flow_law.specs.Moves.{Move, New, CanStartSource, CanStartFrom, CanForget, IsDeadOf, Either, queued_text, view_moved, with_fate, with_fates}
use Rattle.flow_law.proofs.Clauses.{invariant_less, idle_new, idle_queue, dead_fits, begun_itself, number_of, none_in}
use Rattle.flow_law.proofs.Arrivals.{refusal_asks_not}

pub stop_source : {Piece : List Bool → Packet → Type 0} (v : View) (t : Packet → Type 0) → Invariant Piece v t → Invariant Piece (view_moved Move.StopSource v) t
stop_source v t h = record {
  range = h.range;
  begun = h.begun;
  sender = h.sender;
  home = λ up. absurd (cc);
  away = λ down. refl;
  window = h.window;
  expected = h.expected;
  carried = h.carried;
  orphaned = h.orphaned;
  waiting = h.waiting;
  taken = h.taken;
  dead = h.dead;
  fated = h.fated;
  busy = λ n awaited. record { none = refl; full = (h.busy n awaited).full };
  settled = λ up idle. absurd (cc);
}

pub start_source : {Piece : List Bool → Packet → Type 0} (v : View) (t : Packet → Type 0) → CanStartSource v → Invariant Piece v t → Invariant Piece (view_moved Move.StartSource v) t
start_source v t can h =
    let idle : v.outstanding ≡ None = can.idle in
    record {
      range = h.range;
      begun = h.begun;
      sender = h.sender;
      home = λ up. can.from_up;
      away = λ down. absurd (cc);
      window = h.window;
      expected = h.expected;
      carried = λ x tx new. absurd (idle_new v t h can.from_up idle x tx new);
      orphaned = h.orphaned;
      waiting = inl (idle_queue v t h can.from_up idle);
      taken = λ x tx kind awaited. absurd (cc);
      dead = λ x tx kind awaited. absurd (cc);
      fated = λ n awaited. absurd (cc);
      busy = λ n awaited. absurd (cc);
      settled = λ up none. inl (record { none = h.away can.down; empty = refl });
    }

-- no fate changes where no message is queued
same_fate : (kept : Option ℕ) (queue : List Queued) (old : Fate) → queue ≡ [] → with_fates kept queue fate.Dead old ≡ old
same_fate kept [] old none = refl
same_fate kept (q ∷ queue) old none = absurd (cc)

unread_fated : (v : View) (t : Packet → Type 0) (number : ℕ) → v.queue ≡ [] → Fated number v.to_up v.kept v.fate v.queue v.box t → Fated number v.to_up v.kept (with_fates v.kept v.queue fate.Dead v.fate) [] v.box t
unread_fated v t number none k =
    let says : v.kept ≡ Some number → FateSays v.fate [] v.box = λ kept. subst (λ (queue : List Queued). FateSays v.fate queue v.box) none (k.same kept) in
    record {
      other = λ to another. (let u : Unnoted number v.queue v.box t = k.other to another in record { lost = record { waiting = u.lost.waiting; unread = refl }; none = u.none });
      same = λ kept. subst (λ (new : Fate). FateSays new [] v.box) (sym (same_fate v.kept v.queue v.fate none)) (says kept);
    }

-- the fate of the one message that is queued is Dead, if its number is kept
dead_fate : (kept : Option ℕ) (queue : List Queued) (q : Queued) (n : ℕ) (old : Fate) → queue ≡ q ∷ [] → kept ≡ Some n → n ≡ q.number → with_fates kept queue fate.Dead old ≡ fate.Dead
dead_fate kept queue q n old one is same = ap (λ (queue : List Queued). with_fates kept queue fate.Dead old) one ∙ by kept is where
  by : (kept : Option ℕ) → kept ≡ Some n → with_fate kept q.number fate.Dead old ≡ fate.Dead
  by None is = absurd (cc)
  by (Some k) is = ap (λ (b : Bool). if b then fate.Dead else old) (eq-eqb k q.number (let at : k ≡ n = cc in at ∙ same))

-- the destination goes down while no message is queued
stop_unread : {Piece : List Bool → Packet → Type 0} (v : View) (t : Packet → Type 0) → v.queue ≡ [] → Invariant Piece v t
    → Invariant Piece (view_moved Move.StopDestination v) t
stop_unread {Piece} v t none h = record {
  range = h.range;
  begun = h.begun;
  sender = h.sender;
  home = h.home;
  away = h.away;
  window = h.window;
  expected = h.expected;
  carried = λ y ty new. (let c : Carried Piece v.box v.queue y = h.carried y ty new in
      record { place = c.place; text = c.text; waits = c.waits; unread = refl; piece = c.piece });
  orphaned = h.orphaned;
  waiting = inl refl;
  taken = h.taken;
  dead = λ y ty kind awaited. (let g : Gone v.to_up v.kept v.queue v.box t = h.dead y ty kind awaited in
      record { waiting = g.waiting; unread = refl; none = g.none });
  fated = λ number awaited. unread_fated v t number none (h.fated number awaited);
  busy = h.busy;
  settled = h.settled;
}

-- the destination goes down while a message is queued
stop_held : {Piece : List Bool → Packet → Type 0} (v : View) (t : Packet → Type 0) → Held v.from_up v.outstanding v.queue v.box → Invariant Piece v t
    → Invariant Piece (view_moved Move.StopDestination v) (Either t (IsDeadOf v.queue))
stop_held {Piece} v t held h =
    let one : v.queue ≡ queued_text held.number held.text ∷ [] = held.one in
    let old : (y : Packet) → Either t (IsDeadOf v.queue) y → New v.to_up v.kept y → ⊥ = λ y there new. elim there [
      | inl ty ↦ (let c : Carried Piece v.box v.queue y = h.carried y ty new in let unread : v.queue ≡ [] = c.unread in absurd (cc))
      | inr made ↦ refusal_asks_not y.kind (ap is_refusal made.kind) new.request
    ] in
    record {
      range = h.range;
      begun = h.begun;
      sender = h.sender;
      home = h.home;
      away = h.away;
      window = λ up y there. elim there [
        | inl ty ↦ h.window up y ty
        | inr made ↦ begun_itself v t h held.number y.number (held.awaited up) (made.number ∙ number_of v.queue held.number held.text made.message one made.waited)
      ];
      expected = λ up y there new. absurd (old y there new);
      carried = λ y there new. absurd (old y there new);
      orphaned = λ down y z there new tz kind. absurd (old y there new);
      waiting = inl refl;
      taken = λ y there kind awaited. elim there [
        | inl ty ↦ h.taken y ty kind awaited
        | inr made ↦ (let told : y.kind ≡ Kind.Dead = made.kind in absurd (cc))
      ];
      dead = λ y there kind awaited. record { waiting = dead_fits v.box held.place held.text held.waits; unread = refl; none = old };
      fated = λ n awaited.
          (let k : Fated n v.to_up v.kept v.fate v.queue v.box t = h.fated n awaited in
          let here : v.outstanding ≡ Some held.number = held.awaited (h.sender n awaited) in
          let at : n ≡ held.number = cc in
          let lost : Lost [] v.box = record { waiting = dead_fits v.box held.place held.text held.waits; unread = refl } in
          record {
            other = λ to another. (let unread : v.queue ≡ [] = (k.other to another).lost.unread in absurd (cc));
            same = λ kept. subst (λ (new : Fate). FateSays new [] v.box) (sym (dead_fate v.kept v.queue _ n v.fate one kept at)) lost;
          });
      busy = h.busy;
      settled = h.settled;
    }

pub stop_destination : {Piece : List Bool → Packet → Type 0} (v : View) (t : Packet → Type 0) → Invariant Piece v t
    → Invariant Piece (view_moved Move.StopDestination v) (Either t (IsDeadOf v.queue))
stop_destination {Piece} v t h = elim h.waiting [
  | inl none ↦ invariant_less _ t _ (λ y there. elim there [
    | inl ty ↦ ty
    | inr made ↦ absurd (none_in v.queue made.message none made.waited)
  ]) (stop_unread v t none h)
  | inr held ↦ stop_held v t held h
]

pub start_destination : {Piece : List Bool → Packet → Type 0} (v : View) (t : Packet → Type 0) → Invariant Piece v t → Invariant Piece (view_moved Move.StartDestination v) t
start_destination v t h = record {
  range = h.range;
  begun = h.begun;
  sender = h.sender;
  home = h.home;
  away = h.away;
  window = h.window;
  expected = h.expected;
  carried = h.carried;
  orphaned = h.orphaned;
  waiting = h.waiting;
  taken = h.taken;
  dead = h.dead;
  fated = h.fated;
  busy = h.busy;
  settled = h.settled;
}

-- ---- IMPs

-- a new request, where the numbers of the source's IMP are lost
lost : {Piece : List Bool → Packet → Type 0} (v : View) (t : Packet → Type 0) → Invariant Piece v t → (x y : Packet) → t x → New v.to_up v.kept x → t y → is_request y.kind ≡ true
    → Near x.number y.number
lost v t h x y tx new ty kind = elim (cases_Bool v.from_up) [
  | inl up ↦ (let w : Begun v.last y.number = h.window up y ty in
      let at : v.last ≡ Some w.begun = w.is in
      let last : v.last ≡ Some x.number = h.begun x.number (h.expected up x tx new) in
      let same : w.begun ≡ x.number = cc in
      let N : ℕ → Type 0 = λ n. Near n y.number in
      subst N same w.near)
  | inr down ↦ h.orphaned down x y tx new ty kind
]

pub stop_from : {Piece : List Bool → Packet → Type 0} (v : View) (t : Packet → Type 0) → Invariant Piece v t → Invariant Piece (view_moved Move.StopFrom v) t
stop_from v t h = record {
  range = λ last none. absurd (cc);
  begun = λ n none. absurd (cc);
  sender = λ n none. absurd (cc);
  home = λ up. absurd (cc);
  away = λ down. refl;
  window = λ up x tx. absurd (cc);
  expected = λ up x tx new. absurd (cc);
  carried = h.carried;
  orphaned = λ down x y tx new ty kind. lost v t h x y tx new ty kind;
  waiting = elim h.waiting [
    | inl unread ↦ inl unread
    | inr held ↦ inr (record { number = held.number; place = held.place; text = held.text; one = held.one; waits = held.waits; awaited = λ up. absurd (cc) })
  ];
  taken = λ x tx kind none. absurd (cc);
  dead = λ x tx kind none. absurd (cc);
  fated = λ n none. absurd (cc);
  busy = λ n none. absurd (cc);
  settled = λ up idle. absurd (cc);
}

pub start_from : {Piece : List Bool → Packet → Type 0} (v : View) (t : Packet → Type 0) → CanStartFrom v t → Invariant Piece v t → Invariant Piece (view_moved Move.StartFrom v) t
start_from v t can h = record {
  range = h.range;
  begun = h.begun;
  sender = λ n awaited. refl;
  home = λ up. refl;
  away = h.away;
  window = λ up x tx. absurd (can.no_packet x tx);
  expected = λ up x tx new. absurd (can.no_packet x tx);
  carried = h.carried;
  orphaned = λ down x y tx new ty kind. absurd (can.no_packet x tx);
  waiting = inl can.unread;
  taken = h.taken;
  dead = h.dead;
  fated = h.fated;
  busy = h.busy;
  settled = h.settled;
}

pub stop_to : {Piece : List Bool → Packet → Type 0} (v : View) (t : Packet → Type 0) → Invariant Piece v t → Invariant Piece (view_moved Move.StopTo v) t
stop_to v t h =
    let old : (x : Packet) → New false None x → ⊥ = λ x new. (let up : false ≡ true = new.up in absurd (cc)) in
    record {
      range = h.range;
      begun = h.begun;
      sender = h.sender;
      home = h.home;
      away = h.away;
      window = h.window;
      expected = λ up x tx new. absurd (old x new);
      carried = λ x tx new. absurd (old x new);
      orphaned = λ down x y tx new ty kind. absurd (old x new);
      waiting = inl refl;
      taken = h.taken;
      dead = λ x tx kind awaited. (let g : Gone v.to_up v.kept v.queue v.box t = h.dead x tx kind awaited in
          record { waiting = g.waiting; unread = refl; none = λ y ty new. old y new });
      fated = λ n awaited. record { other = λ to another. absurd (cc); same = λ kept. absurd (cc) };
      busy = h.busy;
      settled = h.settled;
    }

-- with no request alive and nothing outstanding the destination's IMP may come up, and may keep any number or none
pub unasked : {Piece : List Bool → Packet → Type 0} (v : View) (t : Packet → Type 0) (to_up : Bool) (kept : Option ℕ) (new : Fate) → CanForget v t → Invariant Piece v t
    → Invariant Piece (record v { to_up = to_up; kept = kept; fate = new }) t
unasked v t to_up kept new_fate can h =
    let idle : v.outstanding ≡ None = can.idle in
    let old : (x : Packet) → t x → New to_up kept x → ⊥ = λ x tx new. can.no_request x tx new.request in
    record {
      range = h.range;
      begun = h.begun;
      sender = h.sender;
      home = h.home;
      away = h.away;
      window = h.window;
      expected = λ up x tx new. absurd (old x tx new);
      carried = λ x tx new. absurd (old x tx new);
      orphaned = λ down x y tx new ty kind. absurd (old x tx new);
      waiting = h.waiting;
      taken = h.taken;
      dead = λ x tx kind awaited. (let g : Gone v.to_up v.kept v.queue v.box t = h.dead x tx kind awaited in
          record { waiting = g.waiting; unread = g.unread; none = old });
      fated = λ n awaited. absurd (cc);
      busy = h.busy;
      settled = h.settled;
    }
