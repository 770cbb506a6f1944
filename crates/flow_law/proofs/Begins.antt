-- A message is offered: a Dead at once, a message to another IMP, a message within one IMP.
use Rattle.flow_law.proofs.Common.{◌≡◌, ℕ, ◌<◌, Bool, true, false, List, [], ◌∷◌, ◌++◌, Some, None, inl, inr, refl, ap, sym, ◌∙◌, subst, near_same, View, Packet, Queued, Kind, is_refusal, Invariant}
use Rattle.interface.specs.declared.crossing.Answer.TheVariants as answer
use Rattle.link_table.specs.Numbers.{modulus, Near}
use Rattle.flow_law.specs.Moves.{Move, New, CanOffer, CanBegin, IsPieceOf, Either, queued_text, next_number, view_moved}
use Rattle.flow_law.proofs.Clauses.{idle_new, idle_queue, near_not_new, next_number_in, fresh, still_near}

no_refusal : (x : Packet) → x.kind ≡ Kind.Data → is_refusal x.kind ≡ true → ⊥
no_refusal x kind refusal = let none : is_refusal x.kind ≡ false = ap is_refusal kind in absurd (cc)

queued_some : (queue : List Queued) (q : Queued) → queue ++ q ∷ [] ≡ [] → ⊥
queued_some [] q none = absurd (cc)
queued_some (first ∷ queue) q none = absurd (cc)

pub dead_now : {Piece : List Bool → Packet → Type 0} (v : View) (t : Packet → Type 0) (place : ℕ) (text : List Bool) → CanOffer v → Invariant Piece v t → Invariant Piece (view_moved (Move.DeadNow place text) v) t
dead_now v t place text can h =
    let up : v.from_up ≡ true = h.home can.source in
    record {
      range = h.range;
      begun = h.begun;
      sender = h.sender;
      home = h.home;
      away = λ down. (let source : v.source ≡ true = can.source in absurd (cc));
      window = h.window;
      expected = h.expected;
      carried = λ x tx new. absurd (idle_new v t h up can.idle x tx new);
      orphaned = h.orphaned;
      waiting = inl (idle_queue v t h up can.idle);
      taken = λ x tx kind awaited. (let idle : v.outstanding ≡ None = can.idle in absurd (cc));
      dead = λ x tx kind awaited. (let idle : v.outstanding ≡ None = can.idle in absurd (cc));
      fated = λ number awaited. (let idle : v.outstanding ≡ None = can.idle in absurd (cc));
      busy = λ number awaited. (let idle : v.outstanding ≡ None = can.idle in absurd (cc));
      settled = λ source idle. inr (record { kind = answer.Dead; one = refl; fits = tt });
    }

pub begin_sent : {Piece : List Bool → Packet → Type 0} (v : View) (t : Packet → Type 0) (place : ℕ) (text : List Bool) → CanBegin v t → Invariant Piece v t
    → Invariant Piece (view_moved (Move.Begin place text) v) (Either t (IsPieceOf Piece (next_number v.last) text))
begin_sent {Piece} v t place text can h =
    let up : v.from_up ≡ true = h.home can.offer.source in
    let n : ℕ = next_number v.last in
    let within : n < modulus = next_number_in v.last in
    let N : ℕ → Type 0 = λ k. Near n k in
    record {
      range = λ last same. (let at : n ≡ last = cc in subst (λ (k : ℕ). k < modulus) at within);
      begun = λ number awaited. awaited;
      sender = λ number awaited. up;
      home = h.home;
      away = λ down. (let source : v.source ≡ true = can.offer.source in absurd (cc));
      window = λ from x there. elim there [
        | inl tx ↦ record { begun = n; is = refl; near = still_near v t h up can x tx }
        | inr made ↦ record { begun = n; is = refl; near = subst N (sym made.number) (near_same n within) }
      ];
      expected = λ from x there new. elim there [
        | inl tx ↦ absurd (idle_new v t h up can.offer.idle x tx new)
        | inr made ↦ ap (λ (k : ℕ). Some k) (sym made.number)
      ];
      carried = λ x there new. elim there [
        | inl tx ↦ absurd (idle_new v t h up can.offer.idle x tx new)
        | inr made ↦ record { place = place; text = text; waits = refl; unread = idle_queue v t h up can.offer.idle; piece = λ kind. made.piece }
      ];
      orphaned = λ down x y there new ty kind. absurd (cc);
      waiting = inl (idle_queue v t h up can.offer.idle);
      taken = λ x there kind awaited. elim there [
        | inl tx ↦ absurd (fresh v t h up x tx (let at : Some n ≡ Some x.number = awaited in cc))
        | inr made ↦ (let data_packet : x.kind ≡ Kind.Data = made.data_packet in absurd (cc))
      ];
      dead = λ x there kind awaited. elim there [
        | inl tx ↦ absurd (fresh v t h up x tx (let at : Some n ≡ Some x.number = awaited in cc))
        | inr made ↦ absurd (no_refusal x made.data_packet kind)
      ];
      fated = λ number awaited.
          (let at : n ≡ number = cc in
          record {
            other = λ to another. record {
              lost = record { waiting = tt; unread = idle_queue v t h up can.offer.idle };
              none = λ x there refusal same. elim there [
                | inl tx ↦ absurd (fresh v t h up x tx (same ∙ sym at))
                | inr made ↦ absurd (no_refusal x made.data_packet refusal)
              ];
            };
            same = λ kept. absurd (can.unkept (kept ∙ ap (λ (k : ℕ). Some k) (sym at)));
          });
      busy = λ number awaited. record { none = can.offer.answered; full = tt };
      settled = λ source idle. absurd (cc);
    }

pub begin_local : {Piece : List Bool → Packet → Type 0} (v : View) (t : Packet → Type 0) (place : ℕ) (text : List Bool) → CanBegin v t → Invariant Piece v t
    → Invariant Piece (view_moved (Move.BeginLocal place text) v) t
begin_local {Piece} v t place text can h =
    let up : v.from_up ≡ true = h.home can.offer.source in
    let n : ℕ = next_number v.last in
    let old : (x : Packet) → t x → New v.to_up (Some n) x → ⊥ = λ x tx new. near_not_new v.to_up n n x refl (still_near v t h up can x tx) new in
    let not_there : (x : Packet) → t x → Some n ≡ Some x.number → ⊥ = λ x tx awaited. fresh v t h up x tx (cc) in
    record {
      range = λ last same. (let at : n ≡ last = cc in subst (λ (k : ℕ). k < modulus) at (next_number_in v.last));
      begun = λ number awaited. awaited;
      sender = λ number awaited. up;
      home = h.home;
      away = λ down. (let source : v.source ≡ true = can.offer.source in absurd (cc));
      window = λ from x tx. record { begun = n; is = refl; near = still_near v t h up can x tx };
      expected = λ from x tx new. absurd (old x tx new);
      carried = λ x tx new. absurd (old x tx new);
      orphaned = λ down x y tx new ty kind. absurd (cc);
      waiting = inr (record {
        number = n;
        place = place;
        text = text;
        one = ap (λ (q : List Queued). q ++ queued_text n text ∷ []) (idle_queue v t h up can.offer.idle);
        waits = refl;
        awaited = λ from. refl;
      });
      taken = λ x tx kind awaited. absurd (not_there x tx awaited);
      dead = λ x tx kind awaited. absurd (not_there x tx awaited);
      fated = λ number awaited. record {
        other = λ to another. absurd (another awaited);
        same = λ kept unread. queued_some v.queue (queued_text n text) unread;
      };
      busy = λ number awaited. record { none = can.offer.answered; full = tt };
      settled = λ source idle. absurd (cc);
    }
