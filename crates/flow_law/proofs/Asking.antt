-- The source's IMP asks what became of the outstanding message, and the destination's IMP answers it.
use Rattle.flow_law.proofs.Common.{◌≡◌, ◌≢◌, ℕ, Bool, true, false, List, Option, Some, inl, inr, refl, ap, sym, ◌∙◌, subst, Box, Fits, Near, Fate, near_same, View, Packet, Queued, Kind, is_request, is_refusal, Invariant, Begun, Carried, Gone, Lost, Unnoted, FateSays, Fated}
use Rattle.interface.specs.declared.crossing.Answer.TheVariants as answer
use Rattle.link_table.specs.declared.destination.Fate.TheVariants as fate
use Rattle.flow_law.specs.Moves.{Move, New, CanReply, Tells, IsTold, Either, view_moved}
use Rattle.flow_law.proofs.Clauses.{near_not_new, begun_itself}
use Rattle.flow_law.proofs.Arrivals.{refusal_asks_not}

-- ---- a question

asks_refuses_not : (x : Packet) → x.kind ≡ Kind.Ask → is_refusal x.kind ≡ true → ⊥
asks_refuses_not x kind refusal = let not : is_refusal x.kind ≡ false = ap is_refusal kind in absurd (cc)

-- the outstanding number is not new against itself
kept_not_new : {Piece : List Bool → Packet → Type 0} (v : View) (t : Packet → Type 0) (number : ℕ) (x : Packet) → v.outstanding ≡ Some number → x.number ≡ number → Invariant Piece v t
    → New v.to_up v.kept x → v.kept ≢ Some number
kept_not_new v t number x awaited same h new kept =
    let near : Near number number = near_same number (h.range number (h.begun number awaited)) in
    let N : ℕ → Type 0 = λ n. Near number n in
    let K : Option ℕ → Type 0 = λ k. New v.to_up k x in
    near_not_new v.to_up number number x refl (subst N (sym same) near) (subst K kept new)

-- what a new question of the outstanding message finds
found_lost : {Piece : List Bool → Packet → Type 0} (v : View) (t : Packet → Type 0) (number : ℕ) (x : Packet) → v.outstanding ≡ Some number → x.number ≡ number → Invariant Piece v t
    → New v.to_up v.kept x → Unnoted number v.queue v.box t
found_lost v t number x awaited same h new = (h.fated number awaited).other new.up (kept_not_new v t number x awaited same h new)

-- a question carries no piece
no_piece : (Piece : List Bool → Packet → Type 0) (box : Box) (queue : List Queued) (x : Packet) → x.kind ≡ Kind.Ask → Lost queue box → Carried Piece box queue x
no_piece Piece Box.Empty queue x kind lost = absurd lost.waiting
no_piece Piece (Box.Waiting place text) queue x kind lost = record { place = place; text = text; waits = refl; unread = lost.unread; piece = λ data_packet. absurd (cc) }
no_piece Piece (Box.Taken place text) queue x kind lost = absurd lost.waiting

pub asks : {Piece : List Bool → Packet → Type 0} (v : View) (t : Packet → Type 0) (number : ℕ) → v.outstanding ≡ Some number → Invariant Piece v t
    → Invariant Piece (view_moved (Move.Asks number) v) (Either t (IsTold Kind.Ask number))
asks {Piece} v t number awaited h = record {
  range = h.range;
  begun = h.begun;
  sender = h.sender;
  home = h.home;
  away = h.away;
  window = λ up x there. elim there [
    | inl tx ↦ h.window up x tx
    | inr made ↦ begun_itself v t h number x.number awaited made.number
  ];
  expected = λ up x there new. elim there [
    | inl tx ↦ h.expected up x tx new
    | inr made ↦ awaited ∙ ap (λ (n : ℕ). Some n) (sym made.number)
  ];
  carried = λ x there new. elim there [
    | inl tx ↦ h.carried x tx new
    | inr made ↦ no_piece Piece v.box v.queue x made.kind (found_lost v t number x awaited made.number h new).lost
  ];
  orphaned = λ down x y there new ty kind. (let up : v.from_up ≡ true = h.sender number awaited in absurd (cc));
  waiting = h.waiting;
  taken = λ x there kind out. elim there [
    | inl tx ↦ h.taken x tx kind out
    | inr made ↦ (let told : x.kind ≡ Kind.Ask = made.kind in absurd (cc))
  ];
  dead = λ x there kind out. elim there [
    | inl tx ↦ (let g : Gone v.to_up v.kept v.queue v.box t = h.dead x tx kind out in
        let same : x.number ≡ number = cc in
        record {
          waiting = g.waiting;
          unread = g.unread;
          none = λ y old new. elim old [
            | inl ty ↦ g.none y ty new
            | inr made ↦ (found_lost v t number y awaited made.number h new).none x tx kind same
          ];
        })
    | inr made ↦ absurd (asks_refuses_not x made.kind kind)
  ];
  fated = λ n out.
      (let k : Fated n v.to_up v.kept v.fate v.queue v.box t = h.fated n out in
      record {
        other = λ to another.
            (let u : Unnoted n v.queue v.box t = k.other to another in
            record {
              lost = u.lost;
              none = λ x there refusal. elim there [
                | inl tx ↦ u.none x tx refusal
                | inr made ↦ absurd (asks_refuses_not x made.kind refusal)
              ];
            });
        same = k.same;
      });
  busy = h.busy;
  settled = h.settled;
}

-- ---- what is answered

tells_no_request : (new : Fate) (told : Kind) → Tells new told → is_request told ≡ true → ⊥
tells_no_request fate.Waits told tells request = absurd tells
tells_no_request fate.Taken told tells request = (let not : is_request told ≡ false = ap is_request tells in absurd (cc))
tells_no_request fate.Dead told tells request = refusal_asks_not told tells request
tells_no_request fate.Never told tells request = refusal_asks_not told tells request

tells_taken : (new : Fate) (told : Kind) (queue : List Queued) (box : Box) → Tells new told → told ≡ Kind.Rfnm → FateSays new queue box → Fits answer.Rfnm box
tells_taken fate.Waits told queue box tells kind says = absurd tells
tells_taken fate.Taken told queue box tells kind says = says
tells_taken fate.Dead told queue box tells kind says = (let not : is_refusal told ≡ false = ap is_refusal kind in absurd (cc))
tells_taken fate.Never told queue box tells kind says = (let not : is_refusal told ≡ false = ap is_refusal kind in absurd (cc))

tells_lost : (new : Fate) (told : Kind) (queue : List Queued) (box : Box) → Tells new told → is_refusal told ≡ true → FateSays new queue box → Lost queue box
tells_lost fate.Waits told queue box tells kind says = absurd tells
tells_lost fate.Taken told queue box tells kind says = (let not : is_refusal told ≡ false = ap is_refusal tells in absurd (cc))
tells_lost fate.Dead told queue box tells kind says = says
tells_lost fate.Never told queue box tells kind says = says

pub reply : {Piece : List Bool → Packet → Type 0} (v : View) (t : Packet → Type 0) (x : Packet) (told : Kind) → CanReply v t x told → Invariant Piece v t
    → Invariant Piece (view_moved (Move.Reply x told) v) (Either t (IsTold told x.number))
reply {Piece} v t x told can h =
    let silent : (y : Packet) → IsTold told x.number y → is_request y.kind ≡ true → ⊥ = λ y made request.
    tells_no_request v.fate told can.tells (ap is_request (sym made.kind) ∙ request) in
    -- what is kept is true of the message that is outstanding
    let says : (n : ℕ) → n ≡ x.number → v.outstanding ≡ Some n → FateSays v.fate v.queue v.box = λ n same awaited.
    (h.fated n awaited).same (can.kept ∙ ap (λ (k : ℕ). Some k) (sym same)) in
    record {
      range = h.range;
      begun = h.begun;
      sender = h.sender;
      home = h.home;
      away = h.away;
      window = λ up y there. elim there [
        | inl ty ↦ h.window up y ty
        | inr made ↦ (let N : ℕ → Type 0 = λ n. Begun v.last n in subst N (sym made.number) (h.window up x can.there))
      ];
      expected = λ up y there new. elim there [
        | inl ty ↦ h.expected up y ty new
        | inr made ↦ absurd (silent y made new.request)
      ];
      carried = λ y there new. elim there [
        | inl ty ↦ h.carried y ty new
        | inr made ↦ absurd (silent y made new.request)
      ];
      orphaned = λ down y z there new tz kind. elim there [
        | inl ty ↦ elim tz [
          | inl tz ↦ h.orphaned down y z ty new tz kind
          | inr made ↦ absurd (silent z made kind)
        ]
        | inr made ↦ absurd (silent y made new.request)
      ];
      waiting = h.waiting;
      taken = λ y there kind awaited. elim there [
        | inl ty ↦ h.taken y ty kind awaited
        | inr made ↦ tells_taken v.fate told v.queue v.box can.tells (sym made.kind ∙ kind) (says y.number made.number awaited)
      ];
      dead = λ y there kind awaited. elim there [
        | inl ty ↦ (let g : Gone v.to_up v.kept v.queue v.box t = h.dead y ty kind awaited in
            record {
              waiting = g.waiting;
              unread = g.unread;
              none = λ z old new. elim old [
                | inl tz ↦ g.none z tz new
                | inr made ↦ silent z made new.request
              ];
            })
        | inr made ↦ (let lost : Lost v.queue v.box = tells_lost v.fate told v.queue v.box can.tells (ap is_refusal (sym made.kind) ∙ kind) (says y.number made.number awaited) in
            record {
              waiting = lost.waiting;
              unread = lost.unread;
              none = λ z old new. elim old [
                | inl tz ↦ (let out : v.outstanding ≡ Some z.number = h.expected (h.sender y.number awaited) z tz new in
                    let same : z.number ≡ y.number = cc in
                    kept_not_new v t y.number z awaited same h new (can.kept ∙ ap (λ (k : ℕ). Some k) (sym made.number)))
                | inr made ↦ silent z made new.request
              ];
            })
      ];
      fated = λ n awaited.
          (let k : Fated n v.to_up v.kept v.fate v.queue v.box t = h.fated n awaited in
          record {
            other = λ to another.
                (let u : Unnoted n v.queue v.box t = k.other to another in
                record {
                  lost = u.lost;
                  none = λ y there refusal same. elim there [
                    | inl ty ↦ u.none y ty refusal same
                    | inr made ↦ another (can.kept ∙ ap (λ (k : ℕ). Some k) (sym made.number ∙ same))
                  ];
                });
            same = k.same;
          });
      busy = h.busy;
      settled = h.settled;
    }
