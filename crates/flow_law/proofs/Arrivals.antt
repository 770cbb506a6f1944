-- Packets arrive, and hosts take what waits for them.
use Rattle.flow_law.proofs.Common.{◌≡◌, ℕ, Bool, true, false, List, [], ◌∷◌, ◌++◌, Option, Some, None, inl, inr, refl, ap, sym, ◌∙◌, subst, eq-eqb, if◌then◌else◌, cases_Bool, Answer, Fate, View, Packet, Queued, Kind, is_request, is_refusal}
use Rattle.interface.specs.declared.crossing.Answer.TheVariants as answer
use Rattle.interface.specs.Mailboxes.{Box, Fits, fetched}
use Rattle.link_table.specs.declared.destination.Fate.TheVariants as fate
use Rattle.flow_law.specs.Moves.{Move, New, CanNote, CanQueue, CanFree, CanTakeMessage, CanGiveUp, Brings, IsLost, IsTold, IsRefusal, Either, with_answer, with_fate, queued_text, view_moved}
use Rattle.flow_law.specs.Invariant.{Invariant, Begun, Carried, Held, Gone, Busy, Lost, FateSays, Fated}
use Rattle.flow_law.proofs.Clauses.{idle_new, idle_queue, dead_fits, shut_new, shut_queue, noted, begun_itself, new_too, one_there, not_taken_fits}

-- ---- kinds

pub refusal_asks_not : (told : Kind) → is_refusal told ≡ true → is_request told ≡ true → ⊥
refusal_asks_not Kind.Data refusal request = absurd (cc)
refusal_asks_not Kind.Rfnm refusal request = absurd (cc)
refusal_asks_not Kind.Dead refusal request = absurd (cc)
refusal_asks_not Kind.Ask refusal request = absurd (cc)
refusal_asks_not Kind.Never refusal request = absurd (cc)

pub rfnm_asks_not : (x : Packet) → x.kind ≡ Kind.Rfnm → is_request x.kind ≡ true → ⊥
rfnm_asks_not x told request = let not : is_request x.kind ≡ false = ap is_request told in absurd (cc)

pub rfnm_refuses_not : (x : Packet) → x.kind ≡ Kind.Rfnm → is_refusal x.kind ≡ true → ⊥
rfnm_refuses_not x told refusal = let not : is_refusal x.kind ≡ false = ap is_refusal told in absurd (cc)

-- ---- new requests

-- a fate without a taking is true of a message that waits in the box and isn't queued
lost_says : (new : Fate) (queue : List Queued) (box : Box) → IsLost new → Lost queue box → FateSays new queue box
lost_says fate.Waits queue box gone lost = absurd gone
lost_says fate.Taken queue box gone lost = absurd gone
lost_says fate.Dead queue box gone lost = lost
lost_says fate.Never queue box gone lost = lost

pub note_gone : {Piece : List Bool → Packet → Type 0} (v : View) (t : Packet → Type 0) (x : Packet) (new : Fate) → CanNote v t x → IsLost new → Invariant Piece v t
    → Invariant Piece (view_moved (Move.NoteGone x new) v) (Either t (IsRefusal x.number))
note_gone {Piece} v t x new_fate can gone h =
    let c : Carried Piece v.box v.queue x = h.carried x can.there can.new in
    let old : (y : Packet) → Either t (IsRefusal x.number) y → New v.to_up (Some x.number) y → ⊥ = λ y there new. elim there [
      | inl ty ↦ noted v t h x can.there can.new y ty new
      | inr made ↦ refusal_asks_not y.kind made.refusal new.request
    ] in
    record {
      range = h.range;
      begun = h.begun;
      sender = h.sender;
      home = h.home;
      away = h.away;
      window = λ up y there. elim there [
        | inl ty ↦ h.window up y ty
        | inr made ↦ (let N : ℕ → Type 0 = λ n. Begun v.last n in subst N (sym made.number) (h.window up x can.there))
      ];
      expected = λ up y there new. absurd (old y there new);
      carried = λ y there new. absurd (old y there new);
      orphaned = λ down y z there new tz kind. absurd (old y there new);
      waiting = inl c.unread;
      taken = λ y there kind awaited. elim there [
        | inl ty ↦ h.taken y ty kind awaited
        | inr made ↦ absurd (rfnm_refuses_not y kind made.refusal)
      ];
      dead = λ y there kind awaited. record { waiting = dead_fits v.box c.place c.text c.waits; unread = c.unread; none = old };
      fated = λ number awaited.
          (let here : v.outstanding ≡ Some x.number = h.expected (h.sender number awaited) x can.there can.new in
          let same : Some x.number ≡ Some number = sym here ∙ awaited in
          record {
            other = λ to another. absurd (another same);
            same = λ kept. lost_says new_fate v.queue v.box gone (record { waiting = dead_fits v.box c.place c.text c.waits; unread = c.unread });
          });
      busy = h.busy;
      settled = h.settled;
    }

-- the text that was joined is the one in the box
pub same_text : {Piece : List Bool → Packet → Type 0} (v : View) (t : Packet → Type 0) (x : Packet) (text : List Bool) → CanQueue Piece v t x text → Invariant Piece v t
    → (c : Carried Piece v.box v.queue x) → text ≡ c.text
same_text {Piece} v t x text can h c = can.joined c.text (λ y ty kind number.
    let d : Carried Piece v.box v.queue y = h.carried y ty (new_too v.to_up v.kept x y can.note.new (ap is_request kind) number) in
    let P : List Bool → Type 0 = λ w. Piece w y in
    let same : d.text ≡ c.text = (let one : v.box ≡ Box.Waiting c.place c.text = c.waits in let two : v.box ≡ Box.Waiting d.place d.text = d.waits in cc) in
    subst P same (d.piece kind))

pub whole : {Piece : List Bool → Packet → Type 0} (v : View) (t : Packet → Type 0) (x : Packet) (text : List Bool) → CanQueue Piece v t x text → Invariant Piece v t
    → Invariant Piece (view_moved (Move.Whole x text) v) t
whole {Piece} v t x text can h =
    let c : Carried Piece v.box v.queue x = h.carried x can.note.there can.note.new in
    let old : (y : Packet) → t y → New v.to_up (Some x.number) y → ⊥ = noted v t h x can.note.there can.note.new in
    record {
      range = h.range;
      begun = h.begun;
      sender = h.sender;
      home = h.home;
      away = h.away;
      window = h.window;
      expected = λ up y ty new. absurd (old y ty new);
      carried = λ y ty new. absurd (old y ty new);
      orphaned = λ down y z ty new tz kind. absurd (old y ty new);
      waiting = inr (record {
        number = x.number;
        place = c.place;
        text = text;
        one = ap (λ (q : List Queued). q ++ queued_text x.number text ∷ []) c.unread;
        waits = c.waits ∙ ap (λ (u : List Bool). Box.Waiting c.place u) (sym (same_text v t x text can h c));
        awaited = λ up. h.expected up x can.note.there can.note.new;
      });
      taken = h.taken;
      dead = λ y ty kind awaited. (let g : Gone v.to_up v.kept v.queue v.box t = h.dead y ty kind awaited in absurd (g.none x can.note.there can.note.new));
      fated = λ number awaited.
          (let here : v.outstanding ≡ Some x.number = h.expected (h.sender number awaited) x can.note.there can.note.new in
          let same : Some x.number ≡ Some number = sym here ∙ awaited in
          record {
            other = λ to another. absurd (another same);
            same = λ kept unread. (let one : v.queue ++ queued_text x.number text ∷ [] ≡ queued_text x.number text ∷ [] = ap (λ (q : List Queued). q ++ queued_text x.number text ∷ []) c.unread in absurd (cc));
          });
      busy = h.busy;
      settled = h.settled;
    }

-- ---- the outstanding message is settled by an answer

-- an answer that fits the box, while nothing is in transit to the destination
pub record Ends (v : View) (t : Packet → Type 0) (kind : Answer) : Type 0 where
  pub fits : Fits kind v.box
  pub unread : v.queue ≡ []
  pub none : (x : Packet) → t x → New v.to_up v.kept x → ⊥

told_up : (source : Bool) (kind : Answer) (answers : List Answer) → source ≡ true → answers ≡ [] → with_answer source kind answers ≡ kind ∷ []
told_up true kind answers up none = ap (λ (a : List Answer). a ++ kind ∷ []) none
told_up false kind answers up none = absurd (cc)

told_down : (source : Bool) (kind : Answer) (answers : List Answer) → source ≡ false → answers ≡ [] → with_answer source kind answers ≡ []
told_down true kind answers down none = absurd (cc)
told_down false kind answers down none = none

pub ended : {Piece : List Bool → Packet → Type 0} (v : View) (t : Packet → Type 0) (kind : Answer) (number : ℕ) → v.outstanding ≡ Some number → Ends v t kind → Invariant Piece v t
    → Invariant Piece (record v { outstanding = None; answers = with_answer v.source kind v.answers }) t
ended v t kind number awaited e h =
    let b : Busy v.answers v.box = h.busy number awaited in
    record {
      range = h.range;
      begun = λ n none. absurd (cc);
      sender = λ n none. absurd (cc);
      home = h.home;
      away = λ down. told_down v.source kind v.answers down b.none;
      window = h.window;
      expected = λ up x tx new. absurd (e.none x tx new);
      carried = h.carried;
      orphaned = h.orphaned;
      waiting = inl e.unread;
      taken = λ x tx told none. absurd (cc);
      dead = λ x tx told none. absurd (cc);
      fated = λ n none. absurd (cc);
      busy = λ n none. absurd (cc);
      settled = λ up idle. inr (record { kind = kind; one = told_up v.source kind v.answers up b.none; fits = e.fits });
    }

brought : {Piece : List Bool → Packet → Type 0} (v : View) (t : Packet → Type 0) (x : Packet) (told : Kind) (kind : Answer) → x.kind ≡ told → Brings told kind → t x
    → v.outstanding ≡ Some x.number → Invariant Piece v t → Ends v t kind
brought v t x Kind.Rfnm answer.Rfnm is brings tx awaited h =
    let fits : Fits answer.Rfnm v.box = h.taken x tx is awaited in
    record { fits = fits; unread = shut_queue v t h fits; none = shut_new v t h fits }
brought v t x Kind.Dead answer.Dead is brings tx awaited h =
    let g : Gone v.to_up v.kept v.queue v.box t = h.dead x tx (ap is_refusal is) awaited in
    record { fits = g.waiting; unread = g.unread; none = g.none }
brought v t x Kind.Never answer.NotTaken is brings tx awaited h =
    let g : Gone v.to_up v.kept v.queue v.box t = h.dead x tx (ap is_refusal is) awaited in
    record { fits = not_taken_fits v.box g.waiting; unread = g.unread; none = g.none }
brought v t x Kind.Data answer.Rfnm is brings tx awaited h = absurd brings
brought v t x Kind.Rfnm answer.Dead is brings tx awaited h = absurd brings
brought v t x Kind.Rfnm answer.Incomplete is brings tx awaited h = absurd brings
brought v t x Kind.Rfnm answer.NotTaken is brings tx awaited h = absurd brings
brought v t x Kind.Dead answer.Rfnm is brings tx awaited h = absurd brings
brought v t x Kind.Dead answer.Incomplete is brings tx awaited h = absurd brings
brought v t x Kind.Dead answer.NotTaken is brings tx awaited h = absurd brings
brought v t x Kind.Ask answer.Rfnm is brings tx awaited h = absurd brings
brought v t x Kind.Ask answer.Dead is brings tx awaited h = absurd brings
brought v t x Kind.Ask answer.Incomplete is brings tx awaited h = absurd brings
brought v t x Kind.Ask answer.NotTaken is brings tx awaited h = absurd brings
brought v t x Kind.Never answer.Rfnm is brings tx awaited h = absurd brings
brought v t x Kind.Never answer.Dead is brings tx awaited h = absurd brings
brought v t x Kind.Never answer.Incomplete is brings tx awaited h = absurd brings
brought v t x Kind.Data c is brings tx awaited h = absurd brings

pub freed : {Piece : List Bool → Packet → Type 0} (v : View) (t : Packet → Type 0) (x : Packet) (kind : Answer) → CanFree v t x kind → Invariant Piece v t
    → Invariant Piece (view_moved (Move.Freed x kind) v) t
freed v t x kind can h = ended v t kind x.number can.awaited (brought v t x x.kind kind refl can.brings can.there can.awaited h) h

pub given_up : {Piece : List Bool → Packet → Type 0} (v : View) (t : Packet → Type 0) (number : ℕ) → CanGiveUp v t number → Invariant Piece v t
    → Invariant Piece (view_moved (Move.GiveUp number) v) t
given_up v t number can h =
    let awaited : v.outstanding ≡ Some number = can.awaited in
    let up : v.from_up ≡ true = h.sender number awaited in
    let b : Busy v.answers v.box = h.busy number awaited in
    ended v t answer.Incomplete number awaited (record {
      fits = b.full;
      unread = elim h.waiting [
        | inl unread ↦ unread
        | inr held ↦ (let same : v.outstanding ≡ Some held.number = held.awaited up in
            let number : held.number ≡ number = cc in
            absurd (can.unread (queued_text held.number held.text) (one_there v.queue _ held.one) number))
      ];
      none = λ x tx new. (let same : v.outstanding ≡ Some x.number = h.expected up x tx new in can.no_request x tx new.request (cc));
    }) h

-- ---- hosts take what waits for them

-- the fate of the number that is kept is the new one
fate_of_kept : (kept : Option ℕ) (n number : ℕ) (old : Fate) → kept ≡ Some n → n ≡ number → with_fate kept number fate.Taken old ≡ fate.Taken
fate_of_kept None n number old is same = absurd (cc)
fate_of_kept (Some k) n number old is same = ap (λ (b : Bool). if b then fate.Taken else old) (eq-eqb k number (let at : k ≡ n = cc in at ∙ same))

pub take_message : {Piece : List Bool → Packet → Type 0} (v : View) (t : Packet → Type 0) (oldest : Queued) (others : List Queued) → CanTakeMessage v oldest others → Invariant Piece v t
    → Held v.from_up v.outstanding v.queue v.box → Invariant Piece (view_moved (Move.TakeMessage oldest others) v) (Either t (IsTold Kind.Rfnm oldest.number))
take_message {Piece} v t oldest others can h held =
    let waits : v.queue ≡ oldest ∷ others = can.waits in
    let one : v.queue ≡ queued_text held.number held.text ∷ [] = held.one in
    let same : oldest ≡ queued_text held.number held.text = cc in
    let rest : others ≡ [] = cc in
    let number : oldest.number ≡ held.number = ap (λ (q : Queued). q.number) same in
    let box : fetched v.box ≡ Box.Taken held.place held.text = ap fetched held.waits in
    let F : Answer → Box → Type 0 = λ a b. Fits a b in
    let old : (y : Packet) → Either t (IsTold Kind.Rfnm oldest.number) y → New v.to_up v.kept y → ⊥ = λ y there new. elim there [
      | inl ty ↦ (let c : Carried Piece v.box v.queue y = h.carried y ty new in let unread : v.queue ≡ [] = c.unread in absurd (cc))
      | inr made ↦ rfnm_asks_not y made.kind new.request
    ] in
    record {
      range = h.range;
      begun = h.begun;
      sender = h.sender;
      home = h.home;
      away = h.away;
      window = λ up y there. elim there [
        | inl ty ↦ h.window up y ty
        | inr made ↦ begun_itself v t h held.number y.number (held.awaited up) (made.number ∙ number)
      ];
      expected = λ up y there new. absurd (old y there new);
      carried = λ y there new. absurd (old y there new);
      orphaned = λ down y z there new tz kind. absurd (old y there new);
      waiting = inl rest;
      taken = λ y there kind awaited. subst (λ (b : Box). Fits answer.Rfnm b) (sym box) tt;
      dead = λ y there kind awaited. elim there [
        | inl ty ↦ (let g : Gone v.to_up v.kept v.queue v.box t = h.dead y ty kind awaited in let unread : v.queue ≡ [] = g.unread in absurd (cc))
        | inr made ↦ absurd (rfnm_refuses_not y made.kind kind)
      ];
      fated = λ n awaited.
          (let k : Fated n v.to_up v.kept v.fate v.queue v.box t = h.fated n awaited in
          let here : v.outstanding ≡ Some held.number = held.awaited (h.sender n awaited) in
          let at : n ≡ oldest.number = (let there : n ≡ held.number = cc in there ∙ sym number) in
          record {
            other = λ to another. (let unread : v.queue ≡ [] = (k.other to another).lost.unread in absurd (cc));
            same = λ kept. subst (λ (new : Fate). FateSays new others (fetched v.box)) (sym (fate_of_kept v.kept n oldest.number v.fate kept at)) (subst (λ (b : Box). Fits answer.Rfnm b) (sym box) tt);
          });
      busy = λ n awaited. (let b : Busy v.answers v.box = h.busy n awaited in record { none = b.none; full = subst (λ (b : Box). Fits answer.Incomplete b) (sym box) tt });
      settled = λ source idle. (let awaited : v.outstanding ≡ Some held.number = held.awaited (h.home source) in absurd (cc));
    }

-- what is taken is what waits in the box
pub held_there : {Piece : List Bool → Packet → Type 0} (v : View) (t : Packet → Type 0) (oldest : Queued) (others : List Queued) → CanTakeMessage v oldest others → Invariant Piece v t
    → Held v.from_up v.outstanding v.queue v.box
held_there v t oldest others can h = elim h.waiting [
  | inl unread ↦ (let waits : v.queue ≡ oldest ∷ others = can.waits in absurd (cc))
  | inr held ↦ held
]

-- the answer that waits, and nothing outstanding
pub record Told (v : View) (oldest : Answer) (others : List Answer) : Type 0 where
  pub source : v.source ≡ true
  pub idle : v.outstanding ≡ None
  pub fits : Fits oldest v.box
  pub last : others ≡ []

told_idle : {Piece : List Bool → Packet → Type 0} (v : View) (t : Packet → Type 0) (oldest : Answer) (others : List Answer) (awaited : Option ℕ) → v.outstanding ≡ awaited
    → v.answers ≡ oldest ∷ others → Invariant Piece v t → v.outstanding ≡ None
told_idle v t oldest others None is waits h = is
told_idle v t oldest others (Some number) is waits h = let b : Busy v.answers v.box = h.busy number is in let none : v.answers ≡ [] = b.none in absurd (cc)

-- no answer waits for a host that is down
told_source : {Piece : List Bool → Packet → Type 0} (v : View) (t : Packet → Type 0) (oldest : Answer) (others : List Answer) → v.answers ≡ oldest ∷ others → Invariant Piece v t → v.source ≡ true
told_source v t oldest others waits h = elim (cases_Bool v.source) [
  | inl up ↦ up
  | inr down ↦ (let none : v.answers ≡ [] = h.away down in absurd (cc))
]

pub told : {Piece : List Bool → Packet → Type 0} (v : View) (t : Packet → Type 0) (oldest : Answer) (others : List Answer) → v.answers ≡ oldest ∷ others → Invariant Piece v t → Told v oldest others
told v t oldest others waits h =
    let source : v.source ≡ true = told_source v t oldest others waits h in
    let idle : v.outstanding ≡ None = told_idle v t oldest others v.outstanding refl waits h in
    elim (h.settled source idle) [
      | inl nothing ↦ (let none : v.answers ≡ [] = nothing.none in absurd (cc))
      | inr one ↦ (let only : v.answers ≡ one.kind ∷ [] = one.one in
          let same : one.kind ≡ oldest = cc in
          let rest : others ≡ [] = cc in
          record { source = source; idle = idle; fits = subst (λ (k : Answer). Fits k v.box) same one.fits; last = rest })
    ]

pub take_answer : {Piece : List Bool → Packet → Type 0} (v : View) (t : Packet → Type 0) (oldest : Answer) (others : List Answer) → v.answers ≡ oldest ∷ others → Invariant Piece v t
    → Invariant Piece (view_moved (Move.TakeAnswer oldest others) v) t
take_answer v t oldest others can h =
    let w : Told v oldest others = told v t oldest others can h in
    let idle : v.outstanding ≡ None = w.idle in
    let up : v.from_up ≡ true = h.home w.source in
    record {
      range = h.range;
      begun = h.begun;
      sender = h.sender;
      home = h.home;
      away = λ down. w.last;
      window = h.window;
      expected = h.expected;
      carried = λ x tx new. absurd (idle_new v t h up idle x tx new);
      orphaned = h.orphaned;
      waiting = inl (idle_queue v t h up idle);
      taken = λ x tx kind awaited. absurd (cc);
      dead = λ x tx kind awaited. absurd (cc);
      fated = λ n awaited. absurd (cc);
      busy = λ n awaited. absurd (cc);
      settled = λ source none. inl (record { none = w.last; empty = refl });
    }
