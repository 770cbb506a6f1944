-- A flow within one IMP.
use Rattle.flow_law.proofs.Common.{◌≡◌, Bool, true, false, List, [], ◌∷◌, Some, inl, inr, refl, ap, Contains, View, Packet, Queued, Invariant}
use Rattle.flow_law.specs.Moves.{CanTakeMessage, CanStartSource, queued_text}
use Rattle.flow_law.specs.Follows.{Follows}
use Rattle.flow_law.specs.Local.{taken_here, view_taken_here, stopped_host, started_host, stopped_host_queued, view_stopped_here, view_stopped_itself, view_stopped_unread, view_started_itself}

-- a queued message is the outstanding one
pub queued_awaited : {Piece : List Bool → Packet → Type 0} (v : View) (t : Packet → Type 0) (oldest : Queued) (others : List Queued) → Invariant Piece v t → v.from_up ≡ true → v.queue ≡ oldest ∷ others
    → v.outstanding ≡ Some oldest.number
queued_awaited v t oldest others h up waits = elim h.waiting [
  | inl none ↦ absurd (cc)
  | inr held ↦ (let one : v.queue ≡ queued_text held.number held.text ∷ [] = held.one in
      let awaited : v.outstanding ≡ Some held.number = held.awaited up in
      let same : queued_text held.number held.text ≡ oldest = cc in
      let number : held.number ≡ oldest.number = ap (λ (q : Queued). q.number) same in
      cc)
]

-- and no other message is queued beside it
pub queued_alone : {Piece : List Bool → Packet → Type 0} (v : View) (t : Packet → Type 0) (oldest : Queued) (others : List Queued) → Invariant Piece v t → v.queue ≡ oldest ∷ others
    → others ≡ []
queued_alone v t oldest others h waits = elim h.waiting [
  | inl none ↦ absurd (cc)
  | inr held ↦ (let one : v.queue ≡ queued_text held.number held.text ∷ [] = held.one in cc)
]

pub take_here : {Piece : List Bool → Packet → Type 0} (v : View) (t : Packet → Type 0) (oldest : Queued) (others : List Queued) → CanTakeMessage v oldest others
    → v.outstanding ≡ Some oldest.number → Follows Piece (taken_here oldest others) v (view_taken_here oldest others v) t t
take_here v t oldest others can awaited = record {
  needs = (record { there = inr (record { kind = refl; number = refl }); brings = tt; awaited = awaited }, (can, tt));
  view = refl;
  packets = λ x tx. inl (inl tx);
}

pub stop_here : {Piece : List Bool → Packet → Type 0} (v : View) (t : Packet → Type 0) (message : Queued) → v.destination ≡ true → Contains v.queue message
    → v.outstanding ≡ Some message.number → Follows Piece (stopped_host_queued false message) v (view_stopped_here v) t t
stop_here v t message up there awaited = record {
  needs = (record { there = inr (record { kind = refl; message = message; waited = there; number = refl }); brings = tt; awaited = awaited }, (up, tt));
  view = refl;
  packets = λ x tx. inl (inl tx);
}

pub stop_itself_queued : {Piece : List Bool → Packet → Type 0} (v : View) (t : Packet → Type 0) (message : Queued) → v.source ≡ true → v.destination ≡ true → Contains v.queue message
    → v.outstanding ≡ Some message.number → Follows Piece (stopped_host_queued true message) v (view_stopped_itself v) t t
stop_itself_queued v t message from to there awaited = record {
  needs = (record { there = inr (record { kind = refl; message = message; waited = there; number = refl }); brings = tt; awaited = awaited }, (to, (from, tt)));
  view = refl;
  packets = λ x tx. inl (inl (inl tx));
}

pub stop_itself : {Piece : List Bool → Packet → Type 0} (v : View) (t : Packet → Type 0) → v.source ≡ true → v.destination ≡ true
    → Follows Piece (stopped_host true true) v (view_stopped_unread v) t t
stop_itself v t from to = record { needs = (to, (from, tt)); view = refl; packets = λ x tx. inl (inl tx) }

pub start_itself : {Piece : List Bool → Packet → Type 0} (v : View) (t : Packet → Type 0) → CanStartSource v → v.destination ≡ false
    → Follows Piece (started_host true true) v (view_started_itself v) t t
start_itself v t can down = record { needs = (down, (can, tt)); view = refl; packets = λ x tx. inl (inl tx) }
