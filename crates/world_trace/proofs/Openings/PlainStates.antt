-- Texts say all of a world over plain mailboxes to which a replay comes.
use Rattle.world_trace.proofs.Common.{false≢true, All-append, All-cons, All-head, All-nil, All-tail, All, Crossing, shown, crossings_shown, RawEvent, IsWorldTold}
use Rattle.std.proofs.Common.{◌≡◌, ◌||◌, inl, suc, Bool, true, false, if◌then◌else◌, List, [], ◌∷◌, ◌++◌, length, Option, Some, None, reverse, refl, ap, sym, subst, ◌∙◌, arith, inr, not}
use Rattle.interface.specs.Host.{Host, same_host, is_host}
use Rattle.interface.proofs.lemmas.{same_host-true}
use Rattle.leader1822.specs.Boxes.{Boxes, plain_calls, opening_boxes}
use Rattle.replay.specs.Output.{Refused, Shown, crossings_of}
use Rattle.replay.specs.Replay.{IsOneCall, Happens, Replays}
use Rattle.script.specs.Spelling.{IsHost, IsEvent}
use Rattle.world_replay.proofs.lemmas.Driven.{in_turn_then, in_turn_one}
use Rattle.interface.specs.declared.CarrierFault.{CarrierFault}
use Rattle.interface.specs.declared.CarrierFault.TheVariants as fault
use Rattle.interface.specs.declared.HostMessage.{HostMessage}
use Rattle.interface.specs.declared.crossing.Crossing.TheVariants as crossing
use Rattle.script.specs.declared.event.RawEvent.TheVariants as raw
use Rattle.trace.specs.Kept.{IsTold}
use Rattle.trace.specs.Laws as laws
use Rattle.trace.specs.Parts.{IsPart}
use Rattle.trace.proofs.lemmas.{frame, left_of, reached}
use Rattle.world_trace.specs.Reached.{PlainStates}
use Rattle.world_trace.proofs.Carriers.{plain_round}
use Rattle.world_trace.proofs.States.{Keeps, reached_holds}
use Rattle.world_trace.proofs.Whole.{reached_told, whole}

-- a replay of events that a script may ask for comes to these mailboxes
record Comes (hosts : List Host) (b : Boxes) : Type 0 where
  events : List RawEvent
  valid : All IsEvent events
  lines : List Shown
  replays : Replays plain_calls (opening_boxes hosts) events b lines
  same : b.hosts ≡ hosts

none_comes : (hosts : List Host) → Comes hosts (opening_boxes hosts)
none_comes hosts = record { events = []; valid = All-nil IsEvent; lines = []; replays = (refl, refl); same = refl }

still_comes : (hosts : List Host) (old new : Boxes) → new ≡ old → Comes hosts old → Comes hosts new
still_comes hosts old new same comes = subst (Comes hosts) (sym same) comes

more_comes : (hosts : List Host) (old new : Boxes) (e : RawEvent) (lines : List Shown) → IsEvent e → IsOneCall e → Happens plain_calls old e new lines → Comes hosts old → Comes hosts new
more_comes hosts old new e lines valid one h comes = record {
  events = comes.events ++ e ∷ [];
  valid = All-append IsEvent comes.events (e ∷ []) comes.valid (All-cons IsEvent e [] valid (All-nil IsEvent));
  lines = comes.lines ++ lines;
  replays = in_turn_then (Happens plain_calls) (opening_boxes hosts) old new comes.events (e ∷ []) comes.lines lines comes.replays (in_turn_one (Happens plain_calls) old new e lines h);
  same = (frame old new e lines one h).hosts ∙ comes.same;
}

-- a host of a network can be named
host_there : (hosts : List Host) (h : Host) → All IsHost hosts → is_host hosts h ≡ true → IsHost h
host_there [] h all there = absurd (false≢true there)
host_there (g ∷ hosts) h all there = by (host_there hosts h (All-tail IsHost g hosts all)) (same_host h g) refl there where
  by : (is_host hosts h ≡ true → IsHost h) → (b : Bool) → same_host h g ≡ b → (b || is_host hosts h) ≡ true → IsHost h
  by others true is there = subst IsHost (sym (same_host-true h g is)) (All-head IsHost g hosts all)
  by others false is there = others there

no_such : (stopped there : Bool) (others : Option CarrierFault) → there ≡ false → (if stopped then Some fault.Stopped else (if not there then Some fault.NoSuch else others)) ≡ None → ⊥
no_such true there others away e = absurd (cc)
no_such false true others away e = absurd (cc)
no_such false false others away e = absurd (cc)

-- a taking of a host that the network does not have changes nothing
take_comes : (hosts : List Host) → All IsHost hosts → (old new : Boxes) (h : Host) (lines : List Shown) → Happens plain_calls old (raw.Take h) new lines → Comes hosts old → Comes hosts new
take_comes hosts all old new h lines k comes = by (is_host old.hosts h) refl where
  by : (b : Bool) → is_host old.hosts h ≡ b → Comes hosts new
  by true there = more_comes hosts old new (raw.Take h) lines (host_there hosts h all (ap (λ (hs : List Host). is_host hs h) (sym comes.same) ∙ there)) tt k comes
  by false away = elim (left_of old new (raw.Take h) lines tt k) [
    | inl same ↦ still_comes hosts old new same comes
    | inr left ↦ absurd (no_such old.stopped (is_host old.hosts h) (if is_host old.down h then Some fault.IsDown else None) away left.0)
  ]

-- nor does an offer that is refused
unsaid_comes : (hosts : List Host) (old new : Boxes) (m : HostMessage) (lines : List Shown) (f : CarrierFault) → lines ≡ Refused f ∷ [] → Happens plain_calls old (raw.Out m) new lines → Comes hosts old → Comes hosts new
unsaid_comes hosts old new m lines f is k comes = elim (left_of old new (raw.Out m) lines tt k) [
  | inl same ↦ still_comes hosts old new same comes
  | inr left ↦ let nothing : k.crossings ≡ [] = sym (crossings_shown k.crossings k.outcome) ∙ sym (ap crossings_of k.lines) ∙ ap crossings_of is in
      let logs : crossing.Out m ∷ old.log ≡ old.log = sym (ap (λ (b : Boxes). b.log) left.1) ∙ k.grown ∙ ap (λ (cs : List Crossing). reverse cs ++ old.log) nothing in
      let longer : suc (length old.log) ≡ length old.log = ap (λ (cs : List Crossing). length cs) logs in
      absurd (omega (arith, longer))
]

plain_keeps : (hosts : List Host) → All IsHost hosts → Keeps plain_calls (Comes hosts)
plain_keeps hosts all = record {
  net = λ old new e lines valid h comes. more_comes hosts old new (raw.Net e) lines valid tt h comes;
  take = take_comes hosts all;
  out = λ old new m lines valid h comes. more_comes hosts old new (raw.Out m) lines valid tt h comes;
  unsaid = unsaid_comes hosts;
  round = λ old new answer round on comes. still_comes hosts old new (plain_round old new answer round) comes;
}

pub plain_states : laws.Whole → PlainStates
plain_states law hosts one other all p q parts same =
    let a : Comes hosts one.carrier = reached_holds plain_calls (Comes hosts) (plain_keeps hosts all) (opening_boxes hosts) one p (none_comes hosts) in
    let b : Comes hosts other.carrier = reached_holds plain_calls (Comes hosts) (plain_keeps hosts all) (opening_boxes hosts) other q (none_comes hosts) in
    let first : IsTold one.carrier = reached hosts a.events one.carrier a.lines a.valid a.replays in
    let second : IsTold other.carrier = reached hosts b.events other.carrier b.lines b.valid b.replays in
    let carriers : other.carrier ≡ record one.carrier { log = other.carrier.log } =
    law.texts one.carrier other.carrier first second (a.same ∙ sym b.same) (λ part is. parts part (subst (λ (hs : List Host). IsPart hs part) a.same is)) in
    let told : IsWorldTold one = reached_told (shown plain_calls) (opening_boxes hosts) p.script one p.lines p.replays p.numbers in
    let others : IsWorldTold other = reached_told (shown plain_calls) (opening_boxes hosts) q.script other q.lines q.replays q.numbers in
    whole one other told others same ∙ ap (λ (c : Boxes). record one { carrier = c; kept = other.kept }) carriers
