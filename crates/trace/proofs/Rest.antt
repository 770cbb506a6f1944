-- What an event's parts do not name is as before.
use Rattle.trace.proofs.Common.{◌≡◌, ◌||◌, Bool, true, false, List, [], ◌∷◌, ◌++◌, Option, Some, None, if◌then◌else◌, filter, inl, inr, map, refl, reverse, sym, ap, ◌∙◌, Host, is_host, same_host, Flow, NetEvent, Crossing, Shown, crossings_of, Happens, IsOneCall, RawEvent}
use Rattle.std.proofs.lemmas.Bool.{false≢true, or_parts}
use Rattle.leader1822.specs.Boxes.{Boxes, for_host, given_up, inbound_taken, offered, stepped, plain_calls}
use Rattle.interface.specs.declared.Inbound.{Inbound}
use Rattle.interface.specs.declared.Inbound.TheVariants as inbound
use Rattle.interface.specs.declared.NetEvent.TheVariants as net
use Rattle.interface.specs.declared.HostMessage.{HostMessage}
use Rattle.interface.specs.declared.crossing.Answer.TheVariants as answer
use Rattle.interface.specs.declared.crossing.Crossing.TheVariants as crossing
use Rattle.script.specs.declared.event.RawEvent.TheVariants as event
use Rattle.trace.specs.Parts.{Part, Down, Waiting, IsPart, SamePart, is_named, is_source, moves_host, parts_of, reaches}
use Rattle.replay.proofs.lemmas.{happens_shows}
use Rattle.trace.proofs.Each.{Left, left_of}
use Rattle.trace.proofs.Going.{crossings_are}
use Rattle.trace.proofs.Queues.{for_other, queued_other}
use Rattle.interface.proofs.lemmas.{same_host-true}

-- ---- what is not named

down_named : (t : Bool) (parts : List Part) → is_named Down ((if t then Down ∷ [] else []) ++ parts) ≡ false → t ≡ false
down_named true parts h = absurd (cc)
down_named false parts h = refl

past_down : (t : Bool) (h : Host) (parts : List Part) → is_named (Waiting h) ((if t then Down ∷ [] else []) ++ parts) ≡ is_named (Waiting h) parts
past_down true h parts = refl
past_down false h parts = refl

host_named : (test : Host → Bool) (h : Host) (hosts : List Host) → is_host hosts h ≡ true → test h ≡ true → is_named (Waiting h) (map (λ g. Waiting g) (filter test hosts)) ≡ true
host_named test h [] there passes = absurd (cc)
host_named test h (g ∷ hosts) there passes = by (λ t. host_named test h hosts t passes) (same_host h g) refl (test g) refl
  where
    rest_there : same_host h g ≡ false → is_host hosts h ≡ true
    rest_there e = rw e at there

    by : (is_host hosts h ≡ true → is_named (Waiting h) (map (λ k. Waiting k) (filter test hosts)) ≡ true) → (b : Bool) → same_host h g ≡ b → (c : Bool) → test g ≡ c → is_named (Waiting h) (map (λ g. Waiting g) (filter test (g ∷ hosts))) ≡ true
    by more true e true t = rw t (rw e refl)
    by more true e false t = absurd (false≢true (sym t ∙ ap test (sym (same_host-true h g e)) ∙ passes))
    by more false e true t = rw t (rw e (more (rest_there e)))
    by more false e false t = rw t (more (rest_there e))

not_reached : (hosts : List Host) (e : RawEvent) (crossings : List Crossing) (h : Host) → is_host hosts h ≡ true → is_named (Waiting h) (parts_of hosts e crossings) ≡ false → reaches e crossings h ≡ false
not_reached hosts e crossings h there none = by (reaches e crossings h) refl
  where
    by : (b : Bool) → reaches e crossings h ≡ b → reaches e crossings h ≡ false
    by false is = is
    by true is = absurd (false≢true (sym none ∙ past_down (moves_host e) h _ ∙ host_named _ h hosts there is))

-- ---- each event

-- the queues of one host
abbrev Same : Boxes → Host → Boxes → Type 0
Same old h new = SamePart (Waiting h) old new

all_same : (old new : Boxes) (h : Host) → new ≡ old → Same old h new
all_same old new h e = (ap (λ b. for_host b.messages h) e, ap (λ b. for_host b.answers h) e)

as_left : (old left new : Boxes) (h : Host) → Same old h left → new ≡ left → Same old h new
as_left old left new h s e = (ap (λ b. for_host b.messages h) e ∙ s.0, ap (λ b. for_host b.answers h) e ∙ s.1)

offered_same : (old : Boxes) (m : HostMessage) (h : Host) → same_host h m.flow.destination ≡ false → same_host h m.flow.source ≡ false → Same old h (offered old m)
offered_same old m h d s = (queued_other _ _ _ m h d, queued_other _ _ _ _ h s)

given_up_same : (old : Boxes) (f : Flow) (h : Host) → same_host h f.destination ≡ false → same_host h f.source ≡ false → Same old h (given_up old f)
given_up_same old f h d s = (for_other _ _ _ h d, for_other _ _ _ h s)

-- after what crossed, its source is notified
source_told : (h : Host) (cs log new : List Crossing) (m : HostMessage) → new ≡ reverse cs ++ log → new ≡ crossing.In m ∷ log → is_source h cs ≡ false → same_host h m.flow.source ≡ false
source_told h cs log new m grown is none =
    let one : cs ≡ crossing.In m ∷ [] = crossings_are cs _ log new grown is in
    (or_parts (same_host h m.flow.source) false (ap (is_source h) (sym one) ∙ none)).0

taken_same : (old new : Boxes) (g h : Host) (o : Option Inbound) (cs : List Crossing) → new ≡ inbound_taken old g o → new.log ≡ reverse cs ++ old.log → same_host h g ≡ false → is_source h cs ≡ false → Same old h new
taken_same old new g h None cs e grown other none = all_same old new h e
taken_same old new g h (Some (inbound.Answer kind f)) cs e grown other none =
    as_left old _ new h (refl, for_other _ g _ h other) e
taken_same old new g h (Some (inbound.Message m)) cs e grown other none =
    let apart : same_host h m.flow.source ≡ false = source_told h cs _ _ m grown (ap (λ b. b.log) e) none in
    as_left old _ new h
    (for_other _ g _ h other, queued_other _ _ _ _ h apart) e

stepped_same : (old : Boxes) (e : NetEvent) (crossings : List Crossing) (h : Host) → reaches (event.Net e) crossings h ≡ false → Same old h (stepped old e)
stepped_same old (net.GiveUp f) crossings h none = let apart = or_parts (same_host h f.destination) (same_host h f.source) none in given_up_same old f h apart.0 apart.1
stepped_same old (net.HostDown g) crossings h none = absurd (cc)
stepped_same old e crossings h none = (refl, refl)

pub queues_left : (old new : Boxes) (e : RawEvent) (shown : List Shown) (h : Host) → Left old new e → Happens plain_calls old e new shown → reaches e (crossings_of shown) h ≡ false → Same old h new
queues_left old new (event.Out m) shown h (inl same) k none = all_same old new h same
queues_left old new (event.Out m) shown h (inr left) k none =
    let apart = or_parts (same_host h m.flow.destination) (same_host h m.flow.source) none in
    as_left old _ new h (offered_same old m h apart.0 apart.1) left.1
queues_left old new (event.Take g) shown h (inl same) k none = all_same old new h same
queues_left old new (event.Take g) shown h (inr left) k none =
    let apart = or_parts (same_host h g) (is_source h (crossings_of shown)) none in
    taken_same old new g h _ (crossings_of shown) left.1 (happens_shows plain_calls old new _ shown k) apart.0 apart.1
queues_left old new (event.Net e) shown h (inl same) k none = all_same old new h same
queues_left old new (event.Net e) shown h (inr left) k none = as_left old _ new h (stepped_same old e _ h none) left.1
queues_left old new (event.Calm rounds) shown h left k none = absurd left

-- ---- hosts, and those that are down

-- the hosts stay, and memory has not run out in an event that continued
pub record Frame (old new : Boxes) : Type 0 where
  pub hosts : new.hosts ≡ old.hosts
  pub stopped : new.stopped ≡ old.stopped

same_frame : (old new : Boxes) → new ≡ old → Frame old new
same_frame old new e = record { hosts = ap (λ b. b.hosts) e; stopped = ap (λ b. b.stopped) e }

frame_left : (old left new : Boxes) → Frame old left → new ≡ left → Frame old new
frame_left old left new f e = record { hosts = ap (λ b. b.hosts) e ∙ f.hosts; stopped = ap (λ b. b.stopped) e ∙ f.stopped }

pub taken_frame : (old : Boxes) (g : Host) (o : Option Inbound) → Frame old (inbound_taken old g o)
taken_frame old g None = record { hosts = refl; stopped = refl }
taken_frame old g (Some (inbound.Answer kind f)) = record { hosts = refl; stopped = refl }
taken_frame old g (Some (inbound.Message m)) = record { hosts = refl; stopped = refl }

taken_down : (old : Boxes) (g : Host) (o : Option Inbound) → (inbound_taken old g o).down ≡ old.down
taken_down old g None = refl
taken_down old g (Some (inbound.Answer kind f)) = refl
taken_down old g (Some (inbound.Message m)) = refl

stepped_frame : (old : Boxes) (e : NetEvent) → Frame old (stepped old e)
stepped_frame old (net.GiveUp f) = record { hosts = refl; stopped = refl }
stepped_frame old e = record { hosts = refl; stopped = refl }

stepped_down : (old : Boxes) (e : NetEvent) → moves_host (event.Net e) ≡ false → (stepped old e).down ≡ old.down
stepped_down old (net.HostDown g) none = absurd (cc)
stepped_down old (net.HostUp g) none = absurd (cc)
stepped_down old e none = refl

frame_of : (old new : Boxes) (e : RawEvent) → Left old new e → Frame old new
frame_of old new (event.Out m) (inl same) = same_frame old new same
frame_of old new (event.Out m) (inr left) = frame_left old _ new (record { hosts = refl; stopped = refl }) left.1
frame_of old new (event.Take g) (inl same) = same_frame old new same
frame_of old new (event.Take g) (inr left) = frame_left old _ new (taken_frame old g _) left.1
frame_of old new (event.Net e) (inl same) = same_frame old new same
frame_of old new (event.Net e) (inr left) = frame_left old _ new (stepped_frame old e) left.1
frame_of old new (event.Calm rounds) left = absurd left

pub down_left : (old new : Boxes) (e : RawEvent) → Left old new e → moves_host e ≡ false → new.down ≡ old.down
down_left old new (event.Out m) (inl same) none = ap (λ b. b.down) same
down_left old new (event.Out m) (inr left) none = ap (λ b. b.down) left.1
down_left old new (event.Take g) (inl same) none = ap (λ b. b.down) same
down_left old new (event.Take g) (inr left) none = ap (λ b. b.down) left.1 ∙ taken_down old g _
down_left old new (event.Net e) (inl same) none = ap (λ b. b.down) same
down_left old new (event.Net e) (inr left) none = ap (λ b. b.down) left.1 ∙ stepped_down old e none
down_left old new (event.Calm rounds) left none = absurd left

pub frame : (old new : Boxes) (e : RawEvent) (shown : List Shown) → IsOneCall e → Happens plain_calls old e new shown → Frame old new
frame old new e shown one k = frame_of old new e (left_of old new e shown one k)

pub rest_same : (old new : Boxes) (e : RawEvent) (shown : List Shown) (p : Part) → IsOneCall e → Happens plain_calls old e new shown → IsPart old.hosts p → is_named p (parts_of old.hosts e (crossings_of shown)) ≡ false → SamePart p old new
rest_same old new e shown Down one k there none =
    down_left old new e (left_of old new e shown one k) (down_named _ _ none)
rest_same old new e shown (Waiting h) one k there none =
    queues_left old new e shown h (left_of old new e shown one k) k (not_reached _ e _ h there none)
