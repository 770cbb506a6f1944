-- What crosses by calls of small carriers.
use Rattle.world_replay.proofs.Common.{◌≡◌, inl, inr, ℕ, suc, List, [], ◌∷◌, ◌++◌, length, None, Ok, reverse, refl, ap, subst, ◌∙◌, arith, All, Host, WorldState, Event, InTurn, first, second, IsOfCalm, Calm, Happen}
use Rattle.std.proofs.lemmas.List.Elements.{All-cons, All-nil, All-head, All-tail}
use Rattle.interface.specs.Calls.{Seen, crossing_of, IsFor}
use Rattle.net_sim.specs.Worked.{fresh, message, any_carrier}
use Rattle.world_replay.specs.Driven.{Brings, Drive, Drives, Goes, IsCall, IsDriven, IsDrivenIn, IsShown, Raw, Round}
use Rattle.world_replay.specs.Worked.{after, booked, came, went}
use Rattle.interface.specs.declared.HostMessage.{HostMessage}
use Rattle.interface.specs.declared.Inbound.{Inbound}
use Rattle.interface.specs.declared.crossing.Inbound.TheVariants as inbound
use Rattle.interface.specs.declared.crossing.Crossing.TheVariants as crossing
use Rattle.net_sim.specs.declared.event.Event.TheVariants as event
use Rattle.replay.specs.Output.{Crossed, Shown, crossings_of, shown_crossings, shown_refusal}
use Rattle.replay.specs.Worked.{counting}
use Rattle.script.specs.declared.event.RawEvent.TheVariants as raw

-- ---- messages

pub another : message first second 0 ≡ message second first 0 → ⊥
another same = let imps : 1 ≡ 2 = ap (λ (m : HostMessage). m.flow.source.imp) same in omega (arith, imps)

-- ---- what is taken

-- what comes in is a message or an answer
message_taken : (h : Host) (m : HostMessage) (i : Inbound) → IsFor h i → crossing.In m ≡ crossing_of i → m.flow.destination ≡ h
message_taken h m (inbound.Message n) for is = let same : m ≡ n = cc in ap (λ (x : HostMessage). x.flow.destination) same ∙ for
message_taken h m (inbound.Answer kind f) for is = absurd (cc)

out_taken : (m : HostMessage) (i : Inbound) → crossing.Out m ≡ crossing_of i → ⊥
out_taken m (inbound.Message n) is = absurd (cc)
out_taken m (inbound.Answer kind f) is = absurd (cc)

pub for_another : (s : Seen) → Brings s (raw.Take first) (came ∷ []) → ⊥
for_another s (inl none) = absurd (cc)
for_another s (inr (i, for, is)) =
    let came_in : came ≡ crossing_of i = cc in
    let imps : 2 ≡ 1 = ap (λ (h : Host). h.imp) (message_taken first (message first second 0) i for came_in) in
    omega (arith, imps)

pub went_out : (s : Seen) → Brings s (raw.Take second) (went ∷ []) → ⊥
went_out s (inl none) = absurd (cc)
went_out s (inr (i, for, is)) = let same : went ≡ crossing_of i = cc in out_taken (message first second 0) i same

pub two_taken : (s : Seen) → Brings s (raw.Take second) (came ∷ came ∷ []) → ⊥
two_taken s (inl none) = absurd (cc)
two_taken s (inr (i, for, is)) = let lengths : 2 ≡ 1 = ap length is in omega (arith, lengths)

-- ---- what is shown

-- of an offer one line
pub one_line : (s : Seen) (shown : List Shown) → IsShown s (raw.Out (message first second 0)) shown → length shown ≡ 1
one_line s shown (inl (crossings, brings, is)) = ap length (is ∙ ap shown_crossings brings)
one_line s shown (inr (f, is)) = ap length is

-- ---- calls that are counted

take_once : (n : ℕ) → Goes counting n (Raw (raw.Take first)) (suc n) []
take_once n = (record { outcome = Ok tt; gives = (Ok None, (refl, refl), refl); goes_on = tt; crossings = []; grown = refl; lines = refl }, inl ([], inl refl, refl))

round_once : (n : ℕ) → Goes counting n Round (suc n) []
round_once n = (Ok tt, (refl, refl), tt, refl)

pub one_taking : Goes counting 3 (Raw (raw.Take first)) 4 []
one_taking = take_once 3

pub two_takings : Goes counting 3 (Raw (raw.Take first)) 5 [] → ⊥
two_takings h = let same : 5 ≡ 4 = h.0.gives.1.1 in omega (arith, same)

pub quiet_silent : Goes counting 3 Round 4 (Crossed came ∷ []) → ⊥
quiet_silent h = let none : Crossed came ∷ [] ≡ [] = h.3 ∙ ap shown_refusal h.1.0 in absurd (cc)

-- ---- events

pub taken : IsDriven any_carrier fresh (event.Take first) fresh (Raw (raw.Take first) ∷ [])
taken = record {
  makes = refl;
  shown = [];
  goes = (
    fresh.carrier,
    [],
    [],
    (record { outcome = Ok tt; gives = (Ok None, record { running = refl; shown = refl }, refl); goes_on = tt; crossings = []; grown = refl; lines = refl }, inl ([], inl refl, refl)),
    (refl, refl),
    refl,
  );
  crossed = refl;
}

pub untaken : IsDriven any_carrier fresh (event.Take first) fresh [] → ⊥
untaken h = let is = h.makes in absurd (cc)

pub taken_by_another : IsDriven any_carrier fresh (event.Take first) fresh (Raw (raw.Take second) ∷ []) → ⊥
taken_by_another h =
    let is = h.makes in
    let same : second ≡ first = cc in
    let imps : 2 ≡ 1 = ap (λ (g : Host). g.imp) same in
    omega (arith, imps)

pub uncalled : IsDriven counting (after 3) (event.Typed first []) (after 4) [] → ⊥
uncalled h = let same : 4 ≡ 3 = h.goes.0 in omega (arith, same)

no_crossing : (shown : List Shown) → shown ≡ [] → went ∷ [] ≡ reverse (crossings_of shown) ++ [] → ⊥
no_crossing shown none is = let nothing : went ∷ [] ≡ [] = is ∙ ap (λ (ls : List Shown). reverse (crossings_of ls) ++ []) none in absurd (cc)

pub not_crossed : IsDriven any_carrier fresh (event.Typed first []) (booked fresh) [] → ⊥
not_crossed h = no_crossing h.shown h.goes.1 h.crossed

-- ---- calls in turn

pub two_calls : Drives counting (after 3) (after 5) (Round ∷ Raw (raw.Take first) ∷ [])
two_calls = record {
  calls_only = All-cons IsCall Round (Raw (raw.Take first) ∷ []) tt (All-cons IsCall (Raw (raw.Take first)) [] tt (All-nil IsCall));
  shown = [];
  goes = (4, [], [], round_once 3, (5, [], [], take_once 4, (refl, refl), refl), refl);
  crossed = refl;
}

pub one_call : Drives counting (after 3) (after 5) (Round ∷ []) → ⊥
one_call h = let same : 5 ≡ 4 = h.goes.4.0 ∙ h.goes.3.1.1 in omega (arith, same)

pub not_booked : Drives counting (after 3) (booked (after 3)) [] → ⊥
not_booked h = no_crossing h.shown h.goes.1 h.crossed

pub no_calm : Drives counting (after 3) (after 5) (Raw (raw.Calm 2) ∷ []) → ⊥
no_calm h = All-head IsCall (Raw (raw.Calm 2)) [] h.calls_only

-- ---- events of a script

pub a_calm : All IsOfCalm (event.Quiet ∷ event.Take first ∷ event.Offer first ∷ [])
a_calm = All-cons IsOfCalm event.Quiet (event.Take first ∷ event.Offer first ∷ []) tt (All-cons IsOfCalm (event.Take first) (event.Offer first ∷ []) tt (All-cons IsOfCalm (event.Offer first) [] tt (All-nil IsOfCalm)))

pub not_typed : All IsOfCalm (event.Quiet ∷ event.Typed first [] ∷ []) → ⊥
not_typed all = All-head IsOfCalm (event.Typed first []) [] (All-tail IsOfCalm event.Quiet (event.Typed first [] ∷ []) all)

pub calm_called : IsDrivenIn counting (after 3) (Calm 1) (after 4) (Round ∷ [])
calm_called = (
  event.Quiet ∷ [],
  (All-cons IsOfCalm event.Quiet [] tt (All-nil IsOfCalm), refl),
  (after 4, Round ∷ [], [], record { makes = refl; shown = []; goes = (4, [], [], round_once 3, (refl, refl), refl); crossed = refl }, (refl, refl), refl),
)

-- without hosts nobody takes
unmoved : (mid : WorldState ℕ) (drives : List Drive) → IsDriven counting (after 3) (event.Take first) mid drives → mid.carrier ≡ 3
unmoved mid drives h = (subst (λ (ds : List Drive). InTurn (Goes counting) 3 ds mid.carrier h.shown) h.makes h.goes).0

pub nobody_takes : (drives : List Drive) → IsDrivenIn counting (after 3) (Happen (event.Take first)) (after 4) drives → ⊥
nobody_takes drives (events, course, driven) = by (subst (λ (es : List Event). InTurn (IsDriven counting) (after 3) es (after 4) drives) course driven) where
  by : InTurn (IsDriven counting) (after 3) (event.Take first ∷ []) (after 4) drives → ⊥
  by (mid, begin, rest, one, left, all) =
      let same : 4 ≡ 3 = ap (λ (w : WorldState ℕ). w.carrier) left.0 ∙ unmoved mid begin one in
      omega (arith, same)
