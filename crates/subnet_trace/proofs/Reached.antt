-- Each subnet that a replay comes to is determined by the texts of its parts.
use Rattle.subnet_trace.proofs.Common.{◌≡◌, ℕ, zero, suc, ◌+◌, ◌≤◌, ◌||◌, Bool, true, false, List, [], ◌∷◌, length, Option, Some, None, Result, Ok, Err, refl, sym, ap, ◌∙◌, subst, arith, false≢true, nat_tests, All-head, All-tail, All, is_halt, is_memory, CarrierFault, HostMessage, Inbound, NetEvent, Shown, RawEvent, Fails, Kept, running, Net, opening_subnet, Ends, IsOneNetwork, IsTold, SameTexts, IsReached}
use Rattle.subnet.specs.Opening.{hosts_from}
use Rattle.interface.specs.Host.{Host, most_imps, IsAddress}
use Rattle.interface.proofs.lemmas.{or_false}
use Rattle.replay.specs.Replay.{AllTake, GoesOn, Happens, Quiet, Replays, calmly, outcome_of, Chain, Onward, Part, Round, Rounds, Takings}
use Rattle.script.specs.Spelling.{IsNetEvent, IsEvent, IsHost, IsMessage}
use Rattle.subnet.specs.Sound.{IsSound}
use Rattle.subnet.specs.Working.{SubnetStep, SubnetTake, subnet_calls, SubnetRound, IsWorking, SubnetOffer}
use Rattle.trace.proofs.lemmas.{flow_named, goes_calmly}
use Rattle.script.specs.declared.event.RawEvent.TheVariants as event
use Rattle.subnet.specs.Routed.{IsHostMessage}
use Rattle.subnet.proofs.lemmas.{offer_working, opening_working, round_working, step_working, take_working}
use Rattle.subnet_trace.proofs.Known.{IsKnown, offer_known, opening_known, round_known, step_known, take_known, told}
use Rattle.subnet_trace.proofs.Rest.{runs}
use Rattle.subnet_trace.proofs.Whole.{whole}

-- ---- messages of a script

address : (h : Host) → IsHost h → IsAddress h
address h is = record { imp_from = grind (arith, nat_tests); imp_to = grind (arith, nat_tests); host_to = grind (arith, nat_tests) }

host_message : (m : HostMessage) → IsMessage m → IsHostMessage m
host_message m is = record { source = address _ is.0.0; destination = address _ is.0.1; link = is.0.2; text = is.1 }

-- ---- calls that continued

-- a subnet in which memory never ran out, and of which all can be printed
pub record Holds (o : Net) (k : Kept) : Type 0 where
  pub working : IsWorking k
  pub runs : k.stopped ≡ false
  pub known : IsKnown o k.net

sound_of : {o : Net} (k : Kept) → Holds o k → IsSound k.net
sound_of k holds = (holds.working.whole holds.runs).sound

-- a call that is refused, and not for want of memory, changes nothing
unchanged : (refusal : Option CarrierFault) (grows : Bool) (old new : Kept) (f : CarrierFault) → Fails refusal grows (is_memory f) f old new → (is_halt f || is_memory f) ≡ false → new ≡ old
unchanged refusal grows old new f h goes = by (is_memory f) (or_false (is_halt f) _ goes).1 h where
  by : (b : Bool) → b ≡ false → Fails refusal grows b f old new → new ≡ old
  by true e h = absurd (false≢true (sym e))
  by false e h = h.1

same_holds : {o : Net} (old new : Kept) → new ≡ old → Holds o old → Holds o new
same_holds {o} old new same holds = subst (Holds o) (sym same) holds

-- after a call that succeeded
after_call : {o : Net} (old new : Kept) (left : Net) → new ≡ running left → IsWorking new → IsKnown o left → Holds o new
after_call {o} old new left is working known = record {
  working = working;
  runs = ap (λ (k : Kept). k.stopped) is;
  known = subst (λ (k : Kept). IsKnown o k.net) (sym is) known;
}

offer_holds : {o : Net} (old new : Kept) (m : HostMessage) (r : Result (Unit {0}) CarrierFault) → IsMessage m → SubnetOffer old m r new → GoesOn r → Holds o old → Holds o new
offer_holds old new m (Ok done) valid h goes holds = after_call old new _ h.1 (offer_working old m (Ok done) new (host_message m valid) h holds.working) (offer_known _ m (flow_named m.flow valid.0) holds.known)
offer_holds old new m (Err f) valid h goes holds = same_holds old new (unchanged _ _ old new f h goes) holds

take_holds : {o : Net} (old new : Kept) (h : Host) (r : Result (Option Inbound) CarrierFault) → SubnetTake old h r new → GoesOn (outcome_of r) → Holds o old → Holds o new
take_holds old new h (Ok given) k goes holds = after_call old new _ k.1.1 (take_working old h (Ok given) new k holds.working) (take_known _ h holds.known)
take_holds old new h (Err f) k goes holds = same_holds old new (unchanged _ _ old new f k goes) holds

step_holds : {o : Net} (old new : Kept) (e : NetEvent) (r : Result (Unit {0}) CarrierFault) → IsNetEvent e → SubnetStep old e r new → GoesOn r → Holds o old → Holds o new
step_holds old new e (Ok done) valid h goes holds =
    after_call old new _ h.1 (step_working old e (Ok done) new h holds.working)
    (step_known _ e valid (runs _ _ h.0) (sound_of old holds) holds.known)
step_holds old new e (Err f) valid h goes holds = same_holds old new (unchanged _ _ old new f h goes) holds

quiet_round_holds : {o : Net} (old new : Kept) (r : Result (Unit {0}) CarrierFault) → SubnetRound old r new → GoesOn r → Holds o old → Holds o new
quiet_round_holds old new (Ok done) h goes holds = after_call old new _ h.1 (round_working old (Ok done) new h holds.working) (round_known _ (sound_of old holds) holds.known)
quiet_round_holds old new (Err f) h goes holds = same_holds old new (unchanged _ _ old new f h goes) holds

-- ---- a calm

-- after a part of a calm that continues it holds as before
abbrev PartHolds : Net → Part Kept → Type 0
PartHolds o P = (old new : Kept) (r : Result (Unit {0}) CarrierFault) → P old r new → GoesOn r → Holds o old → Holds o new

calmly_goes : (r : Result (Unit {0}) CarrierFault) → GoesOn (calmly r) → GoesOn r
calmly_goes (Ok done) goes = tt
calmly_goes (Err f) goes = goes_calmly f goes

onward_holds : {o : Net} (Next : Part Kept) → PartHolds o Next → (first : Result (Unit {0}) CarrierFault) (old mid new : Kept) (r : Result (Unit {0}) CarrierFault) → (GoesOn first → Holds o mid) → Onward Next first mid r new → GoesOn r → Holds o new
onward_holds Next keeps (Ok done) old mid new r before h goes = keeps mid new r h goes (before tt)
onward_holds Next keeps (Err f) old mid new r before h goes = same_holds mid new h.1 (before (subst GoesOn h.0 goes))

chain_holds : {o : Net} (First Next : Part Kept) → PartHolds o First → PartHolds o Next → PartHolds o (Chain First Next)
chain_holds First Next one more old new r (first, mid, h, k) goes holds = onward_holds Next more first old mid new r (λ went. one old mid first h went holds) k goes

takings_hold : {o : Net} (h : Host) (times : ℕ) → PartHolds o (Takings subnet_calls h times)
takings_hold h zero old new r k goes holds = same_holds old new k.1 holds
takings_hold h (suc times) old new r (Ok (Some given), mid, k, more) goes holds = takings_hold h times mid new r more goes (take_holds old mid h (Ok (Some given)) k tt holds)
takings_hold h (suc times) old new r (Ok None, mid, k, done) goes holds = same_holds mid new done.1 (take_holds old mid h (Ok None) k tt holds)
takings_hold h (suc times) old new r (Err f, mid, k, done) goes holds =
    same_holds mid new done.1 (take_holds old mid h (Err f) k (calmly_goes (Err f) (subst GoesOn done.0 goes)) holds)

all_take_hold : {o : Net} (hosts : List Host) → PartHolds o (AllTake subnet_calls hosts)
all_take_hold [] old new r k goes holds = same_holds old new k.1 holds
all_take_hold (h ∷ hosts) old new r k goes holds = chain_holds (Takings subnet_calls h 16) (AllTake subnet_calls hosts) (takings_hold h 16) (all_take_hold hosts) old new r k goes holds

quiet_holds : {o : Net} → PartHolds o (Quiet subnet_calls)
quiet_holds old new r (answer, k, is) goes holds = quiet_round_holds old new answer k (calmly_goes answer (subst GoesOn is goes)) holds

pub round_holds : {o : Net} → PartHolds o (Round subnet_calls)
round_holds old new r k goes holds = chain_holds (Quiet subnet_calls) (AllTake subnet_calls old.net.hosts) quiet_holds (all_take_hold _) old new r k goes holds

rounds_hold : {o : Net} (times : ℕ) → PartHolds o (Rounds subnet_calls times)
rounds_hold zero old new r k goes holds = same_holds old new k.1 holds
rounds_hold (suc times) old new r k goes holds =
    chain_holds (Round subnet_calls) (Rounds subnet_calls times) round_holds (rounds_hold times) old new r k goes holds

-- ---- a replay

pub event_holds : {o : Net} (old new : Kept) (e : RawEvent) (shown : List Shown) → IsEvent e → Happens subnet_calls old e new shown → Holds o old → Holds o new
event_holds old new (event.Out m) shown valid k holds = offer_holds old new m _ valid k.gives k.goes_on holds
event_holds old new (event.Take h) shown valid k holds = take_holds old new h _ k.gives.1 (subst GoesOn k.gives.2 k.goes_on) holds
event_holds old new (event.Net e) shown valid k holds = step_holds old new e _ valid k.gives k.goes_on holds
event_holds old new (event.Calm rounds) shown valid k holds = rounds_hold rounds old new k.outcome k.gives k.goes_on holds

replay_holds : {o : Net} (events : List RawEvent) (old new : Kept) (shown : List Shown) → All IsEvent events → Replays subnet_calls old events new shown → Holds o old → Holds o new
replay_holds {o} [] old new shown valid h holds = subst (Holds o) (sym h.0) holds
replay_holds (e ∷ events) old new shown valid (mid, first, rest, h, hs, whole) holds =
    replay_holds events mid new rest (All-tail IsEvent e events valid) hs (event_holds old mid e first (All-head IsEvent e events valid) h holds)

-- ---- from the opening

pub opening_holds : (sites : List (Option ℕ)) (ends : List Ends) → length sites ≤ most_imps + 1 → Holds (opening_subnet (hosts_from 0 sites) sites ends) (running (opening_subnet (hosts_from 0 sites) sites ends))
opening_holds sites ends few = record { working = opening_working sites ends few; runs = refl; known = opening_known _ sites ends }

pub reached_holds : (sites : List (Option ℕ)) (ends : List Ends) (k : Kept) → IsReached sites ends k → Holds (opening_subnet (hosts_from 0 sites) sites ends) k
reached_holds sites ends k is = replay_holds _ _ k _ is.valid is.replayed (opening_holds sites ends is.few)

pub reached : (sites : List (Option ℕ)) (ends : List Ends) (k : Kept) → IsReached sites ends k → IsTold k.net
reached sites ends k is = let holds = reached_holds sites ends k is in told k.net (holds.working.whole holds.runs) holds.known

pub network : (sites : List (Option ℕ)) (ends : List Ends) (k : Kept) → IsReached sites ends k → IsOneNetwork (opening_subnet (hosts_from 0 sites) sites ends) k.net
network sites ends k is = (reached_holds sites ends k is).known.network

pub one_opening : (o n m : Net) → IsOneNetwork o n → IsOneNetwork o m → IsOneNetwork n m
one_opening o n m p q = record { hosts = sym p.hosts ∙ q.hosts; sites = sym p.sites ∙ q.sites; lines = sym p.lines ∙ q.lines }

pub replays : (sites : List (Option ℕ)) (ends : List Ends) (one other : Kept) → IsReached sites ends one → IsReached sites ends other → SameTexts one.net other.net → other.net ≡ record one.net { log = other.net.log }
replays sites ends one other p q same =
    whole _ _ (reached sites ends one p) (reached sites ends other q) (one_opening _ _ _ (network sites ends one p) (network sites ends other q)) same
