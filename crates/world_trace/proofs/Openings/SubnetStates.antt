-- Texts say all of a world over a subnet to which a replay comes.
use Rattle.world_trace.proofs.Common.{Crossing, shown, IsWorldTold}
use Rattle.std.proofs.Common.{◌≡◌, ℕ, ◌+◌, ◌≤◌, ◌||◌, Bool, false, List, [], ◌∷◌, ◌++◌, length, Option, Result, Ok, Err, refl, ap, sym, subst, ◌∙◌, arith}
use Rattle.interface.specs.Calls.{is_halt, is_memory}
use Rattle.interface.specs.Host.{Host, IsAddress, most_imps}
use Rattle.replay.specs.Output.{Refused, shown_crossings, Shown, shown_refusal}
use Rattle.replay.specs.Replay.{GoesOn, outcome_of}
use Rattle.script.specs.Spelling.{IsHost, IsMessage, IsNetEvent}
use Rattle.subnet.specs.Calls.{running, Fails, Kept}
use Rattle.subnet.specs.Events.{quiet_round, offer_out, step_refusal, stepped, take_in}
use Rattle.subnet.specs.Working.{subnet_calls, IsWorking, SubnetOffer, SubnetRound, SubnetStep, SubnetTake}
use Rattle.subnet_trace.proofs.lemmas.{refused, IsKnown, offer_known, opening_known, round_known, runs, step_known, take_known, told}
use Rattle.std.proofs.lemmas.Bool.Decides.{nat_tests}
use Rattle.interface.specs.declared.CarrierFault.{CarrierFault}
use Rattle.interface.specs.declared.HostMessage.{HostMessage}
use Rattle.interface.specs.declared.Inbound.{Inbound}
use Rattle.interface.specs.declared.NetEvent.{NetEvent}
use Rattle.subnet.specs.Net.{Net}
use Rattle.subnet.specs.Opening.{hosts_from, opening_subnet}
use Rattle.subnet.specs.Routed.{IsHostMessage}
use Rattle.subnet.specs.declared.Ends.{Ends}
use Rattle.subnet.proofs.lemmas.{offer_working, opening_working, round_working, step_working, take_working}
use Rattle.subnet_trace.specs.Told.{IsOneNetwork, IsTold, SameTexts}
use Rattle.trace.proofs.lemmas.{flow_named}
use Rattle.world_trace.specs.Reached.{SubnetStates}
use Rattle.world_trace.proofs.States.{Keeps, not_refused, reached_holds}
use Rattle.world_trace.proofs.Whole.{reached_told, whole}

-- two subnets of one network of which all can be printed, with the same texts of all parts, differ in the log only
abbrev pub SameNets : Type 0
SameNets = (one other : Net) → IsTold one → IsTold other → IsOneNetwork one other → SameTexts one other → other ≡ record one { log = other.log }

address : (h : Host) → IsHost h → IsAddress h
address h is = record { imp_from = grind (arith, nat_tests); imp_to = grind (arith, nat_tests); host_to = grind (arith, nat_tests) }

host_message : (m : HostMessage) → IsMessage m → IsHostMessage m
host_message m is = record { source = address m.flow.source is.0.0; destination = address m.flow.destination is.0.1; link = is.0.2; text = is.1 }

-- a subnet in which memory never ran out, and of which all can be printed
record Holds (o : Net) (k : Kept) : Type 0 where
  working : IsWorking k
  runs : k.stopped ≡ false
  known : IsKnown o k.net

module _ (o : Net) where
  same_holds : (old new : Kept) → new ≡ old → Holds o old → Holds o new
  same_holds old new same holds = subst (Holds o) (sym same) holds

  refused_holds : (refusal : Option CarrierFault) (grows : Bool) (old new : Kept) (f : CarrierFault) → Fails refusal grows (is_memory f) f old new → (is_halt f || is_memory f) ≡ false → Holds o old → Holds o new
  refused_holds refusal grows old new f h goes holds = same_holds old new (refused refusal grows old new f h goes).1 holds

  -- after a call that succeeded
  after_call : (old new : Kept) (left : Net) → new ≡ running left → IsWorking new → IsKnown o left → Holds o new
  after_call old new left is working known = record {
    working = working;
    runs = ap (λ (k : Kept). k.stopped) is;
    known = subst (λ (k : Kept). IsKnown o k.net) (sym is) known;
  }

  offer_holds : (old new : Kept) (m : HostMessage) (r : Result (Unit {0}) CarrierFault) → IsMessage m → SubnetOffer old m r new → GoesOn r → Holds o old → Holds o new
  offer_holds old new m (Ok done) valid h goes holds =
      after_call old new (offer_out old.net m) h.1 (offer_working old m (Ok done) new (host_message m valid) h holds.working) (offer_known old.net m (flow_named m.flow valid.0) holds.known)
  offer_holds old new m (Err f) valid h goes holds = refused_holds _ _ old new f h goes holds

  -- an offer that shows a refusal is refused
  unsaid_holds : (old new : Kept) (m : HostMessage) (r : Result (Unit {0}) CarrierFault) (cs : List Crossing) (f : CarrierFault) (lines : List Shown) → lines ≡ shown_crossings cs ++ shown_refusal r → lines ≡ Refused f ∷ [] → SubnetOffer old m r new → GoesOn r → Holds o old → Holds o new
  unsaid_holds old new m (Ok done) cs f lines shows is h goes holds = absurd (not_refused cs f (sym shows ∙ is))
  unsaid_holds old new m (Err e) cs f lines shows is h goes holds = refused_holds _ _ old new e h goes holds

  take_holds : (old new : Kept) (h : Host) (r : Result (Option Inbound) CarrierFault) → SubnetTake old h r new → GoesOn (outcome_of r) → Holds o old → Holds o new
  take_holds old new h (Ok given) k goes holds = after_call old new (take_in old.net h) k.1.1 (take_working old h (Ok given) new k holds.working) (take_known old.net h holds.known)
  take_holds old new h (Err f) k goes holds = refused_holds _ _ old new f k goes holds

  step_holds : (old new : Kept) (e : NetEvent) (r : Result (Unit {0}) CarrierFault) → IsNetEvent e → SubnetStep old e r new → GoesOn r → Holds o old → Holds o new
  step_holds old new e (Ok done) valid h goes holds =
      after_call old new (stepped old.net e) h.1 (step_working old e (Ok done) new h holds.working)
      (step_known old.net e valid (runs old.stopped (step_refusal old.net e) h.0) (holds.working.whole holds.runs).sound holds.known)
  step_holds old new e (Err f) valid h goes holds = refused_holds _ _ old new f h goes holds

  round_holds : (old new : Kept) (r : Result (Unit {0}) CarrierFault) → SubnetRound old r new → GoesOn r → Holds o old → Holds o new
  round_holds old new (Ok done) h goes holds = after_call old new (quiet_round old.net) h.1 (round_working old (Ok done) new h holds.working) (round_known old.net (holds.working.whole holds.runs).sound holds.known)
  round_holds old new (Err f) h goes holds = refused_holds _ _ old new f h goes holds

  subnet_keeps : Keeps subnet_calls (Holds o)
  subnet_keeps = record {
    net = λ old new e lines valid h holds. step_holds old new e h.outcome valid h.gives h.goes_on holds;
    take = λ old new g lines h holds. take_holds old new g h.gives.0 h.gives.1 (subst GoesOn h.gives.2 h.goes_on) holds;
    out = λ old new m lines valid h holds. offer_holds old new m h.outcome valid h.gives h.goes_on holds;
    unsaid = λ old new m lines f is h holds. unsaid_holds old new m h.outcome h.crossings f lines h.lines is h.gives h.goes_on holds;
    round = round_holds;
  }

opening_holds : (sites : List (Option ℕ)) (ends : List Ends) → length sites ≤ most_imps + 1 → Holds (opening_subnet (hosts_from 0 sites) sites ends) (running (opening_subnet (hosts_from 0 sites) sites ends))
opening_holds sites ends few = record { working = opening_working sites ends few; runs = refl; known = opening_known (hosts_from 0 sites) sites ends }

one_network : (o n m : Net) → IsOneNetwork o n → IsOneNetwork o m → IsOneNetwork n m
one_network o n m p q = record { hosts = sym p.hosts ∙ q.hosts; sites = sym p.sites ∙ q.sites; lines = sym p.lines ∙ q.lines }

pub subnet_states : SameNets → SubnetStates
subnet_states texts sites ends one other few p q parts same =
    let o : Net = opening_subnet (hosts_from 0 sites) sites ends in
    let a : Holds o one.carrier = reached_holds subnet_calls (Holds o) (subnet_keeps o) (running o) one p (opening_holds sites ends few) in
    let b : Holds o other.carrier = reached_holds subnet_calls (Holds o) (subnet_keeps o) (running o) other q (opening_holds sites ends few) in
    let first : IsTold one.carrier.net = told one.carrier.net (a.working.whole a.runs) a.known in
    let second : IsTold other.carrier.net = told other.carrier.net (b.working.whole b.runs) b.known in
    let nets : other.carrier.net ≡ record one.carrier.net { log = other.carrier.net.log } =
    texts one.carrier.net other.carrier.net first second (one_network o one.carrier.net other.carrier.net a.known.network b.known.network) parts in
    let stopped : other.carrier.stopped ≡ one.carrier.stopped = b.runs ∙ sym a.runs in
    let carriers : other.carrier ≡ record one.carrier { net = record one.carrier.net { log = other.carrier.net.log } } = λ i. record { net = nets i; stopped = stopped i } in
    let whole_one : IsWorldTold one = reached_told (shown subnet_calls) (running o) p.script one p.lines p.replays p.numbers in
    let whole_other : IsWorldTold other = reached_told (shown subnet_calls) (running o) q.script other q.lines q.replays q.numbers in
    whole one other whole_one whole_other same ∙ ap (λ (c : Kept). record one { carrier = c; kept = other.kept }) carriers
