use Rattle.world_replay.proofs.Common.{◌≡◌, [], ◌∷◌, Option, None, Some, Result, Ok, Err, refl, subst, sym, MatchBool, WorldFault, NoProgram, Carrier, Offer, third, beside_third}
use Rattle.interface.specs.Calls.{Seen}
use Rattle.net_sim.specs.World.{WorldState, Passes, stops}
use Rattle.net_sim.specs.Steps.{FetchEnds, OutEnds, Runs}
use Rattle.interface.specs.declared.carrier.CarrierFault.{CarrierFault}
use Rattle.interface.specs.declared.carrier.CarrierFault.TheVariants as fault
use Rattle.interface.specs.declared.crossing.Inbound.{Inbound}
use Rattle.world_replay.specs.WorkedBeside.{closed_carrier, tired_carrier}
use Rattle.world_replay.specs.WorkedStrangers.{hail}
use Rattle.world_replay.proofs.worked_beside.worked_answered.Goals as goal

abbrev world : WorldState Seen
world = beside_third

-- only the carrier changes
abbrev Stays : WorldState Seen → Type 0
Stays w = w ≡ record world { carrier = w.carrier }

stays : (c : Seen) (w : WorldState Seen) → w ≡ record world { carrier = c } → Stays w
stays c w is = subst Stays (sym is) refl

nothing : (a : Result (Option Inbound) CarrierFault) (c : Seen) (r : Result (Unit {0}) WorldFault) (w : WorldState Seen)
    → a ≡ Ok None → FetchEnds a c world r w → (r ≡ Ok tt) × Stays w
nothing (Ok None) c r w is ends = (ends.0, stays c w ends.1)
nothing (Ok (Some i)) c r w is ends = absurd (cc)
nothing (Err e) c r w is ends = absurd (cc)

-- the world answers what the carrier answers
abbrev PassesBy : Result (Unit {0}) CarrierFault → Seen → Result (Unit {0}) WorldFault → WorldState Seen → Type 0
PassesBy (Ok done) c r w = Unit {0}
PassesBy (Err e) c r w = Passes e c world r w

passes : (f : CarrierFault) (a : Result (Unit {0}) CarrierFault) (c : Seen) (r : Result (Unit {0}) WorldFault)
    (w : WorldState Seen) → a ≡ Err f → OutEnds hail a c world r w → Passes f c world r w
passes f (Ok done) c r w is ends = absurd (cc)
passes f (Err e) c r w is ends = subst (λ (x : Result (Unit {0}) CarrierFault). PassesBy x c r w) is ends

-- after an event that is answered so, a list of events ends or continues
after : (f : WorldFault) (answer r : Result (Unit {0}) WorldFault) (mid new : WorldState Seen) (Rest : Type 0)
    → answer ≡ Err f → MatchBool (stops answer) ((r ≡ answer) × (new ≡ mid)) Rest
    → MatchBool (stops (Err f)) ((r ≡ Err f) × (new ≡ mid)) Rest
after f answer r mid new Rest is h =
    subst (λ (q : Result (Unit {0}) WorldFault). MatchBool (stops q) ((r ≡ q) × (new ≡ mid)) Rest) is h

-- the stranger is asked for nothing, whatever the carrier is by then, and nothing follows
goes_on : (c : Seen) (mid : WorldState Seen) (r : Result (Unit {0}) WorldFault) (new : WorldState Seen)
    → mid ≡ record world { carrier = c }
    → Runs closed_carrier mid (Offer third ∷ []) r new → r ≡ Ok tt
goes_on c mid r new is h =
    let runs : Runs closed_carrier (record world { carrier = c }) (Offer third ∷ []) r new =
    subst (λ (s : WorldState Seen). Runs closed_carrier s (Offer third ∷ []) r new) is h in
    let (answer, next, step, rest) = runs in
    (after NoProgram answer r next new (Runs closed_carrier next [] r new) step.0 rest).0

pub returns-clause-nothing : goal.returns-clause-nothing
returns-clause-nothing g r new (a, c, call, ends) = nothing a c r new call.0 ends

pub returns-clause-blocked : goal.returns-clause-blocked
returns-clause-blocked g r new (a, c, call, ends) =
    let p = passes fault.Blocked a c r new call.0 ends in (p.0, stays c new p.1)

pub returns-clause-memory : goal.returns-clause-memory
returns-clause-memory g r new (answer, mid, (a, c, call, ends), rest) =
    let p = passes fault.OutOfMemory a c answer mid call.0 ends in
    (after (Carrier fault.OutOfMemory) answer r mid new (Runs tired_carrier mid (Offer third ∷ []) r new) p.0 rest).0

pub returns-clause-refused : goal.returns-clause-refused
returns-clause-refused g r new (answer, mid, (a, c, call, ends), rest) =
    let p = passes fault.Blocked a c answer mid call.0 ends in
    goes_on c mid r new p.1
    (after (Carrier fault.Blocked) answer r mid new (Runs closed_carrier mid (Offer third ∷ []) r new) p.0 rest)
