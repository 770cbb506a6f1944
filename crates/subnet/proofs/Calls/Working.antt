-- A subnet as a carrier: what each call keeps, and what it shows.
use Rattle.subnet.proofs.Common.{Host, is_host, most_imps, IsRun, Flow, CarrierFault, Crossing, Inbound, Direction, NetEvent, HostMessage, guard, sound_run, has_outstanding, is_idle, is_own, way_of, way_has_room, from_host_refusal, ask_refusal, outstanding, has_room_to, own_host, give_up_refusal, host_down_refusal, host_up_refusal, Net, imp_at, port_of, has_data, has_flow, is_remembered, is_awaited, is_awaited_at, Ends, hosts_from, opening_subnet, IsAt}
use Rattle.std.proofs.Common.{◌≡◌, ℕ, ◌+◌, ◌≤◌, length, Bool, true, false, not, List, [], ◌∷◌, ◌++◌, Option, Some, None, Result, Ok, Err, is_some, is_none, refl, ap, sym, subst, ◌∙◌, if◌then◌else◌, ◌&&◌, ◌==◌}
use Rattle.std.specs.Prelude.{nat_lt, OnErr, ◌||◌}
use Rattle.interface.specs.Calls.{Seen, InOrder, halted, is_memory, is_halt, step_crossings, crossing_of, ShowsRefusal, ShowsCrossings, ShowsOffer, ShowsTake, ShowsStep, ShowsRound}
use Rattle.interface.specs.declared.carrier.CarrierFault.TheVariants as fault
use Rattle.interface.specs.declared.crossing.Crossing.TheVariants as crossing
use Rattle.interface.specs.declared.event.NetEvent.TheVariants as event
use Rattle.imp_node.specs.State.{State, host_at, is_there, is_up, port_at}
use Rattle.imp_node.specs.Taking.{host_refusal, taking_has_room}
use Rattle.imp_node.specs.Lines.{end_down_refusal, end_up_refusal}
use Rattle.subnet.specs.Calls.{Kept, running, refusal_of, HasHalted, Fails, take_grows, step_grows, round_grows}
use Rattle.subnet.specs.Events.{at_up, first_of, accepted, is_imp, has_end, give_up_alive, outstanding_at, offer_refusal, offer_out, take_refusal, taken_by_host, crossings_of, take_in, frame_refusal, imp_refusal, at_end_refusal, at_host_refusal, starting_refusal, abandoning_refusal, asking_refusal, giving_up_refusal, forgetting_refusal, step_refusal, stepped, quiet_round}
use Rattle.subnet.specs.Routed.{IsHostMessage}
use Rattle.subnet.specs.Seen.{IsListed, SameNetwork}
use Rattle.subnet.specs.Inside.Calling as ends
use Rattle.subnet.specs.Inside.Calling.{IsLive, AreLive, SameLog, runs_out}
use Rattle.subnet.specs.Working.{IsWhole, IsWorking, seen_of, SubnetOffer, SubnetTake, SubnetStep, SubnetRound}
use Rattle.subnet.proofs.Moves.EventSteps.{step_sound}
use Rattle.subnet.proofs.Moves.Offers.{offer_sound}
use Rattle.subnet.proofs.Moves.Openings.{opening_sound}
use Rattle.subnet.proofs.Calls.Rounds.{quiet_round_sound}
use Rattle.subnet.proofs.Packets.Routed.{opening_routed, offer_routed, take_routed, step_routed, round_routed, can_go}
use Rattle.subnet.proofs.Calls.Showing.{offer_log, take_log, step_log, round_log, take_for, offer_same, take_same, step_same, round_same}
use Rattle.subnet.proofs.Calls.SiteHosts.{hosts_fit, hosts_ordered}
use Rattle.subnet.proofs.Moves.Takes.{take_sound}

-- ---- no refusal of a subnet is Stopped

abbrev Plain : Option CarrierFault → Type 0
Plain None = Unit {0}
Plain (Some e) = is_halt e ≡ false

first_plain : (b : Bool) (e : CarrierFault) (rest : Option CarrierFault) → is_halt e ≡ false → Plain rest → Plain (if b then Some e else rest)
first_plain true e rest plain others = plain
first_plain false e rest plain others = others

last_plain : (b : Bool) (e : CarrierFault) → is_halt e ≡ false → Plain (if b then None else Some e)
last_plain true e plain = tt
last_plain false e plain = plain

end_plain : (b : Bool) (others : Option CarrierFault) → Plain others → Plain (if b then others else Some fault.NoSuch)
end_plain true others plain = plain
end_plain false others plain = refl

up_plain : (o : Option State) (refusal : State → Option CarrierFault) → ((s : State) → Plain (refusal s)) → Plain (at_up o refusal)
up_plain None refusal plain = refl
up_plain (Some s) refusal plain = plain s

from_host_plain : (m : HostMessage) (s : State) → Plain (from_host_refusal s m)
from_host_plain m s =
    first_plain (not (is_own s m.flow.source)) fault.NoSuch _ refl
    (first_plain (not (is_up s _)) fault.IsDown _ refl
    (first_plain (not (is_idle s m.flow)) fault.Blocked _ refl
    (first_plain (not (way_has_room (way_of s m.flow) s m)) fault.NoRoom None refl tt)))

host_plain : (s : State) (h : ℕ) (rest : Option CarrierFault) → Plain rest → Plain (host_refusal s h rest)
host_plain s h rest plain = first_plain (not (is_there s h)) fault.NoSuch _ refl (first_plain (not (is_up s h)) fault.IsDown rest refl plain)

offer_plain : (m : HostMessage) (n : Net) → Plain (offer_refusal n m)
offer_plain m n =
    first_plain (not (is_host n.hosts m.flow.source)) fault.NoSuch _ refl
    (first_plain _ fault.StillAlive _ refl
    (up_plain (imp_at n.imps m.flow.source.imp) _ (from_host_plain m)))

take_plain : (h : Host) (n : Net) → Plain (take_refusal n h)
take_plain h n =
    first_plain (not (is_host n.hosts h)) fault.NoSuch _ refl
    (up_plain (imp_at n.imps h.imp) _ (λ s. host_plain s h.host _ (last_plain (taking_has_room (host_at s h.host).answers (host_at s h.host).queue s) fault.NoRoom refl)))

imp_plain : (n : Net) (i : ℕ) → Plain (imp_refusal n i)
imp_plain n i = first_plain (not (is_imp n i)) fault.NoSuch _ refl (up_plain (imp_at n.imps i) accepted (λ s. tt))

at_host_plain : (n : Net) (h : Host) (refusal : State → ℕ → Option CarrierFault) → ((s : State) → Plain (refusal s h.host)) → Plain (at_host_refusal n h refusal)
at_host_plain n h refusal plain = first_plain (not (is_host n.hosts h)) fault.NoSuch _ refl (up_plain (imp_at n.imps h.imp) _ plain)

abandoning_plain : (o : Option State) (f : Flow) → Plain (abandoning_refusal o f)
abandoning_plain None f = refl
abandoning_plain (Some s) f = last_plain _ _ refl

end_down_plain : (s : State) (k : ℕ) → Plain (end_down_refusal s k)
end_down_plain s k = end_plain (nat_lt k (length s.ports)) (if (port_at s.ports k).up then None else Some fault.IsDown) (last_plain (port_at s.ports k).up fault.IsDown refl)

end_up_plain : (s : State) (k : ℕ) → Plain (end_up_refusal s k)
end_up_plain s k = end_plain (nat_lt k (length s.ports)) (if (port_at s.ports k).up then Some fault.IsUp else None) (first_plain (port_at s.ports k).up fault.IsUp None refl tt)

at_end_plain : (n : Net) (i l : ℕ) (refusal : State → ℕ → Option CarrierFault) → ((s : State) (k : ℕ) → Plain (refusal s k)) → Plain (at_end_refusal n i l refusal)
at_end_plain n i l refusal plain =
    first_plain (not (has_end n i l)) fault.NoSuch (at_up (imp_at n.imps i) (λ s. refusal s (port_of n.lines i l))) refl
    (up_plain (imp_at n.imps i) _ (λ s. plain s (port_of n.lines i l)))

host_up_plain : (h : ℕ) (s : State) → Plain (host_up_refusal s h)
host_up_plain h s =
    let settled : Bool = has_outstanding (own_host s h) s.sources in
    first_plain (not (is_there s h)) fault.NoSuch (if is_up s h then Some fault.IsUp else (if settled then Some fault.Unsettled else None)) refl
    (first_plain (is_up s h) fault.IsUp (if settled then Some fault.Unsettled else None) refl (first_plain settled fault.Unsettled None refl tt))

starting_plain : (n : Net) (i : ℕ) → Plain (starting_refusal n i)
starting_plain n i =
    let last : Option CarrierFault = if is_some (imp_at n.imps i) then Some fault.IsUp else None in
    let fourth : Option CarrierFault = first_of (is_awaited n i) fault.StillAlive last in
    let third : Option CarrierFault = first_of (is_remembered n i) fault.StillAlive fourth in
    let second : Option CarrierFault = first_of (has_flow n i) fault.StillAlive third in
    first_plain (not (is_imp n i)) fault.NoSuch second refl
    (first_plain (has_flow n i) fault.StillAlive third refl
    (first_plain (is_remembered n i) fault.StillAlive fourth refl
    (first_plain (is_awaited n i) fault.StillAlive last refl (first_plain (is_some (imp_at n.imps i)) fault.IsUp None refl tt))))

give_up_plain : (f : Flow) (s : State) → Plain (give_up_refusal s f)
give_up_plain f s =
    let last : Option CarrierFault = if is_none (outstanding s f) then Some fault.NotOutstanding else None in
    first_plain _ _ last refl (first_plain _ _ None refl tt)

ask_plain : (f : Flow) (s : State) → Plain (ask_refusal s f)
ask_plain f s =
    first_plain (not (is_own s f.source)) fault.NoSuch _ refl
    (first_plain (is_none (outstanding s f)) fault.NotOutstanding _ refl
    (first_plain (not (has_room_to s f.destination.imp)) fault.NoRoom None refl tt))

asking_plain : (n : Net) (f : Flow) → Plain (asking_refusal n f)
asking_plain n f =
    first_plain (not (is_host n.hosts f.source)) fault.NoSuch _ refl (up_plain (imp_at n.imps f.source.imp) _ (ask_plain f))

giving_up_plain : (n : Net) (f : Flow) → Plain (giving_up_refusal n f)
giving_up_plain n f =
    let last : Option CarrierFault = at_up (imp_at n.imps f.source.imp) (λ s. give_up_refusal s f) in
    let alive : Bool = give_up_alive n f (outstanding_at (imp_at n.imps f.source.imp) f) in
    first_plain _ _ _ refl
    (first_plain alive _ last refl (up_plain _ _ (give_up_plain f)))

forgetting_plain : (n : Net) (at from : ℕ) → Plain (forgetting_refusal n at from)
forgetting_plain n at from =
    let last : Option CarrierFault = at_up (imp_at n.imps at) accepted in
    let alive : Bool = has_data n from at || is_awaited_at (imp_at n.imps from) at in
    let third : Option CarrierFault = first_of alive fault.StillAlive last in
    first_plain (not (is_imp n at && is_imp n from)) fault.NoSuch (first_of _ _ third) refl
    (first_plain (at == from) fault.NoSuch third refl
    (first_plain alive fault.StillAlive last refl (up_plain _ accepted (λ s. tt))))

frame_plain : (n : Net) (l : ℕ) (d : Direction) (k : ℕ) → Plain (frame_refusal n l d k)
frame_plain n l d k = last_plain _ _ refl

step_plain : (e : NetEvent) (n : Net) → Plain (step_refusal n e)
step_plain (event.Deliver l d k) n = frame_plain n l d k
step_plain (event.Drop l d k) n = frame_plain n l d k
step_plain (event.Garble l d k) n = frame_plain n l d k
step_plain (event.Resend i) n = imp_plain n i
step_plain (event.Route i) n = imp_plain n i
step_plain (event.Claim i) n = imp_plain n i
step_plain (event.EndDown i l) n = at_end_plain n i l end_down_refusal end_down_plain
step_plain (event.EndUp i l) n = at_end_plain n i l end_up_refusal end_up_plain
step_plain (event.ImpDown i) n = imp_plain n i
step_plain (event.ImpUp i) n = starting_plain n i
step_plain (event.HostDown h) n = at_host_plain n h host_down_refusal (λ s. host_plain s h.host None tt)
step_plain (event.HostUp h) n = at_host_plain n h host_up_refusal (host_up_plain h.host)
step_plain (event.GiveUp f) n = giving_up_plain n f
step_plain (event.Forget at from) n = forgetting_plain n at from
step_plain (event.Abandon f) n = abandoning_plain _ f
step_plain (event.Ask f) n = asking_plain n f

-- ---- calls that fail

memory_goes_on : (e : CarrierFault) → is_memory e ≡ true → is_halt e ≡ false
memory_goes_on fault.OutOfMemory memory = refl
memory_goes_on fault.Stopped memory = absurd (cc)
memory_goes_on fault.NoSuch memory = refl
memory_goes_on fault.StillAlive memory = refl
memory_goes_on fault.IsDown memory = refl
memory_goes_on fault.IsUp memory = refl
memory_goes_on fault.Unsettled memory = refl
memory_goes_on fault.NotOutstanding memory = refl
memory_goes_on fault.Blocked memory = refl
memory_goes_on fault.NoRoom memory = refl

same_seen : (gs hs : List Host) (ls ks : List Crossing) (s t : Bool) → gs ≡ hs → ls ≡ ks → s ≡ t
    → (let a : Seen = record { hosts = gs; log = ls; stopped = s } in let b : Seen = record { hosts = hs; log = ks; stopped = t } in a ≡ b)
same_seen gs hs ls ks s t e f g = rw (e, f, g) refl

refused_by : (stopped : Bool) (o : Option CarrierFault) (e : CarrierFault) → Plain o → first_of stopped fault.Stopped o ≡ Some e → stopped ≡ is_halt e
refused_by true o e plain is = let same : fault.Stopped ≡ e = cc in ap is_halt same
refused_by false None e plain is = absurd (cc)
refused_by false (Some f) e plain is = let same : f ≡ e = cc in sym (ap is_halt (sym same) ∙ plain)

fails_shown : (refusal : Net → Option CarrierFault) (grows : Bool) (e : CarrierFault) (old new : Kept) → Plain (refusal old.net) → (b : Bool) → is_memory e ≡ b → Fails (refusal_of old refusal) grows b e old new
    → ShowsRefusal (seen_of old) e (seen_of new)
fails_shown refusal grows e old new plain true memory fails =
    let goes : (old.stopped ≡ false) × (refusal old.net ≡ None) = guard _ _ _ fails.0 in
    let h : HasHalted old new = fails.2 in
    record {
      when_stopped = goes.0 ∙ sym (memory_goes_on e memory);
      shown = same_seen _ _ _ _ _ true h.hosts h.log h.stopped ∙ ap (λ (b : Bool). if b then halted (seen_of old) else seen_of old) (sym memory);
    }
fails_shown refusal grows e old new plain false memory fails = record {
  when_stopped = refused_by _ _ e plain fails.0;
  shown = ap seen_of fails.1 ∙ ap (λ (b : Bool). if b then halted (seen_of old) else seen_of old) (sym memory);
}

fails_working : (refusal : Option CarrierFault) (grows : Bool) (e : CarrierFault) (old new : Kept) → (b : Bool) → Fails refusal grows b e old new → IsWorking old → IsWorking new
fails_working refusal grows e old new true fails is =
    let h : HasHalted old new = fails.2 in
    record {
      run = subst (λ (hs : List Host). IsRun hs new.net.log) (sym h.hosts) (subst (λ (log : List Crossing). IsRun old.net.hosts log) (sym h.log) is.run);
      ordered = subst InOrder (sym h.hosts) is.ordered;
      whole = λ goes. (let no : true ≡ false = sym h.stopped ∙ goes in absurd (cc));
    }
fails_working refusal grows e old new false fails is = subst IsWorking (sym fails.1) is

-- ---- calls that succeed

goes_on : (old : Kept) (refusal : Net → Option CarrierFault) → refusal_of old refusal ≡ None → (old.stopped ≡ false) × (refusal old.net ≡ None)
goes_on old refusal is = guard _ _ _ is

whole_working : (old : Kept) (n : Net) → SameNetwork old.net n → IsWhole n → IsWorking old → IsWorking (running n)
whole_working old n same whole is = record {
  run = sound_run _ n.log _ _ whole.sound.flows;
  ordered = subst InOrder (sym same.hosts) is.ordered;
  whole = λ goes. whole;
}

still_listed : (n m : Net) → SameNetwork n m → IsListed n → IsListed m
still_listed n m same listed = same.hosts ∙ listed ∙ ap (hosts_from 0) (sym same.sites)

crossed : (old new : Kept) (n : Net) (entries : List Crossing) → old.stopped ≡ false → new ≡ running n → SameNetwork old.net n → n.log ≡ entries ++ old.net.log → ShowsCrossings (seen_of old) entries (seen_of new)
crossed old new n entries goes is same log = record {
  running = goes;
  shown = ap seen_of is ∙ same_seen _ _ n.log _ false _ same.hosts log (sym goes);
}

-- ---- the opening

pub opening_working : (sites : List (Option ℕ)) (ends : List Ends) → length sites ≤ most_imps + 1 → IsWorking (running (opening_subnet (hosts_from 0 sites) sites ends))
opening_working sites ends few = record {
  run = tt;
  ordered = hosts_ordered sites;
  whole = λ goes. record { listed = refl; sound = opening_sound _ sites ends (hosts_fit sites); routed = opening_routed _ sites ends few };
}

pub opened_working : (hosts : List Host) (sites : List (Option ℕ)) (ends : List Ends) (n : Net) → n ≡ opening_subnet hosts sites ends → hosts ≡ hosts_from 0 sites → length sites ≤ most_imps + 1
    → (let new : Kept = record { net = n; stopped = false } in IsWorking new)
opened_working hosts sites ends n is listed few =
    let at : List Host → Net = λ hs. opening_subnet hs sites ends in
    subst (λ (m : Net). IsWorking (running m)) (sym is) (subst (λ (hs : List Host). IsWorking (running (at hs))) (sym listed) (opening_working sites ends few))

-- ---- the calls

pub offer_working : (old : Kept) (m : HostMessage) (r : Result (Unit {0}) CarrierFault) (new : Kept) → IsHostMessage m → SubnetOffer old m r new → IsWorking old → IsWorking new
offer_working old m (Ok done) new message went is =
    let goes : (old.stopped ≡ false) × (offer_refusal old.net m ≡ None) = goes_on old (λ n. offer_refusal n m) went.0 in
    let whole : IsWhole old.net = is.whole goes.0 in
    subst IsWorking (sym went.1) (whole_working old _ (offer_same _ m) (record {
      listed = still_listed _ _ (offer_same _ m) whole.listed;
      sound = offer_sound _ m (can_go _ m whole.routed whole.sound message) goes.1 whole.sound;
      routed = offer_routed _ m whole.routed;
    }) is)
offer_working old m (Err e) new message went is = fails_working _ true e old new _ went is

pub offer_shown : (old : Kept) (m : HostMessage) (r : Result (Unit {0}) CarrierFault) (new : Kept) → SubnetOffer old m r new → ShowsOffer (seen_of old) m r (seen_of new)
offer_shown old m (Ok done) new went = crossed old new _ _ (goes_on old (λ n. offer_refusal n m) went.0).0 went.1 (offer_same _ m) (offer_log _ m)
offer_shown old m (Err e) new went = fails_shown (λ n. offer_refusal n m) true e old new (offer_plain m old.net) _ refl went

pub take_working : (old : Kept) (h : Host) (r : Result (Option Inbound) CarrierFault) (new : Kept) → SubnetTake old h r new → IsWorking old → IsWorking new
take_working old h (Ok given) new went is =
    let goes : (old.stopped ≡ false) × (take_refusal old.net h ≡ None) = goes_on old (λ n. take_refusal n h) went.0 in
    let whole : IsWhole old.net = is.whole goes.0 in
    subst IsWorking (sym went.1.1) (whole_working old _ (take_same _ h) (record {
      listed = still_listed _ _ (take_same _ h) whole.listed;
      sound = take_sound _ h goes.1 whole.sound;
      routed = take_routed _ h whole.routed;
    }) is)
take_working old h (Err e) new went is = fails_working _ _ e old new _ went is

pub take_shown : (old : Kept) (h : Host) (r : Result (Option Inbound) CarrierFault) (new : Kept) → IsWorking old → SubnetTake old h r new → ShowsTake (seen_of old) h r (seen_of new)
take_shown old h (Ok None) new is went =
    let log : (take_in old.net h).log ≡ old.net.log = take_log old.net h ∙ ap (λ (o : Option Inbound). crossings_of o ++ old.net.log) (sym went.1.0) in
    crossed old new _ [] (goes_on old (λ n. take_refusal n h) went.0).0 went.1.1 (take_same _ h) log
take_shown old h (Ok (Some i)) new is went =
    let goes : (old.stopped ≡ false) × (take_refusal old.net h ≡ None) = goes_on old (λ n. take_refusal n h) went.0 in
    let log : (take_in old.net h).log ≡ crossing_of i ∷ old.net.log = take_log old.net h ∙ ap (λ (o : Option Inbound). crossings_of o ++ old.net.log) (sym went.1.0) in
    (crossed old new _ _ goes.0 went.1.1 (take_same _ h) log, take_for _ h i (is.whole goes.0).sound (sym went.1.0))
take_shown old h (Err e) new is went = fails_shown (λ n. take_refusal n h) (take_grows old.net h) e old new (take_plain h old.net) _ refl went

pub step_working : (old : Kept) (e : NetEvent) (r : Result (Unit {0}) CarrierFault) (new : Kept) → SubnetStep old e r new → IsWorking old → IsWorking new
step_working old e (Ok done) new went is =
    let goes : (old.stopped ≡ false) × (step_refusal old.net e ≡ None) = goes_on old (λ n. step_refusal n e) went.0 in
    let whole : IsWhole old.net = is.whole goes.0 in
    subst IsWorking (sym went.1) (whole_working old _ (step_same _ e) (record {
      listed = still_listed _ _ (step_same _ e) whole.listed;
      sound = step_sound _ e goes.1 whole.sound;
      routed = step_routed _ e whole.routed;
    }) is)
step_working old e (Err f) new went is = fails_working _ _ f old new _ went is

-- what an event shows doesn't ask whether the carrier has stopped
same_crossings : (hosts : List Host) (log : List Crossing) (s : Bool) (e : NetEvent)
    → (let a : Seen = record { hosts = hosts; log = log; stopped = s } in let b : Seen = record { hosts = hosts; log = log; stopped = false } in step_crossings b e ≡ step_crossings a e)
same_crossings hosts log s (event.Deliver l d k) = refl
same_crossings hosts log s e = refl

pub step_shown : (old : Kept) (e : NetEvent) (r : Result (Unit {0}) CarrierFault) (new : Kept) → IsWorking old → SubnetStep old e r new → ShowsStep (seen_of old) e r (seen_of new)
step_shown old e (Ok done) new is went =
    let goes : (old.stopped ≡ false) × (step_refusal old.net e ≡ None) = goes_on old (λ n. step_refusal n e) went.0 in
    let whole : IsWhole old.net = is.whole goes.0 in
    let log : (stepped old.net e).log ≡ step_crossings (seen_of old) e ++ old.net.log =
    step_log _ e goes.1 whole.listed whole.sound ∙ ap (λ (cs : List Crossing). cs ++ old.net.log) (same_crossings _ old.net.log old.stopped e) in
    crossed old new _ _ goes.0 went.1 (step_same _ e) log
step_shown old e (Err f) new is went = fails_shown (λ n. step_refusal n e) (step_grows old.net e) f old new (step_plain e old.net) _ refl went

pub round_working : (old : Kept) (r : Result (Unit {0}) CarrierFault) (new : Kept) → SubnetRound old r new → IsWorking old → IsWorking new
round_working old (Ok done) new went is =
    let goes : (old.stopped ≡ false) × (let none : Option CarrierFault = None in none ≡ None) = goes_on old (λ n. None) went.0 in
    let whole : IsWhole old.net = is.whole goes.0 in
    subst IsWorking (sym went.1) (whole_working old _ (round_same _) (record {
      listed = still_listed old.net _ (round_same _) whole.listed;
      sound = quiet_round_sound _ whole.sound;
      routed = round_routed _ whole.routed;
    }) is)
round_working old (Err e) new went is = fails_working _ _ e old new _ went is

pub round_shown : (old : Kept) (r : Result (Unit {0}) CarrierFault) (new : Kept) → SubnetRound old r new → ShowsRound (seen_of old) r (seen_of new)
round_shown old (Ok done) new went = crossed old new _ [] (goes_on old (λ n. None) went.0).0 went.1 (round_same _) (round_log old.net)
round_shown old (Err e) new went = fails_shown (λ n. None) (round_grows old.net) e old new tt _ refl went

-- ---- calls of the parts

failed : (refusal : Net → Option CarrierFault) (grows : Bool) (e : CarrierFault) (old : Kept) (n : Net) (b : Bool) → is_memory e ≡ b → old.stopped ≡ false → ends.Fails (refusal old.net) grows b e old.net n → SameLog old.net n
    → Fails (refusal_of old refusal) grows b e old (record { net = n; stopped = is_memory e })
failed refusal grows e old n true memory goes fails same =
    (ap (λ (s : Bool). first_of s fault.Stopped (refusal old.net)) goes ∙ fails.0, fails.1, record { hosts = same.hosts; log = same.log; stopped = memory })
failed refusal grows e old n false memory goes fails same =
    let at : Net → Bool → Kept = λ m s. record { net = m; stopped = s } in
    (ap (λ (s : Bool). first_of s fault.Stopped (refusal old.net)) goes ∙ fails.0, ap (λ (m : Net). at m (is_memory e)) fails.1 ∙ ap (at _) (memory ∙ sym goes))

went_on : (refusal : Net → Option CarrierFault) (old : Kept) → old.stopped ≡ false → refusal old.net ≡ None → refusal_of old refusal ≡ None
went_on refusal old goes none = ap (λ (s : Bool). first_of s fault.Stopped (refusal old.net)) goes ∙ none

-- the subnet that stops where its parts were short of memory
abbrev pub kept_by : {T : Type 0} → Net → Result T CarrierFault → Kept
kept_by n r = record { net = n; stopped = runs_out r }

offer_done : (old : Kept) (m : HostMessage) (n : Net) (r : Result (Unit {0}) CarrierFault) → old.stopped ≡ false → ends.CallEnds (offer_refusal old.net m) true (λ done. n ≡ offer_out old.net m) old.net n r → OnErr r (SameLog old.net n)
    → SubnetOffer old m r (kept_by n r)
offer_done old m n (Ok done) goes ends same = (went_on (λ k. offer_refusal k m) old goes ends.0, ap running ends.1)
offer_done old m n (Err e) goes ends same = failed (λ k. offer_refusal k m) true e old n _ refl goes ends same

take_done : (old : Kept) (h : Host) (n : Net) (r : Result (Option Inbound) CarrierFault) → old.stopped ≡ false
    → ends.CallEnds (take_refusal old.net h) (take_grows old.net h) (λ given. (given ≡ taken_by_host old.net h) × (n ≡ take_in old.net h)) old.net n r → OnErr r (SameLog old.net n) → SubnetTake old h r (kept_by n r)
take_done old h n (Ok given) goes ends same = (went_on (λ k. take_refusal k h) old goes ends.0, (ends.1.0, ap running ends.1.1))
take_done old h n (Err e) goes ends same = failed (λ k. take_refusal k h) (take_grows old.net h) e old n _ refl goes ends same

step_done : (old : Kept) (e : NetEvent) (n : Net) (r : Result (Unit {0}) CarrierFault) → old.stopped ≡ false → ends.Steps e old.net n r → OnErr r (SameLog old.net n) → SubnetStep old e r (kept_by n r)
step_done old e n (Ok done) goes ends same = (went_on (λ k. step_refusal k e) old goes ends.0, ap running ends.1)
step_done old e n (Err f) goes ends same = failed (λ k. step_refusal k e) (step_grows old.net e) f old n _ refl goes ends same

-- the IMPs of a subnet that continues were not short of memory
pub live : (k : Kept) → k.stopped ≡ false → IsWorking k → AreLive k.net.imps
live k goes is i = by (imp_at k.net.imps i) ((is.whole goes).sound.imps i) where
  by : (o : Option State) → IsAt i o → IsLive i o
  by None at = tt
  by (Some s) at = (at.own, at.live)

-- ---- what the fields of the subnet keep

pub offer_invariant : (old : Kept) (m : HostMessage) (n : Net) (r : Result (Unit {0}) CarrierFault) (s : Bool) → s ≡ runs_out r → old.stopped ≡ false → IsHostMessage m
    → ends.CallEnds (offer_refusal old.net m) true (λ done. n ≡ offer_out old.net m) old.net n r → OnErr r (SameLog old.net n) → IsWorking old → (let new : Kept = record { net = n; stopped = s } in IsWorking new)
offer_invariant old m n r s stops goes message ends same is =
    let at : Bool → Kept = λ b. record { net = n; stopped = b } in
    subst (λ (b : Bool). IsWorking (at b)) (sym stops) (offer_working old m r _ message (offer_done old m n r goes ends same) is)

pub take_invariant : (old : Kept) (h : Host) (n : Net) (r : Result (Option Inbound) CarrierFault) (s : Bool) → s ≡ runs_out r → old.stopped ≡ false
    → ends.CallEnds (take_refusal old.net h) (take_grows old.net h) (λ given. (given ≡ taken_by_host old.net h) × (n ≡ take_in old.net h)) old.net n r → OnErr r (SameLog old.net n) → IsWorking old
    → (let new : Kept = record { net = n; stopped = s } in IsWorking new)
take_invariant old h n r s stops goes ends same is =
    let at : Bool → Kept = λ b. record { net = n; stopped = b } in
    subst (λ (b : Bool). IsWorking (at b)) (sym stops) (take_working old h r _ (take_done old h n r goes ends same) is)

pub step_invariant : (old : Kept) (e : NetEvent) (n : Net) (r : Result (Unit {0}) CarrierFault) (s : Bool) → s ≡ runs_out r → old.stopped ≡ false → ends.Steps e old.net n r → OnErr r (SameLog old.net n) → IsWorking old
    → (let new : Kept = record { net = n; stopped = s } in IsWorking new)
step_invariant old e n r s stops goes ends same is =
    let at : Bool → Kept = λ b. record { net = n; stopped = b } in
    subst (λ (b : Bool). IsWorking (at b)) (sym stops) (step_working old e r _ (step_done old e n r goes ends same) is)

-- a quiet round fails only by running out of memory
pub round_done : (old : Kept) (n : Net) (failed : Bool) → old.stopped ≡ false → (failed ≡ false → n ≡ quiet_round old.net) → (failed ≡ true → round_grows old.net ≡ true) → SameLog old.net n
    → (let new : Kept = record { net = n; stopped = failed } in SubnetRound old (if failed then Err fault.OutOfMemory else Ok tt) new)
round_done old n true goes round grows same = (went_on (λ k. None) old goes refl, grows refl, record { hosts = same.hosts; log = same.log; stopped = refl })
round_done old n false goes round grows same = (went_on (λ k. None) old goes refl, ap running (round refl))

pub round_invariant : (old : Kept) (n : Net) (failed : Bool) → old.stopped ≡ false → (failed ≡ false → n ≡ quiet_round old.net) → (failed ≡ true → round_grows old.net ≡ true) → SameLog old.net n → IsWorking old → (let new : Kept = record { net = n; stopped = failed } in IsWorking new)
round_invariant old n failed goes round grows same is =
    let new : Kept = record { net = n; stopped = failed } in
    round_working old _ new (round_done old n failed goes round grows same) is

-- ---- calls that would change nothing

same_kept : (old : Kept) (n : Net) → old.stopped ≡ false → n ≡ old.net → old ≡ running n
same_kept old n goes same =
    let at : Bool → Kept = λ b. record { net = old.net; stopped = b } in
    ap at goes ∙ ap running (sym same)

-- a taking that gives nothing and changes nothing
pub nothing_given : (old : Kept) (h : Host) → old.stopped ≡ false → take_refusal old.net h ≡ None → taken_by_host old.net h ≡ None → take_in old.net h ≡ old.net → SubnetTake old h (Ok None) old
nothing_given old h goes accepted nothing same = (went_on (λ k. take_refusal k h) old goes accepted, (sym nothing, same_kept old _ goes same))

-- a quiet round of a subnet that rests
pub rested_round : (old : Kept) → old.stopped ≡ false → quiet_round old.net ≡ old.net → SubnetRound old (Ok tt) old
rested_round old goes rests = (went_on (λ k. None) old goes refl, same_kept old _ goes rests)
