-- An IMP that sends its distances, or sends again, and does nothing else: its frames are put on lines one by one.
use Rattle.subnet.proofs.Common.{nat_tests, vector_of, Outgoing, Port, on_port, told_by, told_from, route, State, ImpTurn, port_at, down_port, Net, Wire, imp_at, put_one, put_all, with_turn, at_imp, grows_at, call_turn, call_grows, AreLive}
use Rattle.std.specs.Prelude.{if◌then◌else◌}
use Rattle.std.proofs.Common.{◌≡◌, ℕ, ◌+◌, ◌<◌, ◌≤◌, zero, suc, Bool, true, false, List, [], ◌∷◌, ◌++◌, length, drop, set, nat_lt, Option, Some, None, Result, Ok, Err, OnOk, OnErr, refl, ap, sym, subst, ◌∙◌, arith}
use Rattle.std.proofs.lemmas.List.{drop_more, set-get_or, length-append}
use Rattle.imp_channel.specs.Line.{routes_frame}
use Rattle.imp_node.proofs.lemmas.{pump_with}
use Rattle.subnet.specs.declared.imp_call.ImpCall.TheVariants as call
use Rattle.subnet.specs.Inside.Telling.{OnlyPuts, OnlyTells, frames_by_up, tells, told}
use Rattle.imp_node.specs.Turns.{sends}

-- ---- one port

-- the frame with these distances at a port, if it is live
abbrev told_if : List ℕ → ℕ → Port → Bool → List Outgoing
told_if distances k port live = if live then on_port k (routes_frame port.line distances) ∷ [] else []

pub one_told : (distances : List ℕ) (k i : ℕ) (port : Port) (lines : List Wire) → port.up ≡ true
    → put_one lines i (on_port k (routes_frame port.line distances)) ≡ put_all lines i (told_by distances k port)
one_told distances k i port lines up = ap (λ (live : Bool). put_all lines i (told_if distances k port live)) (sym up)

pub one_some : (distances : List ℕ) (k : ℕ) (port : Port) → port.up ≡ true → 0 < length (told_by distances k port)
one_some distances k port up = omega (arith, ap (λ (live : Bool). length (told_if distances k port live)) up)

pub none_told : (distances : List ℕ) (k i : ℕ) (port : Port) (lines : List Wire) → port.up ≡ false
    → lines ≡ put_all lines i (told_by distances k port)
none_told distances k i port lines down =
    ap (λ (live : Bool). put_all lines i (told_if distances k port live)) (sym down)

-- ---- one port after the other

pub put_both : (outs others : List Outgoing) (lines : List Wire) (i : ℕ) → put_all lines i (outs ++ others) ≡ put_all (put_all lines i outs) i others
put_both [] others lines i = refl
put_both (out ∷ outs) others lines i = put_both outs others (put_one lines i out) i

pub told_next : (s : State) (k i : ℕ) (lines : List Wire) → k < length s.ports
    → put_all lines i (told_from (vector_of s.routes) k (drop k s.ports)) ≡ put_all (put_all lines i (told_by (vector_of s.routes) k (port_at s.ports k))) i (told_from (vector_of s.routes) (k + 1) (drop (k + 1) s.ports))
told_next s k i lines within =
    ap (λ (ports : List Port). put_all lines i (told_from (vector_of s.routes) k ports)) (drop_more _ k down_port within)
    ∙ put_both (told_by (vector_of s.routes) k (port_at s.ports k)) (told_from (vector_of s.routes) (k + 1) (drop (k + 1) s.ports)) lines i

-- the frames of all ports from this one on, where these are the frames of one
abbrev pub all_from : (ℕ → Port → List Outgoing) → ℕ → List Port → List Outgoing
all_from each k [] = []
all_from each k (port ∷ ports) = each k port ++ all_from each (k + 1) ports

pub some_from : (each : ℕ → Port → List Outgoing) (ports : List Port) (j k : ℕ) → k < length ports → length (each (j + k) (port_at ports k)) ≤ length (all_from each j ports)
some_from each [] j k within = absurd (omega (arith, within))
some_from each (port ∷ ports) j zero within =
    omega (arith, length-append (each j port) (all_from each (j + 1) ports), ap (λ (i : ℕ). length (each i port)) (zero_more j))
  where
    zero_more : (j : ℕ) → j + 0 ≡ j
    zero_more j = omega arith
some_from each (port ∷ ports) j (suc k) within =
    let later : length (each (j + 1 + k) (port_at ports k)) ≤ length (all_from each (j + 1) ports) = some_from each ports (j + 1) k (omega (arith, within)) in
    let same : length (each (j + suc k) (port_at ports k)) ≡ length (each (j + 1 + k) (port_at ports k)) = ap (λ (i : ℕ). length (each i (port_at ports k))) (omega arith) in
    omega (arith, length-append (each j port) (all_from each (j + 1) ports), later, same)

pub some_of_all : (each : ℕ → Port → List Outgoing) (ports : List Port) (all : List Outgoing) (k : ℕ) → all ≡ all_from each 0 ports → k < length ports → 0 < length (each k (port_at ports k)) → 0 < length all
some_of_all each ports all k are within some =
    let least : length (each (0 + k) (port_at ports k)) ≤ length (all_from each 0 ports) = some_from each ports 0 k within in
    let same : length (each k (port_at ports k)) ≡ length (each (0 + k) (port_at ports k)) = ap (λ (i : ℕ). length (each i (port_at ports k))) (omega arith) in
    omega (arith, least, some, same, ap (λ (outs : List Outgoing). length outs) are)

pub all_told : (distances : List ℕ) (k : ℕ) (ports : List Port) → told_from distances k ports ≡ all_from (told_by distances) k ports
all_told distances k [] = refl
all_told distances k (port ∷ ports) = ap (λ (outs : List Outgoing). told_by distances k port ++ outs) (all_told distances (k + 1) ports)

pub some_told : (s : State) (k : ℕ) → k < length s.ports → 0 < length (told_by (vector_of s.routes) k (port_at s.ports k)) → 0 < length (told_from (vector_of s.routes) 0 s.ports)
some_told s k within some = some_of_all (told_by (vector_of s.routes)) _ _ k (all_told (vector_of s.routes) 0 s.ports) within some

-- ---- the subnet

-- where no packet waits, it does nothing else
pub tells_alone : (s : State) → length s.store ≡ 0
    → route s ≡ record { state = s; frames = told_from (vector_of s.routes) 0 s.ports }
tells_alone s none = pump_with _ s none

turned : (turn : State → ImpTurn) (frames : State → List Outgoing) (n : Net) (i : ℕ) (o : Option State) → imp_at n.imps i ≡ o → OnlyPuts turn frames o → record n { lines = put_all n.lines i (frames_by_up frames o) } ≡ at_imp o i turn n
turned turn frames n i None at only = refl
turned turn frames n i (Some s) at only =
    ap (λ (imps : List (Option State)). record n { imps = imps; lines = put_all n.lines i (frames s) }) (sym (ap (set n.imps i) (sym at) ∙ set-get_or n.imps i None))
    ∙ ap (λ (t : ImpTurn). with_turn i t n) (sym only)

pub put_alone : {T E : Type 0} (turn : State → ImpTurn) (frames : State → List Outgoing) (r : Result T E) (n new : Net) (i : ℕ) → OnlyPuts turn frames (imp_at n.imps i)
    → OnOk r (new ≡ record n { lines = put_all n.lines i (frames_by_up frames (imp_at n.imps i)) }) → OnOk r (new ≡ at_imp (imp_at n.imps i) i turn n)
put_alone turn frames (Ok x) n new i only is = is ∙ turned turn frames n i _ refl only
put_alone turn frames (Err e) n new i only is = tt

pub told_alone : {T E : Type 0} (r : Result T E) (n new : Net) (i : ℕ) → OnlyTells (imp_at n.imps i) → OnOk r (new ≡ record n { lines = put_all n.lines i (told (imp_at n.imps i)) }) → OnOk r (new ≡ at_imp (imp_at n.imps i) i (call_turn call.Route) n)
told_alone r n new i only is = put_alone route tells r n new i only is

pub told_lives : (n new : Net) → new.imps ≡ n.imps → AreLive n.imps → AreLive new.imps
told_lives n new same live = subst (λ (imps : List (Option State)). AreLive imps) (sym same) live

grows_by : (turn : State → ImpTurn) (frames : State → List Outgoing) (o : Option State) → OnlyPuts turn frames o → 0 < length (frames_by_up frames o) → grows_at o (λ s. sends (turn s)) ≡ true
grows_by turn frames None only some = absurd (omega (arith, some))
grows_by turn frames (Some s) only some = ap (λ (t : ImpTurn). nat_lt 0 (length t.frames)) only ∙ grind (arith, nat_tests, some)

pub put_grows : {T E : Type 0} (turn : State → ImpTurn) (frames : State → List Outgoing) (r : Result T E) (o : Option State) → OnlyPuts turn frames o → OnErr r (0 < length (frames_by_up frames o)) → OnErr r (grows_at o (λ s. sends (turn s)) ≡ true)
put_grows turn frames (Ok x) o only some = tt
put_grows turn frames (Err e) o only some = grows_by turn frames o only some

pub told_grows : {T E : Type 0} (r : Result T E) (o : Option State) → OnlyTells o → OnErr r (0 < length (told o)) → OnErr r (grows_at o (call_grows call.Route) ≡ true)
told_grows r o only some = put_grows route tells r o only some
