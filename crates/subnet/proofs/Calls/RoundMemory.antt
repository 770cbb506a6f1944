-- When a quiet round may need memory.
use Rattle.subnet.proofs.Common.{list_any, nat_tests, set-get_or, Direction, or_false, PacketFields, Frame, Outgoing, Port, State, ImpTurn, port_at, down_port, told_from, route, resent_from, resend, from_line, ignored, at_set, Net, Wire, no_wire, imp_at, wire_at, frames_on, far_end, dropping, put_all, with_turn, imp_is_up, at_imp, delivered, drop_frame, refreshed, call_turn, call_grows, carried_first}
use Rattle.std.specs.Prelude.{if◌then◌else◌}
use Rattle.std.proofs.Common.{◌≡◌, ℕ, zero, suc, ◌+◌, Bool, false, true, List, [], ◌∷◌, ◌++◌, length, nat_lt, take, drop, get_or, set, slice_get, Option, Some, None, ◌||◌, ◌&&◌, refl, ap, sym, subst, ◌∙◌, arith}
use Rattle.std.proofs.lemmas.Bool.{or_from, and_right}
use Rattle.interface.specs.declared.event.Direction.TheVariants as way
use Rattle.routing.specs.RouteTable.{Table, next_of, vector_of}
use Rattle.imp_channel.specs.Line.{End, submitted}
use Rattle.imp_node.specs.Pump.{Pumped, target, sent_on, packet_sent, pumped, pump}
use Rattle.imp_node.specs.Turns.{resend_grows, route_grows, from_line_grows}
use Rattle.subnet.specs.Calls.{grows_at, copy_grows, delivered_grows, brings_bits, round_grows}
use Rattle.subnet.specs.declared.imp_call.ImpCall.TheVariants as call

-- ---- small facts

-- what grows nothing where the other grows nothing grows only where the other does
only_where : (a b : Bool) → (a ≡ false → b ≡ false) → b ≡ true → a ≡ true
only_where true b none grows = refl
only_where false b none grows = let untrue : b ≡ false = none refl in cc

and_told : (a b : Bool) → a ≡ true → (a && b) ≡ false → b ≡ false
and_told true b told none = none
and_told false b told none = cc

none_in : {A : Type 0} (xs : List A) → nat_lt 0 (length xs) ≡ false → xs ≡ []
none_in [] none = refl
none_in (x ∷ xs) none = absurd (grind (arith, nat_tests))

both_empty : {A : Type 0} (xs ys : List A) → xs ++ ys ≡ [] → (xs ≡ []) × (ys ≡ [])
both_empty [] ys none = (refl, none)
both_empty (x ∷ xs) ys none = cc

-- no element passes a test
none_at : {A : Type 0} (test : A → Bool) (xs : List A) (k : ℕ) (d : A) → test d ≡ false → list_any test xs ≡ false → test (get_or xs k d) ≡ false
none_at test [] k d not none = not
none_at test (x ∷ xs) zero d not none = (or_false (test x) _ none).0
none_at test (x ∷ xs) (suc k) d not none = none_at test xs k d not (or_false (test x) _ none).1

none_set : {A : Type 0} (test : A → Bool) (xs : List A) (k : ℕ) (y : A) → test y ≡ false → list_any test xs ≡ false → list_any test (set xs k y) ≡ false
none_set test [] k y not none = refl
none_set test (x ∷ xs) zero y not none = or_from (test y) (list_any test xs) not (or_false (test x) _ none).1
none_set test (x ∷ xs) (suc k) y not none =
    or_from (test x) (list_any test (set xs k y)) (or_false (test x) _ none).0 (none_set test xs k y not (or_false (test x) _ none).1)

tested_alike : {A : Type 0} (f g : A → Bool) (xs : List A) → ((x : A) → f x ≡ g x) → list_any f xs ≡ list_any g xs
tested_alike f g [] alike = refl
tested_alike f g (x ∷ xs) alike = ap (λ (b : Bool). b || list_any f xs) (alike x) ∙ ap (λ (b : Bool). g x || b) (tested_alike f g xs alike)

-- ---- waiting packets of which none goes out: the pump finds the same ports the next time, and again none goes out

sent_on_ports : (ports : List Port) (k : ℕ) (p : PacketFields) (o : Option (End × Frame)) → (sent_on ports k p o).frames ≡ [] → (sent_on ports k p o).ports ≡ ports
sent_on_ports ports k p None none = refl
sent_on_ports ports k p (Some put) none = cc

sent_ports : (ports : List Port) (p : PacketFields) (o : Option ℕ) → (packet_sent ports p o).frames ≡ [] → (packet_sent ports p o).ports ≡ ports
sent_ports ports p None none = refl
sent_ports ports p (Some k) none = sent_on_ports ports k p _ none

again_on : (routes : Table) (ports : List Port) (p : PacketFields) (others : List PacketFields) (k : ℕ) (o : Option (End × Frame))
    → next_of routes (target p) ≡ Some k → submitted (port_at ports k).line p ≡ o → (sent_on ports k p o).frames ≡ [] → (pumped routes ports others).frames ≡ []
    → (pumped routes ports ((sent_on ports k p o).waits ++ others)).frames ≡ []
again_on routes ports p others k None next busy none rest =
    let waits : packet_sent ports p (next_of routes (target p)) ≡ record { ports = ports; waits = p ∷ []; frames = [] } = ap (packet_sent ports p) next ∙ ap (sent_on ports k p) busy in
    ap (λ (first : Pumped). first.frames ++ (pumped routes first.ports others).frames) waits ∙ rest
again_on routes ports p others k (Some put) next busy none rest = cc

again_by : (routes : Table) (ports : List Port) (p : PacketFields) (others : List PacketFields) (o : Option ℕ)
    → next_of routes (target p) ≡ o → (packet_sent ports p o).frames ≡ [] → (pumped routes ports others).frames ≡ []
    → (pumped routes ports ((packet_sent ports p o).waits ++ others)).frames ≡ []
again_by routes ports p others None next none rest = rest
again_by routes ports p others (Some k) next none rest = again_on routes ports p others k _ next refl none rest

ports_stay : (routes : Table) (ports : List Port) (store : List PacketFields) → (pumped routes ports store).frames ≡ [] → (pumped routes ports store).ports ≡ ports
ports_stay routes ports [] none = refl
ports_stay routes ports (p ∷ ps) none =
    let first : Pumped = packet_sent ports p (next_of routes (target p)) in
    let each : (first.frames ≡ []) × ((pumped routes first.ports ps).frames ≡ []) = both_empty _ _ none in
    ports_stay routes first.ports ps each.1 ∙ sent_ports ports p _ each.0

none_again : (routes : Table) (ports : List Port) (store : List PacketFields) → (pumped routes ports store).frames ≡ [] → (pumped routes ports (pumped routes ports store).waits).frames ≡ []
none_again routes ports [] none = refl
none_again routes ports (p ∷ ps) none =
    let first : Pumped = packet_sent ports p (next_of routes (target p)) in
    let each : (first.frames ≡ []) × ((pumped routes first.ports ps).frames ≡ []) = both_empty _ _ none in
    let rest : (pumped routes ports (pumped routes first.ports ps).waits).frames ≡ [] =
    subst (λ (qs : List Port). (pumped routes qs (pumped routes first.ports ps).waits).frames ≡ []) (sent_ports ports p _ each.0) (none_again routes first.ports ps each.1)
    in
    again_by routes ports p _ _ refl each.0 rest

-- ---- an IMP that sends its distances to nobody: its ends are down, and no packet goes out

record IsSilent (s : State) : Type 0 where
  pub ends : list_any (λ port. port.up) s.ports ≡ false
  pub pump : (pumped s.routes s.ports s.store).frames ≡ []

told_one : (b : Bool) (out : Outgoing) (outs : List Outgoing) → (if b then out ∷ [] else []) ++ outs ≡ [] → (b ≡ false) × (outs ≡ [])
told_one true out outs none = cc
told_one false out outs none = (refl, none)

ends_down : (distances : List ℕ) (k : ℕ) (ports : List Port) → told_from distances k ports ≡ [] → list_any (λ port. port.up) ports ≡ false
ends_down distances k [] none = refl
ends_down distances k (port ∷ ports) none =
    let each : (port.up ≡ false) × (told_from distances (k + 1) ports ≡ []) = told_one _ _ _ none in
    or_from port.up (list_any (λ port. port.up) ports) each.0 (ends_down distances (k + 1) ports each.1)

none_told : (distances : List ℕ) (k : ℕ) (ports : List Port) → list_any (λ port. port.up) ports ≡ false → told_from distances k ports ≡ []
none_told distances k [] down = refl
none_told distances k (port ∷ ports) down =
    let each : (port.up ≡ false) × (list_any (λ port. port.up) ports ≡ false) = or_false port.up _ down in
    rw each.0 (none_told distances (k + 1) ports each.1)

none_resent : (k : ℕ) (ports : List Port) → list_any (λ port. port.up) ports ≡ false → resent_from k ports ≡ []
none_resent k [] down = refl
none_resent k (port ∷ ports) down =
    let each : (port.up ≡ false) × (list_any (λ port. port.up) ports ≡ false) = or_false port.up _ down in
    rw each.0 (none_resent (k + 1) ports each.1)

silent : (s : State) → route_grows s ≡ false → IsSilent s
silent s none =
    let each : (told_from (vector_of s.routes) 0 s.ports ≡ []) × ((pumped s.routes s.ports s.store).frames ≡ []) = both_empty _ _ (none_in _ none) in
    record { ends = ends_down (vector_of s.routes) 0 s.ports each.0; pump = each.1 }

no_frames : (first : List Outgoing) (s : State) → IsSilent s → first ≡ [] → (pump first s).frames ≡ []
no_frames first s quiet none = ap (λ (outs : List Outgoing). outs ++ (pumped s.routes s.ports s.store).frames) none ∙ quiet.pump

wants_none : {A : Type 0} (xs : List A) → xs ≡ [] → nat_lt 0 (length xs) ≡ false
wants_none {A = A} xs none = ap (λ (ys : List A). nat_lt 0 (length ys)) none

-- both calls of a round put no frame on a line, and leave it so
silent_route : (s : State) → IsSilent s → (route s).frames ≡ []
silent_route s quiet = no_frames _ s quiet (none_told (vector_of s.routes) 0 s.ports quiet.ends)

silent_resend : (s : State) → IsSilent s → (resend s).frames ≡ []
silent_resend s quiet = no_frames _ s quiet (none_resent 0 s.ports quiet.ends)

stays_silent : (first : List Outgoing) (s : State) → IsSilent s → IsSilent (pump first s).state
stays_silent first s quiet =
    let same : (pumped s.routes s.ports s.store).ports ≡ s.ports = ports_stay _ _ _ quiet.pump in
    record {
      ends = ap (λ (ports : List Port). list_any (λ (port : Port). port.up) ports) same ∙ quiet.ends;
      pump = ap (λ (ports : List Port). (pumped s.routes ports (pumped s.routes s.ports s.store).waits).frames) same ∙ none_again _ _ _ quiet.pump;
    }

-- ---- a subnet whose quiet rounds want none: each IMP that is up is silent, and no frame with bits goes to one

silent_at : (n : Net) (i : ℕ) → round_grows n ≡ false → grows_at (imp_at n.imps i) route_grows ≡ false
silent_at n i none = none_at _ n.imps i None refl (or_false (list_any (λ (imp : Option State). grows_at imp route_grows) n.imps) _ none).0

up_alike : (imps : List (Option State)) (i : ℕ) (s after : State) → imp_at imps i ≡ Some s → (j : ℕ) → imp_is_up (imp_at (set imps i (Some after)) j) ≡ imp_is_up (imp_at imps j)
up_alike imps i s after at = λ j.
    at_set (λ (h : ℕ) (o : Option State). imp_is_up o ≡ imp_is_up (imp_at imps h)) imps i j (Some after) None refl (ap imp_is_up (sym at))

brought_alike : (imps others : List (Option State)) → ((j : ℕ) → imp_is_up (imp_at others j) ≡ imp_is_up (imp_at imps j)) → (w : Wire) → brings_bits others w ≡ brings_bits imps w
brought_alike imps others alike w =
    ap (λ (up : Bool). (up && list_any copy_grows w.forward) || (imp_is_up (imp_at others w.a) && list_any copy_grows w.back)) (alike w.b)
    ∙ ap (λ (up : Bool). (imp_is_up (imp_at imps w.b) && list_any copy_grows w.forward) || (up && list_any copy_grows w.back)) (alike w.a)

-- one silent IMP in place of another
with_silent : (n : Net) (i : ℕ) (s after : State) → imp_at n.imps i ≡ Some s → IsSilent after → round_grows n ≡ false → round_grows (record n { imps = set n.imps i (Some after) }) ≡ false
with_silent n i s after at quiet none =
    let each : (list_any (λ (imp : Option State). grows_at imp route_grows) n.imps ≡ false) × (list_any (brings_bits n.imps) n.lines ≡ false) = or_false _ _ none in
    or_from _ _
    (none_set _ n.imps i _ (wants_none _ (silent_route after quiet)) each.0)
    (tested_alike _ _ _ (brought_alike n.imps _ (up_alike n.imps i s after at)) ∙ each.1)

-- a call that puts no frame on a line
called : (n : Net) (i : ℕ) (o : Option State) (turn : State → ImpTurn) → imp_at n.imps i ≡ o → grows_at o route_grows ≡ false
    → ((s : State) → IsSilent s → ((turn s).frames ≡ []) × IsSilent (turn s).state) → round_grows n ≡ false → round_grows (at_imp o i turn n) ≡ false
called n i None turn at quiet keeps none = none
called n i (Some s) turn at quiet keeps none =
    let kept : ((turn s).frames ≡ []) × IsSilent (turn s).state = keeps s (silent s quiet) in
    ap (λ (outs : List Outgoing). round_grows (record n { imps = set n.imps i (Some (turn s).state); lines = put_all n.lines i outs })) kept.0
    ∙ with_silent n i s _ at kept.1 none

told_quiet : (n : Net) (i : ℕ) → round_grows n ≡ false → round_grows (at_imp (imp_at n.imps i) i route n) ≡ false
told_quiet n i none =
    called n i _ route refl (silent_at n i none) (λ s quiet. (silent_route s quiet, stays_silent (told_from (vector_of s.routes) 0 s.ports) s quiet)) none

sent_quiet : (n : Net) (i : ℕ) → round_grows n ≡ false → round_grows (at_imp (imp_at n.imps i) i resend n) ≡ false
sent_quiet n i none = called n i _ resend refl (silent_at n i none) (λ s quiet. (silent_resend s quiet, stays_silent (resent_from 0 s.ports) s quiet)) none

sends_none : (o : Option State) → grows_at o route_grows ≡ false → grows_at o resend_grows ≡ false
sends_none None quiet = refl
sends_none (Some s) quiet = wants_none _ (silent_resend s (silent s quiet))

-- ---- an IMP of a round

pub telling_wants : (n : Net) (i : ℕ) → grows_at (imp_at n.imps i) (call_grows call.Route) ≡ true → round_grows n ≡ true
telling_wants n i grows = only_where _ _ (silent_at n i) grows

pub sending_wants : (n m : Net) (i : ℕ) → m ≡ at_imp (imp_at n.imps i) i (call_turn call.Route) n → grows_at (imp_at m.imps i) (call_grows call.Resend) ≡ true → round_grows n ≡ true
sending_wants n m i told grows =
    only_where _ _
    (λ none. sends_none (imp_at m.imps i) (silent_at m i (ap round_grows told ∙ told_quiet n i none))) grows

pub refreshed_earlier : (n m : Net) (i : ℕ) → m ≡ refreshed n i → round_grows m ≡ true → round_grows n ≡ true
refreshed_earlier n m i is grows =
    only_where _ _
    (λ none. sent_quiet (at_imp (imp_at n.imps i) i route n) i (told_quiet n i none)) (ap round_grows (sym is) ∙ grows)

-- ---- a frame of a round

no_frame_brought : (imps : List (Option State)) → brings_bits imps no_wire ≡ false
no_frame_brought imps = or_from _ _ (and_right (imp_is_up (imp_at imps 0)) false refl) (and_right (imp_is_up (imp_at imps 0)) false refl)

wire_quiet : (n : Net) (l : ℕ) → round_grows n ≡ false → brings_bits n.imps (wire_at n.lines l) ≡ false
wire_quiet n l none = none_at (brings_bits n.imps) n.lines l no_wire (no_frame_brought n.imps) (or_false _ _ none).1

no_bits : (imps : List (Option State)) (w : Wire) (d : Direction) → brings_bits imps w ≡ false → imp_is_up (imp_at imps (far_end d w)) ≡ true → list_any copy_grows (frames_on d w) ≡ false
no_bits imps w way.Forward none up = and_told _ _ up (or_false _ _ none).0
no_bits imps w way.Back none up = and_told _ _ up (or_false _ _ none).1

copies_none : (frames : List Frame) (k : ℕ) (f : Frame) → slice_get frames k ≡ Some f → list_any copy_grows frames ≡ false → copy_grows f ≡ false
copies_none [] k f there none = cc
copies_none (g ∷ frames) zero f there none =
    let first : g ≡ f = cc in ap copy_grows (sym first) ∙ (or_false (copy_grows g) _ none).0
copies_none (g ∷ frames) (suc k) f there none = copies_none frames k f there (or_false (copy_grows g) _ none).1

-- at an end that is down a frame is ignored
end_ignores : (s : State) (k : ℕ) (f : Frame) → IsSilent s → from_line s k f ≡ ignored s
end_ignores s k f quiet =
    let down : (port_at s.ports k).up ≡ false = none_at (λ (port : Port). port.up) s.ports k down_port refl quiet.ends in
    rw down refl

-- so nothing grows
ignoring_wants_none : (o : Option State) (k : ℕ) (f : Frame) → grows_at o route_grows ≡ false → (imp_is_up o ≡ true → copy_grows f ≡ false) → grows_at o (λ s. copy_grows f || from_line_grows s k f) ≡ false
ignoring_wants_none None k f quiet none = refl
ignoring_wants_none (Some s) k f quiet none = or_from (copy_grows f) (from_line_grows s k f) (none refl) (wants_none _ (ap (λ (turn : ImpTurn). turn.frames) (end_ignores s k f (silent s quiet))))

-- and nothing changes
ignoring_keeps : (n : Net) (i : ℕ) (o : Option State) (k : ℕ) (f : Frame) → imp_at n.imps i ≡ o → grows_at o route_grows ≡ false → at_imp o i (λ s. from_line s k f) n ≡ n
ignoring_keeps n i None k f at quiet = refl
ignoring_keeps n i (Some s) k f at quiet =
    let same : set n.imps i (Some s) ≡ n.imps = ap (set n.imps i) (sym at) ∙ set-get_or n.imps i None in
    ap (λ (turn : ImpTurn). with_turn i turn n) (end_ignores s k f (silent s quiet)) ∙ ap (λ (imps : List (Option State)). record n { imps = imps }) same

delivers_none : (n : Net) (l : ℕ) (d : Direction) (k : ℕ) (o : Option Frame) → slice_get (frames_on d (wire_at n.lines l)) k ≡ o → round_grows n ≡ false → delivered_grows n l d o ≡ false
delivers_none n l d k None there none = refl
delivers_none n l d k (Some f) there none =
    let far : ℕ = far_end d _ in
    ignoring_wants_none _ _ f (silent_at n far none)
    (λ up. copies_none (frames_on d (wire_at n.lines l)) k f there (no_bits n.imps _ d (wire_quiet n l none) up))

pub delivering_wants : (n : Net) (l : ℕ) (d : Direction) → delivered_grows n l d (slice_get (frames_on d (wire_at n.lines l)) 0) ≡ true → round_grows n ≡ true
delivering_wants n l d grows = only_where _ _ (delivers_none n l d 0 _ refl) grows

delivered_same : (n : Net) (l : ℕ) (d : Direction) (o : Option Frame) → round_grows n ≡ false → delivered n l d o ≡ n
delivered_same n l d None none = refl
delivered_same n l d (Some f) none =
    let far : ℕ = far_end d _ in
    ignoring_keeps n far _ _ f refl (silent_at n far none)

first_dropped : (frames : List Frame) → list_any copy_grows frames ≡ false → list_any copy_grows (take 0 frames ++ drop 1 frames) ≡ false
first_dropped [] none = refl
first_dropped (f ∷ frames) none = (or_false (copy_grows f) _ none).1

still_none : (up : Bool) (frames : List Frame) → (up && list_any copy_grows frames) ≡ false → (up && list_any copy_grows (take 0 frames ++ drop 1 frames)) ≡ false
still_none true frames none = first_dropped frames none
still_none false frames none = refl

dropped_quiet : (imps : List (Option State)) (d : Direction) (w : Wire) → brings_bits imps w ≡ false → brings_bits imps (dropping d 0 w) ≡ false
dropped_quiet imps way.Forward w none =
    let each : ((imp_is_up (imp_at imps w.b) && list_any copy_grows w.forward) ≡ false) × ((imp_is_up (imp_at imps w.a) && list_any copy_grows w.back) ≡ false) = or_false _ _ none in
    or_from _ _ (still_none (imp_is_up (imp_at imps w.b)) w.forward each.0) each.1
dropped_quiet imps way.Back w none =
    let each : ((imp_is_up (imp_at imps w.b) && list_any copy_grows w.forward) ≡ false) × ((imp_is_up (imp_at imps w.a) && list_any copy_grows w.back) ≡ false) = or_false _ _ none in
    or_from _ _ each.0 (still_none _ w.back each.1)

lost_quiet : (n : Net) (l : ℕ) (d : Direction) → round_grows n ≡ false → round_grows (drop_frame n l d 0) ≡ false
lost_quiet n l d none =
    let each : (list_any (λ (imp : Option State). grows_at imp route_grows) n.imps ≡ false) × (list_any (brings_bits n.imps) n.lines ≡ false) = or_false _ _ none in
    or_from _ _ each.0 (none_set _ _ l _ (dropped_quiet n.imps d _ (wire_quiet n l none)) each.1)

pub carried_earlier : (l : ℕ) (d : Direction) (n m : Net) → m ≡ carried_first l d n → round_grows m ≡ true → round_grows n ≡ true
carried_earlier l d n m is grows =
    only_where _ _
    (λ none. ap (λ (m : Net). round_grows (drop_frame m l d 0)) (delivered_same n l d _ none) ∙ lost_quiet n l d none)
    (ap round_grows (sym is) ∙ grows)

-- ---- what the law says of it

none_up : (imps : List (Option State)) (test : Option State → Bool) → test None ≡ false → ((i : ℕ) → imp_at imps i ≡ None) → list_any test imps ≡ false
none_up [] test not down = refl
none_up (o ∷ imps) test not down = or_from (test o) (list_any test imps) (ap test (down 0) ∙ not) (none_up imps test not (λ i. down (suc i)))

none_brought : (imps : List (Option State)) (lines : List Wire) → ((i : ℕ) → imp_at imps i ≡ None) → list_any (brings_bits imps) lines ≡ false
none_brought imps [] down = refl
none_brought imps (w ∷ lines) down =
    or_from _ _
    (or_from _ _ (ap (λ (o : Option State). imp_is_up o && list_any copy_grows w.forward) (down w.b)) (ap (λ (o : Option State). imp_is_up o && list_any copy_grows w.back) (down w.a)))
    (none_brought imps lines down)

pub round_wants_none : (n : Net) → ((i : ℕ) → imp_at n.imps i ≡ None) → round_grows n ≡ false
round_wants_none n down = or_from _ _ (none_up n.imps _ refl down) (none_brought n.imps _ down)

told_wants : (o : Option State) (s : State) (k : ℕ) → o ≡ Some s → (port_at s.ports k).up ≡ true → grows_at o route_grows ≡ false → false ≡ true
told_wants None s k there up none = cc
told_wants (Some t) s k there up none =
    let same : t ≡ s = cc in
    sym (none_at (λ (port : Port). port.up) t.ports k down_port refl (silent t none).ends) ∙ (ap (λ (x : State). (port_at x.ports k).up) same ∙ up)

pub round_wants : (n : Net) (i k : ℕ) (s : State) → imp_at n.imps i ≡ Some s → (port_at s.ports k).up ≡ true → round_grows n ≡ true
round_wants n i k s there up = ends _ refl
  where
    ends : (b : Bool) → round_grows n ≡ b → b ≡ true
    ends true is = refl
    ends false is = told_wants _ s k there up (silent_at n i is)
