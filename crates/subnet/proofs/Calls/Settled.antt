-- A quiet round of a settled network changes nothing: the frames that it puts on lines repeat what was heard, or go to an end that is down, and
-- are gone at its end.
use Rattle.subnet.proofs.Common.{AllByRecursion, range_with_len, list_all, sum_by-cons, nat_tests, Direction, Frame, vector_of, Outgoing, Port, State, ImpTurn, port_at, from_line, ignored, packets_in, pump, on_port, told_by, told_from, route, resent_by, resent_from, resend, Net, Wire, no_wire, imp_at, wire_at, ends_at, port_of, line_from, followed_by, with_frame, put_on, put_one, put_all, with_turn, frames_on, far_end, without_at, dropping}
use Rattle.subnet.specs.Net.{line_places}
use Rattle.std.specs.Prelude.{if◌then◌else◌, IfSome}
use Rattle.std.proofs.Common.{◌≡◌, ℕ, ◌+◌, ◌-◌, ◌<◌, ◌≤◌, zero, suc, Bool, true, false, List, [], ◌∷◌, ◌++◌, length, map, take, set, slice_get, nat_lt, ◌==◌, ◌||◌, ◌&&◌, count_by, Option, Some, None, refl, ap, sym, subst, ◌∙◌, arith}
use Rattle.std.proofs.lemmas.List.{set-get_or, length-map}
use Rattle.std.proofs.lemmas.Bool.{eqb-true, and_parts}
use Rattle.interface.specs.declared.event.Direction.TheVariants as way
use Rattle.imp_channel.specs.Line.{resent, routes_frame}
use Rattle.imp_node.proofs.lemmas.{at_set, none_resent, pump_still, quiet_down, routes_again}
use Rattle.subnet.specs.Events.{at_imp, delivered, deliver, drop_frame, refreshed, all_refreshed, carried, turn_of, all_turns, quiet_round}
use Rattle.subnet.specs.Inside.Settled.{near_end, IsFree, IsStill, IsStillOn, IsSettled, is_silent, waits_at}
use Rattle.subnet.proofs.Calls.Resending.{all_resent}
use Rattle.subnet.proofs.Calls.Resting.{rests_at}
use Rattle.subnet.proofs.Calls.Stuck.{only_rests}
use Rattle.subnet.proofs.Calls.Telling.{all_from, all_told, put_both}
use Rattle.subnet.proofs.Calls.Carries.{no_frame_in}
use Rattle.subnet.proofs.Calls.Joining.{counted}

-- ---- lines without their frames

abbrev emptied : Wire → Wire
emptied w = record w { forward = []; back = [] }

emptied_set : (lines : List Wire) (l : ℕ) (v : Wire) → emptied v ≡ emptied (wire_at lines l) → map emptied (set lines l v) ≡ map emptied lines
emptied_set [] l v same = refl
emptied_set (w ∷ ws) zero v same = ap (λ (x : Wire). x ∷ map emptied ws) same
emptied_set (w ∷ ws) (suc l) v same = ap (λ (xs : List Wire). emptied w ∷ xs) (emptied_set ws l v same)

emptied_with : (b : Bool) (f : Frame) (w : Wire) → emptied (if b then record w { forward = followed_by w.forward f } else record w { back = followed_by w.back f }) ≡ emptied w
emptied_with true f w = refl
emptied_with false f w = refl

emptied_dropping : (d : Direction) (w : Wire) → emptied (dropping d 0 w) ≡ emptied w
emptied_dropping way.Forward w = refl
emptied_dropping way.Back w = refl

wire_emptied : (lines : List Wire) (l : ℕ) → wire_at (map emptied lines) l ≡ emptied (wire_at lines l)
wire_emptied [] l = refl
wire_emptied (w ∷ ws) zero = refl
wire_emptied (w ∷ ws) (suc l) = wire_emptied ws l

far_emptied : (d : Direction) (w : Wire) → far_end d (emptied w) ≡ far_end d w
far_emptied way.Forward w = refl
far_emptied way.Back w = refl

port_emptied : (lines : List Wire) (i l : ℕ) → port_of (map emptied lines) i l ≡ port_of lines i l
port_emptied [] i l = refl
port_emptied (w ∷ ws) i zero = refl
port_emptied (w ∷ ws) i (suc l) =
    counted i (emptied w) (take l (map emptied ws)) ∙ (ap (λ (m : ℕ). (if ends_at i w then 1 else 0) + m) (port_emptied ws i l) ∙ sym (counted i w (take l ws)))

line_emptied : (k : ℕ) (lines : List Wire) (i p : ℕ) → line_from k (map emptied lines) i p ≡ line_from k lines i p
line_emptied k [] i p = refl
line_emptied k (w ∷ ws) i p =
    ap (λ (o : Option ℕ). if ends_at i w then (if p == 0 then Some k else o) else line_from (k + 1) (map emptied ws) i p) (line_emptied (k + 1) ws i (p - 1))
    ∙ ap (λ (o : Option ℕ). if ends_at i w then (if p == 0 then Some k else line_from (k + 1) ws i (p - 1)) else o) (line_emptied (k + 1) ws i p)

-- lines with the same ends
record Alike (lines others : List Wire) : Type 0 where
  pub ends : map emptied lines ≡ map emptied others

far_alike : (lines others : List Wire) (l : ℕ) (d : Direction) → Alike lines others → far_end d (wire_at lines l) ≡ far_end d (wire_at others l)
far_alike lines others l d same =
    sym (far_emptied d _) ∙ (ap (far_end d) (sym (wire_emptied lines l))
    ∙ (ap (λ (ws : List Wire). far_end d (wire_at ws l)) same.ends ∙ (ap (far_end d) (wire_emptied others l) ∙ far_emptied d _)))

a_alike : (lines others : List Wire) (l : ℕ) → Alike lines others → (wire_at lines l).a ≡ (wire_at others l).a
a_alike lines others l same =
    ap (λ (w : Wire). w.a) (sym (wire_emptied lines l)) ∙ (ap (λ (ws : List Wire). (wire_at ws l).a) same.ends ∙ ap (λ (w : Wire). w.a) (wire_emptied others l))

port_alike : (lines others : List Wire) (i l : ℕ) → Alike lines others → port_of lines i l ≡ port_of others i l
port_alike lines others i l same = sym (port_emptied lines i l) ∙ (ap (λ (ws : List Wire). port_of ws i l) same.ends ∙ port_emptied others i l)

line_alike : (lines others : List Wire) (i p : ℕ) → Alike lines others → line_from 0 lines i p ≡ line_from 0 others i p
line_alike lines others i p same = sym (line_emptied 0 lines i p) ∙ (ap (λ (ws : List Wire). line_from 0 ws i p) same.ends ∙ line_emptied 0 others i p)

-- ---- the line at a port

record LineAt (l : ℕ) (ws : List Wire) (i k m : ℕ) : Type 0 where
  pub place : ℕ
  pub is : m ≡ l + place
  pub within : place < length ws
  pub ends : ends_at i (wire_at ws place) ≡ true
  pub port : port_of ws i place ≡ k

line_later : (l : ℕ) (w : Wire) (ws : List Wire) (i k m p : ℕ) (b : Bool) → ends_at i w ≡ b → k ≡ (if b then 1 else 0) + p → LineAt (l + 1) ws i p m → LineAt l (w ∷ ws) i k m
line_later l w ws i k m p b is more rest = record {
  place = suc rest.place;
  is = omega (arith, rest.is);
  within = omega (arith, rest.within);
  ends = rest.ends;
  port = counted i w (take rest.place ws) ∙ (ap (λ (c : Bool). (if c then 1 else 0) + count_by (ends_at i) (take rest.place ws)) is ∙ (ap (λ (n : ℕ). (if b then 1 else 0) + n) rest.port ∙ sym more));
}

line_by : (b first : Bool) (l : ℕ) (w : Wire) (ws : List Wire) (i k m : ℕ) → ends_at i w ≡ b → (k == 0) ≡ first → ((p : ℕ) → line_from (l + 1) ws i p ≡ Some m → LineAt (l + 1) ws i p m)
    → (if b then (if first then Some l else line_from (l + 1) ws i (k - 1)) else line_from (l + 1) ws i k) ≡ Some m → LineAt l (w ∷ ws) i k m
line_by true true l w ws i k m is none later at =
    let same : l ≡ m = cc in
    record { place = 0; is = omega (arith, same); within = omega arith; ends = is; port = sym (eqb-true k 0 none) }
line_by true false l w ws i k m is none later at = line_later l w ws i k m _ true is (grind (arith, nat_tests, none)) (later _ at)
line_by false first l w ws i k m is none later at = line_later l w ws i k m k false is (omega arith) (later k at)

line_found : (l : ℕ) (ws : List Wire) (i k m : ℕ) → line_from l ws i k ≡ Some m → LineAt l ws i k m
line_found l [] i k m found = absurd cc
line_found l (w ∷ ws) i k m found = line_by _ _ l w ws i k m refl refl (λ p at. line_found (l + 1) ws i p m at) found

abbrev way_from : Bool → Direction
way_from true = way.Forward
way_from false = way.Back

near_by : (b : Bool) (w : Wire) (i : ℕ) → (w.a == i) ≡ b → (b || w.b == i) ≡ true → near_end (way_from b) w ≡ i
near_by true w i is ends = eqb-true w.a i is
near_by false w i is ends = eqb-true w.b i ends

-- ---- frames that change nothing where they come in

abbrev Ignores : Option State → ℕ → Frame → Type 0
Ignores None q f = Unit {0}
Ignores (Some s) q f = from_line s q f ≡ ignored s

abbrev Harmless : Net → ℕ → Direction → Frame → Type 0
Harmless n l d f = Ignores (imp_at n.imps (far_end d (wire_at n.lines l))) (port_of n.lines (far_end d (wire_at n.lines l)) l) f

-- the lines of the network, with such frames only
record AreStill (n : Net) (lines : List Wire) : Type 0 where
  pub alike : Alike lines n.lines
  pub harmless : (l : ℕ) (d : Direction) → AllByRecursion (Harmless n l d) (frames_on d (wire_at lines l))

appended : {A : Type 0} (P : A → Type 0) (xs : List A) (x : A) → AllByRecursion P xs → P x → AllByRecursion P (xs ++ x ∷ [])
appended P [] x all new = (new, tt)
appended P (y ∷ ys) x all new = (all.0, appended P ys x all.1 new)

followed : (room : Bool) (P : Frame → Type 0) (frames : List Frame) (f : Frame) → AllByRecursion P frames → P f → AllByRecursion P (if room then frames ++ f ∷ [] else frames)
followed true P frames f all new = appended P frames f all new
followed false P frames f all new = all

put_harmless : (P : Direction → Frame → Type 0) (b : Bool) (w : Wire) (f : Frame) → ((d : Direction) → AllByRecursion (P d) (frames_on d w)) → P (way_from b) f
    → (d : Direction) → AllByRecursion (P d) (frames_on d (if b then record w { forward = followed_by w.forward f } else record w { back = followed_by w.back f }))
put_harmless P true w f all new way.Forward = followed (nat_lt (length w.forward) line_places) (P way.Forward) w.forward f (all way.Forward) new
put_harmless P true w f all new way.Back = all way.Back
put_harmless P false w f all new way.Forward = all way.Forward
put_harmless P false w f all new way.Back = followed _ _ w.back f (all way.Back) new

put_still : (n : Net) (lines : List Wire) (i l : ℕ) (f : Frame) → AreStill n lines → Harmless n l (way_from ((wire_at lines l).a == i)) f → AreStill n (set lines l (with_frame i f (wire_at lines l)))
put_still n lines i l f still new = record {
  alike = record { ends = emptied_set lines l (with_frame i f (wire_at lines l)) (emptied_with _ f (wire_at lines l)) ∙ still.alike.ends };
  harmless = λ m d. at_set (λ (h : ℕ) (w : Wire). AllByRecursion (Harmless n h d) (frames_on d w)) lines l m (with_frame i f (wire_at lines l)) no_wire (still.harmless m d)
      (put_harmless _ _ _ f (λ d. still.harmless l d) new d);
}

-- ---- frames of a port

-- the line at a port, and its far end
still_line : (n : Net) (i k l : ℕ) (s : State) → IsSettled n → imp_at n.imps i ≡ Some s → line_from 0 n.lines i k ≡ Some l
    → IsStill (Some s) k (imp_at n.imps (far_end (way_from ((wire_at n.lines l).a == i)) (wire_at n.lines l))) (port_of n.lines (far_end (way_from ((wire_at n.lines l).a == i)) (wire_at n.lines l)) l)
still_line n i k l s settled is at =
    let line : LineAt 0 n.lines i k l = line_found 0 _ i k l at in
    let same : l ≡ line.place = omega (arith, line.is) in
    let w : Wire = wire_at n.lines l in
    let d : Direction = way_from (w.a == i) in
    let far : ℕ = far_end d w in
    let near : near_end d w ≡ i = near_by _ w i refl (ap (λ (p : ℕ). ends_at i (wire_at n.lines p)) same ∙ line.ends) in
    let port : port_of n.lines (near_end d w) l ≡ k = ap (λ (j : ℕ). port_of n.lines j l) near ∙ (ap (port_of n.lines i) same ∙ line.port) in
    let still : IsStillOn n l d = settled.still l d (omega (arith, line.within, same)) in
    subst (λ (o : Option State). IsStill o k (imp_at n.imps far) (port_of n.lines far l)) (ap (imp_at n.imps) near ∙ is)
    (subst (λ (p : ℕ). IsStill (imp_at n.imps (near_end d w)) p (imp_at n.imps far) (port_of n.lines far l)) port still)

-- a frame that is harmless on the line at a port is put there
put_frame : (n : Net) (lines : List Wire) (i k : ℕ) (f : Frame) → ((l : ℕ) → line_from 0 n.lines i k ≡ Some l → Harmless n l (way_from ((wire_at n.lines l).a == i)) f) → AreStill n lines
    → AreStill n (put_one lines i (on_port k f))
put_frame n lines i k f harmless still = by (line_from 0 lines i k) refl where
  by : (o : Option ℕ) → line_from 0 lines i k ≡ o → AreStill n (put_on lines i f o)
  by None at = still
  by (Some l) at =
      put_still n lines i l f still
      (subst (λ (a : ℕ). Harmless n l (way_from (a == i)) f) (sym (a_alike lines _ l still.alike)) (harmless l (sym (line_alike lines n.lines i k still.alike) ∙ at)))

put_frames : (n : Net) (frames : List Frame) (lines : List Wire) (i k : ℕ) → ((l : ℕ) (f : Frame) → line_from 0 n.lines i k ≡ Some l → Harmless n l (way_from ((wire_at n.lines l).a == i)) f) → AreStill n lines
    → AreStill n (put_all lines i (map (on_port k) frames))
put_frames n [] lines i k harmless still = still
put_frames n (f ∷ frames) lines i k harmless still =
    put_frames n frames (put_one lines i (on_port k f)) i k harmless (put_frame n lines i k f (λ l at. harmless l f at) still)

-- the frames of all ports, one port after the other
put_ports : (each : ℕ → Port → List Outgoing) (n : Net) (ports : List Port) (lines : List Wire) (i k : ℕ) (s : State) → ((j : ℕ) → j < length ports → port_at ports j ≡ port_at s.ports (k + j))
    → ((others : List Wire) (j : ℕ) → AreStill n others → AreStill n (put_all others i (each j (port_at s.ports j)))) → AreStill n lines → AreStill n (put_all lines i (all_from each k ports))
put_ports each n [] lines i k s at ok still = still
put_ports each n (port ∷ ports) lines i k s at ok still =
    let here : port ≡ port_at s.ports k = at 0 (omega arith) ∙ ap (port_at s.ports) (omega arith) in
    let first : AreStill n (put_all lines i (each k port)) = subst (λ (p : Port). AreStill n (put_all lines i (each k p))) (sym here) (ok lines k still) in
    subst (λ (ws : List Wire). AreStill n ws) (sym (put_both (each k port) (all_from each _ ports) lines i))
    (put_ports each n ports (put_all lines i (each k port)) i (k + 1) s (λ j within. at (suc j) (omega (arith, within)) ∙ ap (port_at s.ports) (omega arith)) ok first)

-- ---- what an IMP announces

heard_by : (s : State) (k q : ℕ) (o : Option State) → (port_at s.ports k).up ≡ true → IfSome o (λ t. pump [] t ≡ ignored t) → IsStill (Some s) k o q
    → Ignores o q (routes_frame (port_at s.ports k).line (vector_of s.routes))
heard_by s k q None up waits still = tt
heard_by s k q (Some t) up waits still = by (port_at t.ports q).up refl where
  told : Frame
  told = routes_frame (port_at s.ports k).line (vector_of s.routes)

  by : (b : Bool) → (port_at t.ports q).up ≡ b → from_line t q told ≡ ignored t
  by true there =
      routes_again (port_at t.ports q).up t q (port_at s.ports k).line.expected (vector_of s.routes) (record { waits = waits; free = (still up there).2 }) (λ _. (still up there).0)
  by false down = quiet_down t q told down

put_told : (n : Net) (lines : List Wire) (i k : ℕ) (s : State) → IsSettled n → imp_at n.imps i ≡ Some s → AreStill n lines → AreStill n (put_all lines i (told_by (vector_of s.routes) k (port_at s.ports k)))
put_told n lines i k s settled is still = by (port_at s.ports k).up refl where
  frame : Frame
  frame = routes_frame (port_at s.ports k).line (vector_of s.routes)

  told : (l : ℕ) → (port_at s.ports k).up ≡ true → line_from 0 n.lines i k ≡ Some l → Harmless n l (way_from ((wire_at n.lines l).a == i)) frame
  told l up at =
      let far : ℕ = far_end (way_from ((wire_at n.lines l).a == i)) _ in
      heard_by s k _ _ up (settled.waits far) (still_line n i k l s settled is at)

  by : (up : Bool) → (port_at s.ports k).up ≡ up → AreStill n (put_all lines i (if up then on_port k frame ∷ [] else []))
  by true up = put_frame n lines i k frame (λ l at. told l up at) still
  by false down = still

-- ---- what an IMP sends again

lost_by : (s : State) (k q : ℕ) (o : Option State) (f : Frame) → (port_at s.ports k).up ≡ true → 0 < length (packets_in (port_at s.ports k).line.sending) → IsStill (Some s) k o q → Ignores o q f
lost_by s k q None f up busy still = tt
lost_by s k q (Some t) f up busy still = by (port_at t.ports q).up refl where
  none : (port_at t.ports q).up ≡ true → IsFree s k
  none there = (still up there).1

  by : (b : Bool) → (port_at t.ports q).up ≡ b → from_line t q f ≡ ignored t
  by true there = absurd (omega (arith, busy, none there))
  by false down = quiet_down t q f down

put_resent : (n : Net) (lines : List Wire) (i k : ℕ) (s : State) → IsSettled n → imp_at n.imps i ≡ Some s → AreStill n lines → AreStill n (put_all lines i (resent_by k (port_at s.ports k)))
put_resent n lines i k s settled is still = by (length (packets_in port.line.sending)) refl where
  port : Port
  port = port_at s.ports k

  lost : (l : ℕ) (f : Frame) → port.up ≡ true → 0 < length (packets_in port.line.sending) → line_from 0 n.lines i k ≡ Some l → Harmless n l (way_from ((wire_at n.lines l).a == i)) f
  lost l f up busy at =
      let far : ℕ = far_end (way_from ((wire_at n.lines l).a == i)) (wire_at n.lines l) in
      lost_by s k _ _ f up busy (still_line n i k l s settled is at)

  sent : (up : Bool) → port.up ≡ up → 0 < length (packets_in port.line.sending) → AreStill n (put_all lines i (if up then map (on_port k) (resent port.line) else []))
  sent true up busy = put_frames n (resent port.line) lines i k (λ l f at. lost l f up busy at) still
  sent false down busy = still

  by : (m : ℕ) → length (packets_in port.line.sending) ≡ m → AreStill n (put_all lines i (resent_by k port))
  by zero none = subst (λ (outs : List Outgoing). AreStill n (put_all lines i outs)) (sym (none_resent k port none)) still
  by (suc m) some = sent _ refl (omega (arith, some))

-- ---- the first half of the round

record Tells (n m : Net) : Type 0 where
  pub lines : List Wire
  pub same : m ≡ record n { lines = lines }
  pub still : AreStill n lines

-- a call that only puts harmless frames on lines
imp_puts : (turn : State → ImpTurn) (outs : List Outgoing) (n : Net) (lines : List Wire) (i : ℕ) (s : State) → imp_at n.imps i ≡ Some s → turn s ≡ record { state = s; frames = outs } → AreStill n (put_all lines i outs)
    → Tells n (with_turn i (turn s) (record n { lines = lines }))
imp_puts turn outs n lines i s is only still =
    let kept : set n.imps i (Some s) ≡ n.imps = ap (set n.imps i) (sym is) ∙ set-get_or n.imps i None in
    record {
      lines = put_all lines i outs;
      same = ap (λ (t : ImpTurn). with_turn i t (record n { lines = lines })) only ∙ ap (λ (imps : List (Option State)). record n { imps = imps; lines = put_all lines i outs }) kept;
      still = still;
    }

imp_told : (n : Net) (lines : List Wire) (i : ℕ) (o : Option State) → IsSettled n → imp_at n.imps i ≡ o → IfSome o (λ s. pump [] s ≡ ignored s) → AreStill n lines
    → Tells n (at_imp o i route (record n { lines = lines }))
imp_told n lines i None settled is waits still = record { lines = lines; same = refl; still = still }
imp_told n lines i (Some s) settled is waits still =
    let outs : List Outgoing = told_from (vector_of s.routes) 0 s.ports in
    let all : AreStill n (put_all lines i (all_from (told_by (vector_of s.routes)) 0 s.ports)) =
    put_ports _ n _ lines i 0 s (λ j within. ap (port_at s.ports) (omega arith)) (λ others j ok. put_told n others i j s settled is ok) still in
    imp_puts route outs n lines i s is (pump_still outs s waits) (subst (λ (os : List Outgoing). AreStill n (put_all lines i os)) (sym (all_told (vector_of s.routes) 0 s.ports)) all)

imp_resent : (n : Net) (lines : List Wire) (i : ℕ) (o : Option State) → IsSettled n → imp_at n.imps i ≡ o → IfSome o (λ s. pump [] s ≡ ignored s) → AreStill n lines
    → Tells n (at_imp o i resend (record n { lines = lines }))
imp_resent n lines i None settled is waits still = record { lines = lines; same = refl; still = still }
imp_resent n lines i (Some s) settled is waits still =
    let outs : List Outgoing = resent_from 0 s.ports in
    let all : AreStill n (put_all lines i (all_from resent_by 0 s.ports)) =
    put_ports resent_by n _ lines i 0 s (λ j within. ap (port_at s.ports) (omega arith)) (λ others j ok. put_resent n others i j s settled is ok) still in
    imp_puts resend outs n lines i s is (pump_still outs s waits) (subst (λ (os : List Outgoing). AreStill n (put_all lines i os)) (sym (all_resent 0 s.ports)) all)

refreshed_still : (n : Net) (lines : List Wire) (i : ℕ) → IsSettled n → AreStill n lines → Tells n (refreshed (record n { lines = lines }) i)
refreshed_still n lines i settled still =
    let told : Tells n (at_imp (imp_at n.imps i) i route (record n { lines = lines })) = imp_told n lines i _ settled refl (settled.waits i) still in
    let sent : Tells n (at_imp (imp_at n.imps i) i resend (record n { lines = told.lines })) = imp_resent n _ i _ settled refl (settled.waits i) told.still in
    subst (λ (m : Net). Tells n (at_imp (imp_at m.imps i) i resend m)) (sym told.same) sent

all_still : (numbers : List ℕ) (n : Net) (lines : List Wire) → IsSettled n → AreStill n lines → Tells n (all_refreshed numbers (record n { lines = lines }))
all_still [] n lines settled still = record { lines = lines; same = refl; still = still }
all_still (i ∷ numbers) n lines settled still =
    let one : Tells n (refreshed (record n { lines = lines }) i) = refreshed_still n lines i settled still in
    subst (λ (m : Net). Tells n (all_refreshed numbers m)) (sym one.same) (all_still numbers n one.lines settled one.still)

-- ---- the second half

-- what is left of such lines: where no frame was, none is
record Leaves (n : Net) (lines : List Wire) (m : Net) : Type 0 where
  pub after : List Wire
  pub same : m ≡ record n { lines = after }
  pub still : AreStill n after
  pub none : (l : ℕ) (d : Direction) → frames_on d (wire_at lines l) ≡ [] → frames_on d (wire_at after l) ≡ []

ignored_at : (m : Net) (i q : ℕ) (o : Option State) (f : Frame) → imp_at m.imps i ≡ o → Ignores o q f → at_imp (imp_at m.imps i) i (λ s. from_line s q f) m ≡ m
ignored_at m i q None f is ignores = ap (λ (o : Option State). at_imp o i (λ s. from_line s q f) m) is
ignored_at m i q (Some s) f is ignores = rests_at m i _ s _ refl is ignores

first_ignored : (n : Net) (lines : List Wire) (l : ℕ) (d : Direction) (o : Option Frame) → AreStill n lines → slice_get (frames_on d (wire_at lines l)) 0 ≡ o → IfSome o (λ f. Harmless n l d f) → delivered (record n { lines = lines }) l d o ≡ record n { lines = lines }
first_ignored n lines l d None still is ok = refl
first_ignored n lines l d (Some f) still is ok =
    let m : Net = record n { lines = lines } in
    let far : far_end d (wire_at lines l) ≡ far_end d (wire_at n.lines l) = far_alike lines _ l d still.alike in
    let port : port_of lines (far_end d (wire_at lines l)) l ≡ port_of n.lines (far_end d (wire_at n.lines l)) l =
    ap (λ (j : ℕ). port_of lines j l) far ∙ port_alike lines _ _ l still.alike in
    ap (λ (j : ℕ). at_imp (imp_at n.imps j) j (λ s. from_line s (port_of lines (far_end d (wire_at lines l)) l) f) m) far
    ∙ (ap (λ (q : ℕ). at_imp (imp_at n.imps (far_end d (wire_at n.lines l))) (far_end d (wire_at n.lines l)) (λ s. from_line s q f) m) port
    ∙ ignored_at m _ _ _ f refl ok)

first_of : (n : Net) (l : ℕ) (d : Direction) (frames : List Frame) → AllByRecursion (Harmless n l d) frames → IfSome (slice_get frames 0) (λ f. Harmless n l d f)
first_of n l d [] all = tt
first_of n l d (f ∷ frames) all = all.0

others_of : (P : Frame → Type 0) (frames : List Frame) → AllByRecursion P frames → AllByRecursion P (without_at 0 frames)
others_of P [] all = tt
others_of P (f ∷ frames) all = all.1

none_left : (frames : List Frame) → frames ≡ [] → without_at 0 frames ≡ []
none_left [] is = refl
none_left (f ∷ frames) is = cc

dropped_all : (n : Net) (l : ℕ) (d e : Direction) (w : Wire) → AllByRecursion (Harmless n l e) (frames_on e w) → AllByRecursion (Harmless n l e) (frames_on e (dropping d 0 w))
dropped_all n l way.Forward way.Forward w all = others_of _ _ all
dropped_all n l way.Forward way.Back w all = all
dropped_all n l way.Back way.Forward w all = all
dropped_all n l way.Back way.Back w all = others_of _ w.back all

dropped_none : (d e : Direction) (w : Wire) → frames_on e w ≡ [] → frames_on e (dropping d 0 w) ≡ []
dropped_none way.Forward way.Forward w none = none_left _ none
dropped_none way.Forward way.Back w none = none
dropped_none way.Back way.Forward w none = none
dropped_none way.Back way.Back w none = none_left w.back none

next_still : (n : Net) (lines : List Wire) (l : ℕ) (d : Direction) → AreStill n lines → AreStill n (set lines l (dropping d 0 (wire_at lines l)))
next_still n lines l d still = record {
  alike = record { ends = emptied_set lines l _ (emptied_dropping d _) ∙ still.alike.ends };
  harmless = λ m e. at_set (λ (h : ℕ) (w : Wire). AllByRecursion (Harmless n h e) (frames_on e w)) lines l m (dropping d 0 (wire_at lines l)) no_wire (still.harmless m e) (dropped_all n l d e _ (still.harmless l e));
}

none_dropped : (lines : List Wire) (l m : ℕ) (d e : Direction) → frames_on e (wire_at lines m) ≡ [] → frames_on e (wire_at (set lines l (dropping d 0 (wire_at lines l))) m) ≡ []
none_dropped [] l m d e none = none
none_dropped (w ∷ ws) zero zero d e none = dropped_none d e w none
none_dropped (w ∷ ws) zero (suc m) d e none = none
none_dropped (w ∷ ws) (suc l) zero d e none = none
none_dropped (w ∷ ws) (suc l) (suc m) d e none = none_dropped ws l m d e none

both_ways : (P : Direction → Type 0) → P way.Forward → P way.Back → (d : Direction) → P d
both_ways P forward back way.Forward = forward
both_ways P forward back way.Back = back

carried_one : (n : Net) (lines : List Wire) (l : ℕ) (d : Direction) → AreStill n lines → drop_frame (deliver (record n { lines = lines }) l d 0) l d 0 ≡ record n { lines = set lines l (dropping d 0 (wire_at lines l)) }
carried_one n lines l d still =
    let frames : List Frame = frames_on d (wire_at lines l) in
    ap (λ (m : Net). drop_frame m l d 0) (first_ignored n lines l d _ still refl (first_of n l d frames (still.harmless l d)))

fewer_frames : (frames : List Frame) (count : ℕ) → length frames ≡ suc count → length (without_at 0 frames) ≡ count
fewer_frames [] count is = absurd (omega (arith, is))
fewer_frames (f ∷ frames) count is = omega (arith, is)

fewer_on : (d : Direction) (w : Wire) (count : ℕ) → length (frames_on d w) ≡ suc count → length (frames_on d (dropping d 0 w)) ≡ count
fewer_on way.Forward w count is = fewer_frames _ count is
fewer_on way.Back w count is = fewer_frames w.back count is

fewer : (lines : List Wire) (l : ℕ) (d : Direction) (count : ℕ) → length (frames_on d (wire_at lines l)) ≡ suc count → length (frames_on d (wire_at (set lines l (dropping d 0 (wire_at lines l))) l)) ≡ count
fewer [] l d count is = absurd (omega (arith, is, ap (λ (frames : List Frame). length frames) (no_frame_in d)))
fewer (w ∷ ws) zero d count is = fewer_on d w count is
fewer (w ∷ ws) (suc l) d count is = fewer ws l d count is

empty_of : (frames : List Frame) → length frames ≡ 0 → frames ≡ []
empty_of [] none = refl
empty_of (f ∷ frames) none = absurd (omega (arith, none))

-- the turn of a directed line
record Turned (n : Net) (lines : List Wire) (l : ℕ) (d : Direction) (m : Net) : Type 0 where
  pub leaves : Leaves n lines m
  pub empty : frames_on d (wire_at leaves.after l) ≡ []

carried_out : (count : ℕ) (n : Net) (lines : List Wire) (l : ℕ) (d : Direction) → AreStill n lines → length (frames_on d (wire_at lines l)) ≡ count → Turned n lines l d (carried count l d (record n { lines = lines }))
carried_out zero n lines l d still is = record {
  leaves = record { after = lines; same = refl; still = still; none = λ m e none. none };
  empty = empty_of _ is;
}
carried_out (suc count) n lines l d still is =
    let next : List Wire = set lines l (dropping d 0 (wire_at lines l)) in
    let rest : Turned n next l d (carried count l d (record n { lines = next })) = carried_out count n next l d (next_still n lines l d still) (fewer lines l d count is) in
    let both : Turned n lines l d (carried count l d (record n { lines = next })) = record {
      leaves = record { after = rest.leaves.after; same = rest.leaves.same; still = rest.leaves.still; none = λ m e none. rest.leaves.none m e (none_dropped lines l m d e none) };
      empty = rest.empty;
    } in
    subst (λ (m : Net). Turned n lines l d (carried count l d m)) (sym (carried_one n lines l d still)) both

-- both turns of a line
record LineTurned (n : Net) (lines : List Wire) (l : ℕ) (m : Net) : Type 0 where
  pub leaves : Leaves n lines m
  pub empty : (d : Direction) → frames_on d (wire_at leaves.after l) ≡ []

line_turned : (n : Net) (lines : List Wire) (l : ℕ) → AreStill n lines → LineTurned n lines l (turn_of l way.Back (turn_of l way.Forward (record n { lines = lines })))
line_turned n lines l still =
    let first : Turned n lines l way.Forward (turn_of l way.Forward (record n { lines = lines })) = carried_out _ n lines l _ still refl in
    let mid : List Wire = first.leaves.after in
    let rest : Turned n mid l way.Back (turn_of l way.Back (record n { lines = mid })) = carried_out _ n mid l _ first.leaves.still refl in
    let both : LineTurned n lines l (turn_of l way.Back (record n { lines = mid })) = record {
      leaves = record { after = rest.leaves.after; same = rest.leaves.same; still = rest.leaves.still; none = λ m e none. rest.leaves.none m e (first.leaves.none m e none) };
      empty = both_ways _ (rest.leaves.none l way.Forward first.empty) rest.empty;
    } in
    subst (λ (m : Net). LineTurned n lines l (turn_of l way.Back m)) (sym first.leaves.same) both

-- the turns of all lines from one on
record AllTurned (n : Net) (lines : List Wire) (start count : ℕ) (m : Net) : Type 0 where
  pub leaves : Leaves n lines m
  pub empty : (l : ℕ) (d : Direction) → start ≤ l → l < start + count → frames_on d (wire_at leaves.after l) ≡ []

all_turned : (count start : ℕ) (n : Net) (lines : List Wire) → AreStill n lines → AllTurned n lines start count (all_turns (range_with_len start count) (record n { lines = lines }))
all_turned zero start n lines still = record {
  leaves = record { after = lines; same = refl; still = still; none = λ m e none. none };
  empty = λ l d from below. absurd (omega (arith, from, below));
}
all_turned (suc count) start n lines still =
    let first : LineTurned n lines start (turn_of start way.Back (turn_of start way.Forward (record n { lines = lines }))) = line_turned n lines start still in
    let mid : List Wire = first.leaves.after in
    let rest : AllTurned n mid (start + 1) count (all_turns (range_with_len (start + 1) count) (record n { lines = mid })) = all_turned count (start + 1) n mid first.leaves.still in
    let both : AllTurned n lines start (suc count) (all_turns (range_with_len (start + 1) count) (record n { lines = mid })) = record {
      leaves = record { after = rest.leaves.after; same = rest.leaves.same; still = rest.leaves.still; none = λ m e none. rest.leaves.none m e (first.leaves.none m e none) };
      empty = λ l d from below. one_or_later (l == start) l start count d rest.leaves.after refl from below (rest.leaves.none start d (first.empty d)) (rest.empty l d);
    } in
    subst (λ (m : Net). AllTurned n lines start (suc count) (all_turns (range_with_len (start + 1) count) m)) (sym first.leaves.same) both
  where
    one_or_later : (b : Bool) (l start count : ℕ) (d : Direction) (after : List Wire) → (l == start) ≡ b → start ≤ l → l < start + suc count → frames_on d (wire_at after start) ≡ []
        → (start + 1 ≤ l → l < start + 1 + count → frames_on d (wire_at after l) ≡ []) → frames_on d (wire_at after l) ≡ []
    one_or_later true l start count d after is from below here later = ap (λ (i : ℕ). frames_on d (wire_at after i)) (eqb-true l start is) ∙ here
    one_or_later false l start count d after is from below here later = later (grind (arith, nat_tests, is, from)) (omega (arith, below))

-- ---- the round

all_none : (P : Frame → Type 0) (frames : List Frame) → frames ≡ [] → AllByRecursion P frames
all_none P [] is = tt
all_none P (f ∷ frames) is = absurd cc

emptied_same : (lines : List Wire) → ((l : ℕ) (d : Direction) → l < length lines → frames_on d (wire_at lines l) ≡ []) → map emptied lines ≡ lines
emptied_same [] none = refl
emptied_same (w ∷ ws) none =
    let same : emptied w ≡ w =
    ap (λ (frames : List Frame). record w { forward = frames; back = [] }) (sym (none 0 way.Forward (omega arith))) ∙ ap (λ (frames : List Frame). record w { back = frames }) (sym (none 0 way.Back (omega arith))) in
    ap (λ (x : Wire). x ∷ map emptied ws) same ∙ ap (λ (xs : List Wire). w ∷ xs) (emptied_same ws (λ l d within. none (suc l) d (omega (arith, within))))

at_the_start : (n : Net) → IsSettled n → AreStill n n.lines
at_the_start n settled = record { alike = record { ends = refl }; harmless = λ l d. all_none (Harmless n l d) (frames_on d (wire_at n.lines l)) (settled.empty l d) }

settled_rests : (n : Net) → IsSettled n → quiet_round n ≡ n
settled_rests n settled =
    let told : Tells n (all_refreshed (range_with_len 0 (length n.imps)) n) = all_still (range_with_len 0 (length n.imps)) n n.lines settled (at_the_start n settled) in
    let out : AllTurned n told.lines 0 (length n.lines) (all_turns (range_with_len 0 (length n.lines)) (record n { lines = told.lines })) = all_turned (length n.lines) 0 n told.lines told.still in
    let after : List Wire = out.leaves.after in
    let many : length after ≡ length n.lines =
    sym (length-map after emptied) ∙ (ap (λ (ws : List Wire). length ws) out.leaves.still.alike.ends ∙ length-map n.lines emptied) in
    let here : map emptied after ≡ after = emptied_same after (λ l d within. out.empty l d (omega arith) (omega (arith, within, many))) in
    let there : map emptied n.lines ≡ n.lines = emptied_same n.lines (λ l d within. settled.empty l d) in
    ap (all_turns (range_with_len 0 (length n.lines))) told.same ∙ (out.leaves.same ∙ ap (λ (ws : List Wire). record n { lines = ws }) (sym here ∙ (out.leaves.still.alike.ends ∙ there)))

-- ---- what the code finds out

no_length : (frames : List Frame) → (length frames == 0) ≡ true → frames ≡ []
no_length frames none = empty_of frames (eqb-true (length frames) 0 none)

silent_on : (d : Direction) (w : Wire) → is_silent w ≡ true → frames_on d w ≡ []
silent_on way.Forward w silent = no_length _ (and_parts (length w.forward == 0) (length w.back == 0) silent).0
silent_on way.Back w silent = no_length w.back (and_parts (length w.forward == 0) (length w.back == 0) silent).1

waiting_of : (o : Option State) → waits_at o ≡ true → IfSome o (λ s. pump [] s ≡ ignored s)
waiting_of None none = tt
waiting_of (Some s) all = only_rests s all

silent_at : (lines : List Wire) (l : ℕ) (d : Direction) → list_all is_silent lines ≡ true → frames_on d (wire_at lines l) ≡ []
silent_at [] l d all = no_frame_in d
silent_at (w ∷ ws) zero d all = silent_on d w (and_parts (is_silent w) (list_all is_silent ws) all).0
silent_at (w ∷ ws) (suc l) d all = silent_at ws l d (and_parts (is_silent w) (list_all is_silent ws) all).1

waiting_at : (imps : List (Option State)) (i : ℕ) → list_all waits_at imps ≡ true → IfSome (imp_at imps i) (λ s. pump [] s ≡ ignored s)
waiting_at [] i all = tt
waiting_at (o ∷ imps) zero all = waiting_of o (and_parts (waits_at o) (list_all waits_at imps) all).0
waiting_at (o ∷ imps) (suc i) all = waiting_at imps i (and_parts (waits_at o) (list_all waits_at imps) all).1

pub round_rests : (n : Net) → list_all is_silent n.lines ≡ true → list_all waits_at n.imps ≡ true → ((l : ℕ) (d : Direction) → l < length n.lines → IsStillOn n l d) → quiet_round n ≡ n
round_rests n silent none still = settled_rests n record { empty = λ l d. silent_at n.lines l d silent; waits = λ i. waiting_at n.imps i none; still = still }

-- an end that is down
pub near_down : (s t : State) (p q : ℕ) → (port_at s.ports p).up ≡ false → IsStill (Some s) p (Some t) q
near_down s t p q down = λ up there. absurd (cc)

pub far_down : (s t : State) (p q : ℕ) → (port_at t.ports q).up ≡ false → IsStill (Some s) p (Some t) q
far_down s t p q down = λ up there. absurd (cc)

pub still_at : (n : Net) (l : ℕ) (d : Direction) (s t : Option State) (p q : ℕ) → s ≡ imp_at n.imps (near_end d (wire_at n.lines l)) → t ≡ imp_at n.imps (far_end d (wire_at n.lines l))
    → p ≡ port_of n.lines (near_end d (wire_at n.lines l)) l → q ≡ port_of n.lines (far_end d (wire_at n.lines l)) l → IsStill s p t q → IsStillOn n l d
still_at n l d s t p q from to near far still =
    let w : Wire = wire_at n.lines l in
    subst (λ (o : Option State). IsStill o (port_of n.lines (near_end d w) l) (imp_at n.imps (far_end d w)) (port_of n.lines (far_end d w) l)) from
    (subst (λ (o : Option State). IsStill s (port_of n.lines (near_end d w) l) o (port_of n.lines (far_end d w) l)) to
    (subst (λ (k : ℕ). IsStill s k t (port_of n.lines (far_end d w) l)) near (subst (λ (k : ℕ). IsStill s p t k) far still)))

pub both_still : (n : Net) (l : ℕ) → IsStillOn n l way.Forward → IsStillOn n l way.Back → (d : Direction) → IsStillOn n l d
both_still n l forward back = both_ways _ forward back

one_by : (b : Bool) (n : Net) (k i : ℕ) (d : Direction) → (i == k) ≡ b → ((j : ℕ) (e : Direction) → j < k → IsStillOn n j e) → ((e : Direction) → IsStillOn n k e) → i < k + 1 → IsStillOn n i d
one_by true n k i d is earlier here below = subst (λ (j : ℕ). IsStillOn n j d) (sym (eqb-true i k is)) (here d)
one_by false n k i d is earlier here below = earlier i d (grind (arith, nat_tests, is, below))

pub one_more : (n : Net) (k : ℕ) (b : Bool) → b ≡ true → ((j : ℕ) (e : Direction) → j < k → IsStillOn n j e) → (b ≡ true → (e : Direction) → IsStillOn n k e) → (i : ℕ) (d : Direction) → i < k + 1 → IsStillOn n i d
one_more n k b said earlier here = λ i d below. one_by (i == k) n k i d refl earlier (here said) below
