-- The seats of a world after one moment more.
use Rattle.net_sim.proofs.Common.{◌≡◌, Bool, true, false, if◌then◌else◌, List, [], ◌∷◌, ◌++◌, map, Option, Some, None, refl, ap, sym, subst, ◌∙◌, reverse_onto, Seen, step_crossings, up_at, Host, same_host, Crossing, NetEvent, both_ways, same_host-refl, NcpState, opening_state, Moment, Crossed, program, contacts_of, crossings_of, seat_in, Seat, all_turned, seat_of, seated, seats_turned, with_program}
use Rattle.std.specs.Prelude.{reverse}
use Rattle.interface.specs.Mailboxes as mail
use Rattle.interface.specs.declared.crossing.Crossing.TheVariants as crossing
use Rattle.interface.specs.declared.event.NetEvent.TheVariants as event
use Rattle.interface.proofs.lemmas.{same_host-true}
use Rattle.net_sim.specs.Mixed.{AreMixed}
use Rattle.net_sim.specs.Steps.{with_programs}

-- ---- finding a seat

found_by : (hosts hs : List Host) (moments : List Moment) (h g : Host) (seat : Seat) → (seat_of h (map (seat_in hosts moments) hs) ≡ Some seat → seat ≡ seat_in hosts moments h) → (b : Bool) → same_host h g ≡ b
    → seat_of h (map (seat_in hosts moments) (g ∷ hs)) ≡ Some seat → seat ≡ seat_in hosts moments h
found_by hosts hs moments h g seat rest true e is =
    let first : seat_in hosts moments g ≡ seat = ap (seat_or seat) (rw e at is) in
    sym first ∙ ap (λ (x : Host). seat_in hosts moments x) (sym (same_host-true h g e)) where
      seat_or : Seat → Option Seat → Seat
      seat_or d None = d
      seat_or d (Some s) = s
found_by hosts hs moments h g seat rest false e is = rest (rw e at is)

pub found_seat : (hosts hs : List Host) (moments : List Moment) (h : Host) (seat : Seat) → seat_of h (map (seat_in hosts moments) hs) ≡ Some seat → seat ≡ seat_in hosts moments h
found_seat hosts [] moments h seat is = absurd (let no : None ≡ Some seat = is in cc)
found_seat hosts (g ∷ hs) moments h seat is = found_by hosts hs moments h g seat (λ e. found_seat hosts hs moments h seat e) (same_host h g) refl is

-- a host with a seat is no stranger
pub found_plain : (strange : Host → Bool) (hosts hs : List Host) (moments : List Moment) (h : Host) (seat : Seat) → seat_of h (map (seat_in hosts moments) (with_programs strange hs)) ≡ Some seat → strange h ≡ false
found_plain strange hosts [] moments h seat is = absurd (let no : None ≡ Some seat = is in cc)
found_plain strange hosts (g ∷ hs) moments h seat is = by (λ later. found_plain strange hosts hs moments h seat later) (strange g) refl where
  first : (seat_of h (map (seat_in hosts moments) (with_programs strange hs)) ≡ Some seat → strange h ≡ false) → strange g ≡ false → (b : Bool) → same_host h g ≡ b → seat_of h (map (seat_in hosts moments) (g ∷ with_programs strange hs)) ≡ Some seat → strange h ≡ false
  first rest plain true same here = ap strange (same_host-true h g same) ∙ plain
  first rest plain false same here = rest (rw same at here)

  by : (seat_of h (map (seat_in hosts moments) (with_programs strange hs)) ≡ Some seat → strange h ≡ false) → (b : Bool) → strange g ≡ b → strange h ≡ false
  by rest true e = rest (rw e at is)
  by rest false e = first rest e (same_host h g) refl (rw e at is)

-- what isn't about hosts with programs changes none of their seats
pub plain_seats : (strange : Host → Bool) (hosts hs : List Host) (old new : List Moment) → ((g : Host) → strange g ≡ false → seat_in hosts old g ≡ seat_in hosts new g)
    → map (seat_in hosts old) (with_programs strange hs) ≡ map (seat_in hosts new) (with_programs strange hs)
plain_seats strange hosts [] old new each = refl
plain_seats strange hosts (g ∷ hs) old new each = by (plain_seats strange hosts hs old new each) (strange g) refl where
  by : map (seat_in hosts old) (with_programs strange hs) ≡ map (seat_in hosts new) (with_programs strange hs) → (b : Bool) → strange g ≡ b
      → map (seat_in hosts old) (with_programs strange (g ∷ hs)) ≡ map (seat_in hosts new) (with_programs strange (g ∷ hs))
  by rest true e = rw e rest
  by rest false e = rw e (ap (λ (s : Seat). s ∷ map (seat_in hosts old) (with_programs strange hs)) (each g e) ∙ ap (λ (ss : List Seat). seat_in hosts new g ∷ ss) rest)

-- ---- the seats of all hosts

pub all_seated : (hosts hs : List Host) (old new : List Moment) (h : Host) (p : Option NcpState) → ((g : Host) → with_program (same_host h g) p (seat_in hosts old g) ≡ seat_in hosts new g)
    → seated h p (map (seat_in hosts old) hs) ≡ map (seat_in hosts new) hs
all_seated hosts [] old new h p each = refl
all_seated hosts (g ∷ hs) old new h p each = ap (λ (s : Seat). s ∷ seated h p (map (seat_in hosts old) hs)) (each g) ∙ ap (λ (ss : List Seat). seat_in hosts new g ∷ ss) (all_seated hosts hs old new h p each)

pub same_host-sym : (g h : Host) → same_host g h ≡ same_host h g
same_host-sym g h = both_ways (same_host g h) (same_host h g)
    (λ e. subst (λ (x : Host). same_host x g ≡ true) (same_host-true g h e) (same_host-refl g))
    (λ e. subst (λ (x : Host). same_host x h ≡ true) (same_host-true h g e) (same_host-refl h))

-- a host that is up has this program now, and the others keep theirs
abbrev seat_with : Host → Bool → NcpState → Seat
seat_with g up s = record { host = g; program = if up then Some s else None }

point : (g : Host) (up : Bool) (s t new : NcpState) (b : Bool) → (b ≡ true → up ≡ true) → (b ≡ true → new ≡ t) → with_program b (Some new) (seat_with g up s) ≡ seat_with g up (if b then t else s)
point g up s t new true running same =
    let r : up ≡ true = running refl in
    rw r (ap (λ (x : NcpState). seat_with g true x) (same refl))
point g up s t new false running same = refl

-- the program of host `h` after a moment of its own
pub seated_at : (hosts : List Host) (moments : List Moment) (h mine : Host) (t : Host → NcpState) (new : NcpState) → mine ≡ h → mail.is_up hosts h (crossings_of moments) ≡ true → new ≡ t h
    → (g : Host) → with_program (same_host h g) (Some new) (seat_in hosts moments g) ≡ seat_with g (mail.is_up hosts g (crossings_of moments)) (if same_host g mine then t g else program g moments)
seated_at hosts moments h mine t new is up made g =
    let same : same_host h g ≡ same_host g mine = same_host-sym h g ∙ ap (λ (x : Host). same_host g x) (sym is) in
    let its : same_host g mine ≡ true → h ≡ g = λ e. sym is ∙ sym (same_host-true g mine e) in
    subst (λ (b : Bool). with_program b (Some new) (seat_in hosts moments g) ≡ seat_with g (mail.is_up hosts g (crossings_of moments)) (if same_host g mine then t g else program g moments)) (sym same)
    (point g (mail.is_up hosts g (crossings_of moments)) (program g moments) (t g) new (same_host g mine)
    (λ e. subst (λ (x : Host). mail.is_up hosts x (crossings_of moments) ≡ true) (its e) up) (λ e. made ∙ ap t (its e)))

-- ---- hosts that stop and start

stops_point : (g : Host) (up : Bool) (s : NcpState) (b : Bool) → with_program b None (seat_with g up s) ≡ seat_with g (if b then false else up) (if b then opening_state g else s)
stops_point g up s true = refl
stops_point g up s false = refl

starts_point : (h g : Host) (up : Bool) (s : NcpState) (b : Bool) → (b ≡ true → h ≡ g) → with_program b (Some (opening_state h)) (seat_with g up s) ≡ seat_with g (if b then true else up) (if b then opening_state g else s)
starts_point h g up s true is = ap (λ (x : Host). seat_with g true (opening_state x)) (is refl)
starts_point h g up s false is = refl

stops_at : (hosts : List Host) (moments : List Moment) (h g : Host) → with_program (same_host h g) None (seat_in hosts moments g) ≡ seat_in hosts (Crossed (crossing.Down h) ∷ moments) g
stops_at hosts moments h g =
    subst (λ (b : Bool). with_program b None (seat_in hosts moments g) ≡ seat_in hosts (Crossed (crossing.Down h) ∷ moments) g) (sym (same_host-sym h g))
    (stops_point g (mail.is_up hosts g (crossings_of moments)) (program g moments) (same_host g h))

starts_at : (hosts : List Host) (moments : List Moment) (h g : Host) → with_program (same_host h g) (Some (opening_state h)) (seat_in hosts moments g) ≡ seat_in hosts (Crossed (crossing.Up h) ∷ moments) g
starts_at hosts moments h g =
    subst (λ (b : Bool). with_program b (Some (opening_state h)) (seat_in hosts moments g) ≡ seat_in hosts (Crossed (crossing.Up h) ∷ moments) g) (sym (same_host-sym h g))
    (starts_point h g (mail.is_up hosts g (crossings_of moments)) (program g moments) (same_host g h) (λ e. sym (same_host-true g h e)))

abbrev pub IsTurn : Crossing → Type 0
IsTurn (crossing.Down h) = Unit {0}
IsTurn (crossing.Up h) = Unit {0}
IsTurn c = ⊥

-- what a host sends or takes
abbrev pub IsStrangers : Crossing → Type 0
IsStrangers (crossing.Down h) = ⊥
IsStrangers (crossing.Up h) = ⊥
IsStrangers c = Unit {0}

abbrev pub AreTurns : List Crossing → Type 0
AreTurns [] = Unit {0}
AreTurns (c ∷ cs) = IsTurn c × AreTurns cs

-- this many crossings more, newest first
abbrev pub with_crossings : List Crossing → List Moment → List Moment
with_crossings [] moments = moments
with_crossings (c ∷ cs) moments = Crossed c ∷ with_crossings cs moments

pub turned_seats : (hosts hs : List Host) (cs : List Crossing) (moments : List Moment) → AreTurns cs → all_turned cs (map (seat_in hosts moments) hs) ≡ map (seat_in hosts (with_crossings cs moments)) hs
turned_seats hosts hs [] moments t = refl
turned_seats hosts hs (crossing.Down h ∷ cs) moments t =
    ap (λ (seats : List Seat). seats_turned (crossing.Down h) seats) (turned_seats hosts hs cs moments t.1) ∙ all_seated hosts hs (with_crossings cs moments) (Crossed (crossing.Down h) ∷ with_crossings cs moments) h None (stops_at hosts (with_crossings cs moments) h)
turned_seats hosts hs (crossing.Up h ∷ cs) moments t =
    ap (λ (seats : List Seat). seats_turned (crossing.Up h) seats) (turned_seats hosts hs cs moments t.1) ∙ all_seated hosts hs (with_crossings cs moments) (Crossed (crossing.Up h) ∷ with_crossings cs moments) h (Some (opening_state h)) (starts_at hosts (with_crossings cs moments) h)
turned_seats hosts hs (crossing.Out m ∷ cs) moments t = absurd t.0
turned_seats hosts hs (crossing.In m ∷ cs) moments t = absurd t.0
turned_seats hosts hs (crossing.Answer kind f ∷ cs) moments t = absurd t.0

pub turned_crossings : (cs : List Crossing) (moments : List Moment) → crossings_of (with_crossings cs moments) ≡ cs ++ crossings_of moments
turned_crossings [] moments = refl
turned_crossings (c ∷ cs) moments = ap (λ (xs : List Crossing). c ∷ xs) (turned_crossings cs moments)

pub turned_contacts : (cs : List Crossing) (moments : List Moment) → contacts_of (with_crossings cs moments) ≡ contacts_of moments
turned_contacts [] moments = refl
turned_contacts (c ∷ cs) moments = turned_contacts cs moments

pub turned_mixed : (strange : Host → Bool) (hosts : List Host) (cs : List Crossing) (moments : List Moment) → AreTurns cs → AreMixed strange hosts moments → AreMixed strange hosts (with_crossings cs moments)
turned_mixed strange hosts [] moments t h = h
turned_mixed strange hosts (crossing.Down g ∷ cs) moments t h = ((λ off. tt), turned_mixed strange hosts cs moments t.1 h)
turned_mixed strange hosts (crossing.Up g ∷ cs) moments t h = ((λ off. tt), turned_mixed strange hosts cs moments t.1 h)
turned_mixed strange hosts (crossing.Out m ∷ cs) moments t h = absurd t.0
turned_mixed strange hosts (crossing.In m ∷ cs) moments t h = absurd t.0
turned_mixed strange hosts (crossing.Answer kind f ∷ cs) moments t h = absurd t.0

-- ---- what an event of the network adds

turns_append : (xs ys : List Crossing) → AreTurns xs → AreTurns ys → AreTurns (xs ++ ys)
turns_append [] ys h k = k
turns_append (x ∷ xs) ys h k = (h.0, turns_append xs ys h.1 k)

downs_turn : (hs : List Host) → AreTurns (reverse (map (λ h. crossing.Down h) hs))
downs_turn [] = tt
downs_turn (h ∷ hs) = subst (λ (xs : List Crossing). AreTurns xs) (sym (reverse_onto (map (λ g. crossing.Down g) hs) (crossing.Down h) [])) (turns_append (reverse (map (λ g. crossing.Down g) hs)) (crossing.Down h ∷ []) (downs_turn hs) (tt, tt))

pub step_turns : (seen : Seen) (e : NetEvent) → AreTurns (step_crossings seen e)
step_turns seen (event.HostDown h) = (tt, tt)
step_turns seen (event.HostUp h) = (tt, tt)
step_turns seen (event.ImpDown imp) = downs_turn (up_at seen imp)
step_turns seen e = tt
