-- Where a host sits.
use Rattle.net_sim.proofs.Common.{◌≡◌, ℕ, zero, suc, ◌+◌, ◌<◌, ◌≤◌, nat_lt, Bool, false, not, cond, List, [], ◌∷◌, length, Option, Some, None, find, refl, ap, sym, subst, ◌∙◌, arith, length-map, Host, same_host, is_host, or_false, one_found, changed_first, NcpState, IsOnce, Sits, hosts_of, WorldState, WorldFault, Seat, seat_of, seated, AtSeat}
use Rattle.std.proofs.Common.{true, is_some, Result, slice_index_or}
use Rattle.std.specs.List.{position, position_or_len}
use Rattle.std.proofs.lemmas.Bool.{ltb-false}
use Rattle.std.proofs.lemmas.List.{get_or-map, get_or_default}
use Rattle.std.proofs.lemmas.List.Folds.{list_any_at}
use Rattle.host_pairs.proofs.lemmas.{one_changed}
use Rattle.sockets.proofs.lemmas.{same_host-true}

-- what is found passes
found_by : (test : Seat → Bool) (x y : Seat) (rest : Option Seat) (b : Bool) → test x ≡ b → (rest ≡ Some y → test y ≡ true) → cond b (Some x) rest ≡ Some y → test y ≡ true
found_by test x y rest true e k h = let P : Seat → Type 0 = λ s. test s ≡ true in let same : x ≡ y = cc in subst P same e
found_by test x y rest false e k h = k h

found_passes : (test : Seat → Bool) (seats : List Seat) (y : Seat) → find test seats ≡ Some y → test y ≡ true
found_passes test [] y h = absurd (cc)
found_passes test (x ∷ seats) y h = found_by test x y (find test seats) (test x) refl (found_passes test seats y) h

-- a host that isn't among these isn't seated
pub absent : (h : Host) (p : Option NcpState) (seats : List Seat) → is_host (hosts_of seats) h ≡ false → seated h p seats ≡ seats
absent h p [] away = refl
absent h p (x ∷ seats) away =
    let t : (same_host h x.host ≡ false) × (is_host (hosts_of seats) h ≡ false) = or_false (same_host h x.host) (is_host (hosts_of seats) h) away in
    rw t.0 (ap (λ (s : List Seat). x ∷ s) (absent h p seats t.1))

-- of the first seat of a host all seats of it are made, where each host has one
first_by : (h : Host) (p : Option NcpState) (x : Seat) (seats : List Seat) → IsOnce (hosts_of (x ∷ seats)) → (b : Bool) → same_host h x.host ≡ b
    → changed_first (λ s. same_host h s.host) (λ s. record { host = s.host; program = p }) seats ≡ seated h p seats
    → changed_first (λ s. same_host h s.host) (λ s. record { host = s.host; program = p }) (x ∷ seats) ≡ seated h p (x ∷ seats)
first_by h p x seats once true e rest = rw e (ap (λ (s : List Seat). record { host = x.host; program = p } ∷ s) (sym (absent h p seats (once.0 h e))))
first_by h p x seats once false e rest = rw e (ap (λ (s : List Seat). x ∷ s) rest)

first_seated : (h : Host) (p : Option NcpState) (seats : List Seat) → IsOnce (hosts_of seats) → changed_first (λ s. same_host h s.host) (λ s. record { host = s.host; program = p }) seats ≡ seated h p seats
first_seated h p [] once = refl
first_seated h p (x ∷ seats) once = first_by h p x seats once (same_host h x.host) refl (first_seated h p seats once.1)

pub sits : (h : Host) (place : ℕ) (seat : Seat) (s : NcpState) (seats : List Seat) → IsOnce (hosts_of seats) → position (λ s. same_host h s.host) seats ≡ Some place → place < length seats
    → slice_index_or seats place seat ≡ seat → seat.program ≡ Some s → Sits h place s seats
sits h place seat s seats once at within there program =
    let found : seat_of h seats ≡ Some seat = one_found (λ s. same_host h s.host) place seat seats at ∙ ap (λ (x : Seat). Some x) there in
    let mine : h ≡ seat.host = same_host-true h seat.host (found_passes (λ s. same_host h s.host) seats seat found) in
    let is : ◌≡◌ {A = Seat} seat (record { host = h; program = Some s }) =
    ap (λ (g : Host). record { host = g; program = seat.program }) (sym mine) ∙ ap (λ (o : Option NcpState). record { host = h; program = o }) program in
    record {
      within = within;
      is = λ d. get_or_default seats place d seat within ∙ there ∙ is;
      found = found ∙ ap (λ (x : Seat). Some x) is;
      set = λ p. one_changed (λ s. same_host h s.host) place (λ s. record { host = s.host; program = p }) seat (record { host = h; program = p }) seats at
          (ap (λ (g : Host). record { host = g; program = p }) (mine ∙ ap (λ (x : Seat). x.host) (sym there)))
          ∙ first_seated h p seats once;
    }

pub some_program : (o : Option NcpState) → not (is_some o) ≡ false → (s : NcpState) × o ≡ Some s
some_program None h = absurd (cc)
some_program (Some s) h = (s, refl)

pub no_program : (o : Option NcpState) → not (is_some o) ≡ true → o ≡ None
no_program None h = refl
no_program (Some s) h = absurd (cc)

-- ---- an event at a host

pub sits_gives : {C : Type 0} (Gives : NcpState → Type 0) (h : Host) (place : ℕ) (s : NcpState) (old : WorldState C) (r : Result (Unit {0}) WorldFault) (new : WorldState C) → Sits h place s old.seats → Gives s
    → AtSeat Gives (seat_of h old.seats) old r new
sits_gives {C} Gives h place s old r new sits gives = subst (λ (o : Option Seat). AtSeat Gives o old r new) (sym sits.found) gives

-- ---- a host's seat at a place

listed : (h : Host) (seats : List Seat) (at : ℕ) (d : Seat) → at < length seats → same_host h (slice_index_or seats at d).host ≡ true → is_host (hosts_of seats) h ≡ true
listed h seats at d lt is =
    let long : length (hosts_of seats) ≡ length seats = length-map seats (λ (s : Seat). s.host) in
    list_any_at (same_host h) (hosts_of seats) at d.host (omega (arith, lt, long)) (ap (same_host h) (get_or-map (λ (s : Seat). s.host) seats at d d.host lt) ∙ is)

not_first : (h : Host) (x : Seat) (seats : List Seat) → IsOnce (hosts_of (x ∷ seats)) → is_host (hosts_of seats) h ≡ true → (b : Bool) → same_host h x.host ≡ b → same_host h x.host ≡ false
not_first h x seats once here true e = absurd (let f : true ≡ false = sym here ∙ once.0 h e in cc)
not_first h x seats once here false e = e

first_stands : (h : Host) (seats : List Seat) (at : ℕ) (d : Seat) → IsOnce (hosts_of seats) → at < length seats → same_host h (slice_index_or seats at d).host ≡ true
    → position_or_len (λ s. same_host h s.host) seats ≡ at
first_stands h [] at d once lt is = absurd (omega (arith, lt))
first_stands h (x ∷ seats) zero d once lt is = let here : same_host h x.host ≡ true = is in rw here refl
first_stands h (x ∷ seats) (suc at) d once lt is =
    let lower : at < length seats = omega (arith, lt) in
    let other : same_host h x.host ≡ false = not_first h x seats once (listed h seats at d lower is) (same_host h x.host) refl in
    let one : 1 + position_or_len (λ s. same_host h s.host) seats ≡ suc (position_or_len (λ s. same_host h s.host) seats) = omega arith in
    rw other (one ∙ ap suc (first_stands h seats at d once.1 lower is))

some_place : (b : Bool) (n at len : ℕ) → nat_lt n len ≡ b → n ≡ at → at < len → cond b (Some n) None ≡ Some at
some_place true n at len e same lt = ap (λ (k : ℕ). Some k) same
some_place false n at len e same lt = absurd (let le : len ≤ n = ltb-false n len e in omega (arith, le, same, lt))

-- where a host's seat is it is found
pub placed : (h : Host) (seats : List Seat) (at : ℕ) → IsOnce (hosts_of seats) → at < length seats → ((d : Seat) → same_host h (slice_index_or seats at d).host ≡ true)
    → position (λ s. same_host h s.host) seats ≡ Some at
placed h seats at once lt is =
    let d : Seat = record { host = h; program = None } in
    some_place (nat_lt (position_or_len (λ s. same_host h s.host) seats) (length seats)) (position_or_len (λ s. same_host h s.host) seats) at (length seats) refl (first_stands h seats at d once lt (is d)) lt
