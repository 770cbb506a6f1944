-- A host's services are where its seat is.
use Rattle.net_sim.proofs.Common.{◌≡◌, ℕ, zero, suc, ◌<◌, Bool, true, false, List, [], ◌∷◌, length, Option, Some, refl, ap, sym, subst, ◌∙◌, arith, Host, same_host, is_host, or_false, same_host-refl, NcpState, ServicesState, IsOnce, Serves, Sits, hosts_of, hosts_served, ServiceSeat, Seat, services_of, serviced}
use Rattle.std.proofs.lemmas.Bool.{or_left, or_right}
use Rattle.std.proofs.Common.{slice_index_or}

-- ---- a host that is none of these

not_there : (h : Host) (x : ServicesState) (all : List ServiceSeat) → is_host (hosts_served all) h ≡ false → serviced h x all ≡ all
not_there h x [] away = refl
not_there h x (s ∷ all) away =
    let t : (same_host h s.host ≡ false) × (is_host (hosts_served all) h ≡ false) = or_false (same_host h s.host) (is_host (hosts_served all) h) away in
    rw t.0 (ap (λ (rest : List ServiceSeat). s ∷ rest) (not_there h x all t.1))

-- ---- a host at a place

same_is : (g h : Host) → g ≡ h → same_host h g ≡ true
same_is g h is = subst (λ (x : Host). same_host h x ≡ true) (sym is) (same_host-refl h)

there : (hosts : List Host) (place : ℕ) (o h : Host) → place < length hosts → slice_index_or hosts place o ≡ h → is_host hosts h ≡ true
there [] place o h lt is = absurd (omega (arith, lt))
there (g ∷ hosts) zero o h lt is = or_left (same_host h g) (is_host hosts h) (same_is g h is)
there (g ∷ hosts) (suc place) o h lt is = or_right (same_host h g) (is_host hosts h) (there hosts place o h (omega (arith, lt)) is)

-- where one that is later is found, the first one is another
not_first : (g h : Host) (hosts : List Host) → ((x : Host) → same_host x g ≡ true → is_host hosts x ≡ false) → is_host hosts h ≡ true → (b : Bool) → same_host h g ≡ b → b ≡ false
not_first g h hosts once later true e = absurd (let no : is_host hosts h ≡ false = once h e in let both : true ≡ false = sym later ∙ no in cc)
not_first g h hosts once later false e = refl

abbrev of : Host → ServicesState → ServiceSeat
of g y = record { host = g; services = y }

-- the first of them
first_served : (h : Host) (x : ServiceSeat) (all : List ServiceSeat) → x.host ≡ h → is_host (hosts_served all) h ≡ false → Serves h 0 (services_of h (x ∷ all)) (x ∷ all)
first_served h x all is away =
    let e : same_host h x.host ≡ true = same_is x.host h is in
    let found : services_of h (x ∷ all) ≡ x.services = rw e refl in
    let eta : x ≡ of h x.services = ap (λ (g : Host). of g x.services) is in
    let whole : (after : ServicesState) → serviced h after (x ∷ all) ≡ of x.host after ∷ all = λ after. rw e (ap (λ (rest : List ServiceSeat). of x.host after ∷ rest) (not_there h after all away)) in
    record {
      within = omega arith;
      is = λ d. eta ∙ ap (λ (y : ServicesState). of h y) (sym found);
      found = refl;
      set = λ after. ap (λ (g : Host). of g after ∷ all) (sym is) ∙ sym (whole after);
    }

-- one of the others
later_served : (h : Host) (x : ServiceSeat) (all : List ServiceSeat) (place : ℕ) → same_host h x.host ≡ false → Serves h place (services_of h all) all → Serves h (suc place) (services_of h (x ∷ all)) (x ∷ all)
later_served h x all place e rest =
    let found : services_of h (x ∷ all) ≡ services_of h all = rw e refl in
    let whole : (after : ServicesState) → serviced h after (x ∷ all) ≡ x ∷ serviced h after all = λ after. rw e refl in
    record {
      within = omega (arith, rest.within);
      is = λ d. rest.is d ∙ ap (λ (y : ServicesState). of h y) (sym found);
      found = refl;
      set = λ after. ap (λ (ys : List ServiceSeat). x ∷ ys) (rest.set after) ∙ sym (whole after);
    }

served_at : (h : Host) (all : List ServiceSeat) (place : ℕ) (o : Host) → IsOnce (hosts_served all) → place < length (hosts_served all) → slice_index_or (hosts_served all) place o ≡ h
    → Serves h place (services_of h all) all
served_at h [] place o once lt is = absurd (omega (arith, lt))
served_at h (x ∷ all) zero o once lt is = first_served h x all is (once.0 h (same_is x.host h is))
served_at h (x ∷ all) (suc place) o once lt is =
    let within : place < length (hosts_served all) = omega (arith, lt) in
    later_served h x all place (not_first x.host h (hosts_served all) once.0 (there (hosts_served all) place o h within is) (same_host h x.host) refl)
    (served_at h all place o once.1 within is)

-- ---- the place of a seat

seat_host : (seats : List Seat) (place : ℕ) (o : Host) (d : Seat) (h : Host) (p : Option NcpState) → place < length seats → slice_index_or seats place d ≡ record { host = h; program = p } → slice_index_or (hosts_of seats) place o ≡ h
seat_host [] place o d h p lt is = absurd (omega (arith, lt))
seat_host (x ∷ seats) zero o d h p lt is = ap (λ (s : Seat). s.host) is
seat_host (x ∷ seats) (suc place) o d h p lt is = seat_host seats place o d h p (omega (arith, lt)) is

as_many : (seats : List Seat) → length (hosts_of seats) ≡ length seats
as_many [] = refl
as_many (x ∷ seats) = ap suc (as_many seats)

pub serves : (h : Host) (place : ℕ) (s : NcpState) (seats : List Seat) (all : List ServiceSeat) → IsOnce (hosts_of seats) → hosts_served all ≡ hosts_of seats → Sits h place s seats → Serves h place (services_of h all) all
serves h place s seats all once order sits =
    let at : slice_index_or (hosts_served all) place h ≡ h =
    ap (λ (hs : List Host). slice_index_or hs place h) order ∙ seat_host seats place h (record { host = h; program = Some s }) h (Some s) sits.within (sits.is (record { host = h; program = Some s })) in
    let many : length (hosts_served all) ≡ length seats = ap (λ (hs : List Host). length hs) order ∙ as_many seats in
    served_at h all place h (subst IsOnce (sym order) once) (omega (arith, many, sits.within)) at
