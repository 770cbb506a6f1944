-- What the services of a host did in a call, put together from its steps.
use Rattle.net_sim.proofs.Common.{◌≡◌, ℕ, zero, suc, List, [], ◌∷◌, Option, Some, None, Ok, Err, OnOk, slice_set, refl, ap, sym, subst, ◌∙◌, append-nil, Host, Notice, ServiceDeskState, ServicesState, opening_desk, Reported, Kept, all_asked, all_reported, all_told, AreDone, Serves, Sits, ServiceSeat, Seat, NcpState, NcpFault, Request}
use Rattle.std.proofs.Common.{Result, slice_index_or}
use Rattle.std.proofs.lemmas.List.{get_or-set_same, set-get_or}
use Rattle.host_services.specs.Turns.{passed_by, services_told}
use Rattle.net_sim.specs.Inside.Parts.{IsDone, IsSettled}
use Rattle.net_sim.specs.World.{turn_of}
use Rattle.sockets.specs.Calls.{Turns}

pub done_of : (h : Host) (t : ServicesState × ServiceDeskState) (s : ServicesState) (d : ServiceDeskState) (before k1 : Kept) (p : NcpState) (asked : List Request) (reports : List Reported) → t ≡ (s, d) → p ≡ d.program → asked ≡ d.asked
    → reports ≡ d.reports → k1 ≡ all_reported reports (all_asked h asked before) → IsDone h t before p s k1
done_of h t s d before k1 p asked reports e program a r kept = record {
  program_is = program ∙ ap (λ (x : ServicesState × ServiceDeskState). x.1.program) (sym e);
  services_are = ap (λ (x : ServicesState × ServiceDeskState). x.0) (sym e);
  kept_is = kept ∙ ap (λ (xs : List Request). all_reported reports (all_asked h xs before)) a ∙ ap (λ (rs : List Reported). all_reported rs (all_asked h d.asked before)) r
      ∙ ap (λ (x : ServicesState × ServiceDeskState). all_reported x.1.reports (all_asked h x.1.asked before)) (sym e);
}

-- the same at the places of a host's seat and its services
all_done : (h : Host) (place : ℕ) (s : NcpState) (x after : ServicesState) (t : ServicesState × ServiceDeskState) (seats seats1 : List Seat) (all all1 : List ServiceSeat) (before k1 : Kept) (p : NcpState)
    → Sits h place s seats → Serves h place x all → IsDone h t before p after k1 → seats1 ≡ slice_set seats place (record { host = h; program = Some p }) → all1 ≡ slice_set all place (record { host = h; services = after })
    → AreDone h t seats all before seats1 all1 k1
all_done h place s x after t seats seats1 all all1 before k1 p sits serves d e f = record {
  seats_are = e ∙ ap (λ (y : NcpState). slice_set seats place (record { host = h; program = Some y })) d.program_is ∙ sits.set (Some t.1.program);
  services_are = f ∙ ap (λ (y : ServicesState). slice_set all place (record { host = h; services = y })) d.services_are ∙ serves.set t.0;
  kept_is = d.kept_is;
}

same_some : (a b : NcpState) → ◌≡◌ {A = Option NcpState} (Some a) (Some b) → a ≡ b
same_some a b e = ap or_a e where
  or_a : Option NcpState → NcpState
  or_a None = a
  or_a (Some x) = x

set_twice : {A : Type 0} (xs : List A) (i : ℕ) (a b : A) → slice_set (slice_set xs i a) i b ≡ slice_set xs i b
set_twice [] zero a b = refl
set_twice [] (suc i) a b = refl
set_twice (x ∷ xs) zero a b = refl
set_twice {A} (x ∷ xs) (suc i) a b = ap (λ (ys : List A). x ∷ ys) (set_twice xs i a b)

-- a seat that gave its program away has one again
put_back : (h : Host) (place : ℕ) (s p : NcpState) (q : Option NcpState) (seats : List Seat) (o u : Seat) → Sits h place s seats → o ≡ slice_index_or seats place o
    → u ≡ slice_index_or (slice_set seats place (record { host = o.host; program = q })) place u
    → slice_set (slice_set seats place (record { host = o.host; program = q })) place (record { host = u.host; program = Some p }) ≡ slice_set seats place (record { host = h; program = Some p })
put_back h place s p q seats o u sits o_is u_is =
    let a : Seat = record { host = o.host; program = q } in
    let mine : o.host ≡ h = ap (λ (y : Seat). y.host) (o_is ∙ sits.is o) in
    let got : u ≡ record { host = o.host; program = q } = u_is ∙ get_or-set_same seats place a u sits.within in
    ap (λ (g : Host). slice_set (slice_set seats place (record { host = o.host; program = q })) place (record { host = g; program = Some p })) (ap (λ (y : Seat). y.host) got ∙ mine)
    ∙ set_twice seats place a (record { host = h; program = Some p })

-- a call that took a host's program out of its seat, let its services have their turns, and put it back
pub call_done : (h : Host) (place : ℕ) (s taken p : NcpState) (x : ServicesState) (q : Option NcpState) (seats : List Seat) (all : List ServiceSeat) (o u : Seat) (w y : ServiceSeat) (k1 : Kept)
    (turn : Host → ServicesState → NcpState → ServicesState × ServiceDeskState) (before : Host → NcpState → Kept)
    → Sits h place s seats → Serves h place x all → o ≡ slice_index_or seats place o → u ≡ slice_index_or (slice_set seats place (record { host = o.host; program = q })) place u → w ≡ slice_index_or all place w
    → o.program ≡ Some taken → y.host ≡ w.host → IsDone w.host (turn w.host w.services taken) (before w.host taken) p y.services k1
    → AreDone h (turn h x s) seats all (before h s) (slice_set (slice_set seats place (record { host = o.host; program = q })) place (record { host = u.host; program = Some p })) (slice_set all place y) k1
call_done h place s taken p x q seats all o u w y k1 turn before sits serves o_is u_is w_is had host d =
    let same : taken ≡ s = same_some taken s (sym had ∙ ap (λ (z : Seat). z.program) (o_is ∙ sits.is o)) in
    let old : w ≡ record { host = h; services = x } = w_is ∙ serves.is w in
    let D : ServiceSeat → NcpState → Type 0 = λ z t. IsDone z.host (turn z.host z.services t) (before z.host t) p y.services k1 in
    let here : IsDone h (turn h x s) (before h s) p y.services k1 = subst (λ (t : NcpState). D (record { host = h; services = x }) t) same (subst (λ (z : ServiceSeat). D z taken) old d) in
    let new : y ≡ record { host = h; services = y.services } = ap (λ (g : Host). with_host g y.services) (host ∙ ap (λ (z : ServiceSeat). z.host) old) in
    all_done h place s x y.services (turn h x s) seats (slice_set (slice_set seats place (record { host = o.host; program = q })) place (record { host = u.host; program = Some p })) all (slice_set all place y) (before h s) k1 p sits serves here
    (put_back h place s p q seats o u sits o_is u_is) (ap (λ (z : ServiceSeat). slice_set all place z) new) where
      with_host : Host → ServicesState → ServiceSeat
      with_host g z = record { host = g; services = z }

pub same_number : (a b : ℕ) → ◌≡◌ {A = Option ℕ} (Some a) (Some b) → a ≡ b
same_number a b e = ap or_a e where
  or_a : Option ℕ → ℕ
  or_a None = a
  or_a (Some x) = x

-- ---- a call at one seat

abbrev seat_of_host : Host → NcpState → Seat
seat_of_host g s = record { host = g; program = Some s }

abbrev services_of_host : Host → ServicesState → ServiceSeat
services_of_host h x = record { host = h; services = x }

-- after the services had their turns
settled_of : (h g : Host) (t : ServicesState × ServiceDeskState) (before k1 : Kept) (p : NcpState) (seat : Seat) (y : ServiceSeat) → IsDone h t before p y.services k1 → y.host ≡ h → seat ≡ record { host = g; program = Some p }
    → IsSettled h g t before seat y k1
settled_of h g t before k1 p seat y d host is = record {
  seat_is = is ∙ ap (λ (s : NcpState). seat_of_host g s) d.program_is;
  services_are = ap (λ (x : Host). services_of_host x y.services) host ∙ ap (λ (x : ServicesState). services_of_host h x) d.services_are;
  kept_is = d.kept_is;
}

-- services that are notified of nothing do nothing
told_none : (h g : Host) (n : ℕ) (x : ServicesState) (s : NcpState) (k k1 : Kept) (seat : Seat) (y : ServiceSeat) → seat ≡ record { host = g; program = Some s } → y ≡ record { host = h; services = x } → k1 ≡ k
    → IsSettled h g (turn_of h n x (s, [])) k seat y k1
unfolding services_told
told_none h g n x s k k1 seat y is has same = record {
  seat_is = is;
  services_are = has;
  kept_is = same ∙ ap (λ (rs : List Reported). with_reports rs) (sym (append-nil k.book.reports));
} where
  with_reports : List Reported → Kept
  with_reports rs = record k { book = record k.book { reports = rs } }

pub nothing_told : (h g : Host) (n : ℕ) (x : ServicesState) (s : NcpState) (ns : List Notice) (k k1 : Kept) (seat : Seat) (y : ServiceSeat) → ns ≡ [] → seat ≡ record { host = g; program = Some s } → y ≡ record { host = h; services = x } → k1 ≡ k
    → IsSettled h g (turn_of h n x (s, ns)) (all_told h ns k) seat y k1
nothing_told h g n x s ns k k1 seat y none is has same =
    subst (λ (ms : List Notice). IsSettled h g (turn_of h n x (s, ms)) (all_told h ms k) seat y k1) (sym none) (told_none h g n x s k k1 seat y is has same)

-- the same, of what was written down
pub nothing_settled : {E : Type 0} (r : Result (Unit {0}) E) (h g : Host) (n : ℕ) (x : ServicesState) (old : Option NcpState) (ns : List Notice) (k k1 : Kept) (seat : Seat) (y : ServiceSeat) → ns ≡ [] → seat ≡ record { host = g; program = old }
    → y ≡ record { host = h; services = x } → OnOk r (k1 ≡ k) → OnOk r ((s : NcpState) → old ≡ Some s → IsSettled h g (turn_of h n x (s, ns)) (all_told h ns k) seat y k1)
nothing_settled (Ok tt) h g n x old ns k k1 seat y none is has same = λ s e. nothing_told h g n x s ns k k1 seat y none (is ∙ ap (λ (o : Option NcpState). seat_that g o) e) has same where
  seat_that : Host → Option NcpState → Seat
  seat_that f o = record { host = f; program = o }
nothing_settled (Err e) h g n x old ns k k1 seat y none is has same = tt

-- services that hear none of it do nothing either
deaf_told : (h g : Host) (n : ℕ) (x : ServicesState) (s : NcpState) (ns : List Notice) (k k1 : Kept) (seat : Seat) (y : ServiceSeat) → ((d : ServiceDeskState) → services_told ns x d ≡ passed_by ns x d)
    → seat ≡ record { host = g; program = Some s } → y ≡ record { host = h; services = x } → k1 ≡ k → IsSettled h g (turn_of h n x (s, ns)) k seat y k1
deaf_told h g n x s ns k k1 seat y deaf is has same =
    let passed : IsSettled h g (passed_by ns x (opening_desk h n s)) k seat y k1 = record {
      seat_is = is;
      services_are = has;
      kept_is = same ∙ ap (λ (rs : List Reported). with_reports rs) (sym (append-nil k.book.reports));
    } in
    subst (λ (t : ServicesState × ServiceDeskState). IsSettled h g t k seat y k1) (sym (deaf (opening_desk h n s))) passed where
      with_reports : List Reported → Kept
      with_reports rs = record k { book = record k.book { reports = rs } }

pub deaf_settled : {E : Type 0} (r : Result (Unit {0}) E) (h g : Host) (n : ℕ) (x : ServicesState) (old : Option NcpState) (ns : List Notice) (k k1 : Kept) (seat : Seat) (y : ServiceSeat)
    → ((d : ServiceDeskState) → services_told ns x d ≡ passed_by ns x d) → seat ≡ record { host = g; program = old } → y ≡ record { host = h; services = x } → OnOk r (k1 ≡ k)
    → OnOk r ((s : NcpState) → old ≡ Some s → IsSettled h g (turn_of h n x (s, ns)) k seat y k1)
deaf_settled (Ok tt) h g n x old ns k k1 seat y deaf is has same = λ s e. deaf_told h g n x s ns k k1 seat y deaf (is ∙ ap (λ (o : Option NcpState). seat_that g o) e) has same where
  seat_that : Host → Option NcpState → Seat
  seat_that f o = record { host = f; program = o }
deaf_settled (Err e) h g n x old ns k k1 seat y deaf is has same = tt

-- after a program was taken out of its seat, and the services had their turns
pub tended_settled : (h g : Host) (n : ℕ) (x : ServicesState) (old : Option NcpState) (taken s p : NcpState) (ns : List Notice) (before k1 : Kept) (seat : Seat) (y : ServiceSeat) → old ≡ Some taken → old ≡ Some s
    → IsDone h (turn_of h n x (taken, ns)) before p y.services k1 → y.host ≡ h → seat ≡ record { host = g; program = Some p } → IsSettled h g (turn_of h n x (s, ns)) before seat y k1
tended_settled h g n x old taken s p ns before k1 seat y had is d host put =
    let same : taken ≡ s = same_some taken s (sym had ∙ is) in
    settled_of h g (turn_of h n x (s, ns)) before k1 p seat y (subst (λ (t : NcpState). IsDone h (turn_of h n x (t, ns)) before p y.services k1) same d) host put

-- what a call gives where memory doesn't run out
pub given_by : {X : Type 0} (turn : NcpState × List Notice) (r : Result X NcpFault) (new : NcpState) (x : X) (notices : X → List Notice) → r ≡ Ok x → Turns notices turn r new → turn ≡ (new, notices x)
given_by {X} turn r new x notices is gives = subst (λ (q : Result X NcpFault). Turns notices turn q new) is gives

-- what the program reported is what its call gives
pub turned_so : {E : Type 0} (r : Result (Unit {0}) E) (h g : Host) (n : ℕ) (x : ServicesState) (old mid : Option NcpState) (was p : NcpState) (ns : List Notice) (turn : NcpState → NcpState × List Notice) (k k1 : Kept) (seat : Seat) (y : ServiceSeat)
    → old ≡ Some was → turn was ≡ (p, ns) → mid ≡ Some p → OnOk r ((s : NcpState) → mid ≡ Some s → IsSettled h g (turn_of h n x (s, ns)) (all_told h ns k) seat y k1)
    → OnOk r ((s : NcpState) → old ≡ Some s → IsSettled h g (turn_of h n x (turn s)) (all_told h (turn s).1 k) seat y k1)
turned_so (Ok tt) h g n x old mid was p ns turn k k1 seat y had gives has settled = λ s e.
    let same : was ≡ s = same_some was s (sym had ∙ e) in
    subst (λ (t : NcpState × List Notice). IsSettled h g (turn_of h n x t) (all_told h t.1 k) seat y k1) (sym gives ∙ ap turn same) (settled p has)
turned_so (Err e) h g n x old mid was p ns turn k k1 seat y had gives has settled = tt

-- a program that served a request stays in its seat, and the services had their turns
pub answered_so : (h g : Host) (n : ℕ) (x : ServicesState) (mid : Seat) (p : NcpState) (ns ms : List Notice) (k k1 : Kept) (seat : Seat) (y : ServiceSeat) → mid ≡ record { host = g; program = Some p } → ns ≡ ms
    → ((s : NcpState) → mid.program ≡ Some s → IsSettled h mid.host (turn_of h n x (s, ns)) (all_told h ns k) seat y k1) → IsSettled h g (turn_of h n x (p, ms)) (all_told h ms k) seat y k1
answered_so h g n x mid p ns ms k k1 seat y is same settled =
    let d : IsSettled h mid.host (turn_of h n x (p, ns)) (all_told h ns k) seat y k1 = settled p (ap (λ (z : Seat). z.program) is) in
    let here : IsSettled h g (turn_of h n x (p, ns)) (all_told h ns k) seat y k1 = subst (λ (f : Host). IsSettled h f (turn_of h n x (p, ns)) (all_told h ns k) seat y k1) (ap (λ (z : Seat). z.host) is) d in
    subst (λ (os : List Notice). IsSettled h g (turn_of h n x (p, os)) (all_told h os k) seat y k1) same here

-- what is refused changes nothing, at the places of a host's seat and its services
pub refused_at : {E : Type 0} (place : ℕ) (seats : List Seat) (all : List ServiceSeat) (o seat : Seat) (w y : ServiceSeat) (k k1 : Kept) (r q : Result (Unit {0}) E)
    → (r ≡ q) × ((seat ≡ slice_index_or seats place o) × ((y ≡ slice_index_or all place w) × (k1 ≡ k))) → (r ≡ q) × ((slice_set seats place seat ≡ seats) × ((slice_set all place y ≡ all) × (k1 ≡ k)))
refused_at place seats all o seat w y k k1 r q e =
    (e.0, (ap (λ (z : Seat). slice_set seats place z) e.1.0 ∙ set-get_or seats place o, (ap (λ (z : ServiceSeat). slice_set all place z) e.1.1.0 ∙ set-get_or all place w, e.1.1.1)))
