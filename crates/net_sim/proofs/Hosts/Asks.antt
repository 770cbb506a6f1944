-- What services of a host ask for, as one moment after the other; and the services of all hosts.
use Rattle.net_sim.proofs.Common.{◌≡◌, ℕ, Bool, true, false, if◌then◌else◌, find, List, [], ◌∷◌, ◌++◌, map, length, Option, Some, None, refl, ap, sym, ◌∙◌, fold, All-cons, All-head, All-nil, All-tail, Host, same_host, Crossing, same_host-refl, NcpState, refusal, served, Request, MayAsk, NamePeers, NoneRefused, ServicesState, no_services, Called, Kept, all_asked, asked, contacts_asked, Moment, Asked, program, places, contacts_of, crossings_of, AreServed, seat_in, ServiceSeat, Seat, all_emptied, opening_services, services_in, services_of, serviced, with_program, with_services}
use Rattle.std.proofs.Common.{All}
use Rattle.interface.specs.Mailboxes as mail
use Rattle.interface.specs.declared.crossing.Crossing.TheVariants as crossing
use Rattle.host_services.specs.Named.{NamesPeer}
use Rattle.net_sim.specs.Mixed.{AreMixed}
use Rattle.net_sim.proofs.Hosts.Seats.{seated_at}

-- ---- moments

abbrev pub asks_of : Host → List Request → List Moment → List Moment
asks_of h [] moments = moments
asks_of h (r ∷ rs) moments = asks_of h rs (Asked h r ∷ moments)

pub asks_crossings : (h : Host) (rs : List Request) (moments : List Moment) → crossings_of (asks_of h rs moments) ≡ crossings_of moments
asks_crossings h [] moments = refl
asks_crossings h (r ∷ rs) moments = asks_crossings h rs (Asked h r ∷ moments)

pub asks_contacts : (h : Host) (rs : List Request) (k : Kept) (moments : List Moment) → length k.book.crossings ≡ places moments → k.book.contacts ≡ contacts_of moments
    → (all_asked h rs k).book.contacts ≡ contacts_of (asks_of h rs moments)
asks_contacts h [] k moments place same = same
asks_contacts h (r ∷ rs) k moments place same =
    asks_contacts h rs (asked h r k) (Asked h r ∷ moments) place
    (ap (λ (xs : List Called). xs ++ contacts_asked h (length k.book.crossings) r) same ∙ ap (λ (n : ℕ). contacts_of moments ++ contacts_asked h n r) place)

-- a seat is given a program twice
pub twice : (b : Bool) (p q : Option NcpState) (s : Seat) → with_program b q (with_program b p s) ≡ with_program b q s
twice true p q s = refl
twice false p q s = refl

same_if : (b : Bool) (s : NcpState) → (if b then s else s) ≡ s
same_if true s = refl
same_if false s = refl

-- a host that is up has the program that it has
pub same_each : (hosts : List Host) (moments : List Moment) (h : Host) (s : NcpState) → mail.is_up hosts h (crossings_of moments) ≡ true → program h moments ≡ s
    → (g : Host) → with_program (same_host h g) (Some s) (seat_in hosts moments g) ≡ seat_in hosts moments g
same_each hosts moments h s up is g =
    seated_at hosts moments h h (λ x. program x moments) s refl up (sym is) g ∙ ap (λ (x : NcpState). seat_here x) (same_if (same_host g h) (program g moments)) where
      seat_here : NcpState → Seat
      seat_here x = record { host = g; program = if mail.is_up hosts g (crossings_of moments) then Some x else None }

-- a program that is given again and again
then_each : (hosts : List Host) (h : Host) (p q : NcpState) (a b c : List Moment) (g : Host) → with_program (same_host h g) (Some p) (seat_in hosts a g) ≡ seat_in hosts b g
    → with_program (same_host h g) (Some q) (seat_in hosts b g) ≡ seat_in hosts c g → with_program (same_host h g) (Some q) (seat_in hosts a g) ≡ seat_in hosts c g
then_each hosts h p q a b c g one two =
    sym (twice (same_host h g) (Some p) (Some q) (seat_in hosts a g)) ∙ ap (λ (s : Seat). with_program (same_host h g) (Some q) s) one ∙ two

asked_program : (h : Host) (r : Request) (moments : List Moment) (s : NcpState) → program h moments ≡ s → program h (Asked h r ∷ moments) ≡ served s r
asked_program h r moments s is = by (same_host-refl h) where
  by : same_host h h ≡ true → program h (Asked h r ∷ moments) ≡ served s r
  by e = rw e (ap (λ (x : NcpState). served x r) is)

pub asks_mixed : (strange : Host → Bool) (hosts : List Host) (h : Host) (rs : List Request) (moments : List Moment) (s : NcpState) → mail.is_up hosts h (crossings_of moments) ≡ true → program h moments ≡ s → All MayAsk rs
    → NoneRefused s rs → AreMixed strange hosts moments → AreMixed strange hosts (asks_of h rs moments)
asks_mixed strange hosts h [] moments s up is each none t = t
asks_mixed strange hosts h (r ∷ rs) moments s up is each none t =
    let may : MayAsk r = All-head MayAsk r rs each in
    asks_mixed strange hosts h rs (Asked h r ∷ moments) (served s r) up (asked_program h r moments s is) (All-tail MayAsk r rs each) none.1
    ((λ off. (up, may.addressed, ap (λ (x : NcpState). refusal x r) is ∙ none.0, may.ranged)), t)

pub asks_each : (hosts : List Host) (h : Host) (rs : List Request) (moments : List Moment) (s : NcpState) → mail.is_up hosts h (crossings_of moments) ≡ true → program h moments ≡ s
    → (g : Host) → with_program (same_host h g) (Some (fold served s rs)) (seat_in hosts moments g) ≡ seat_in hosts (asks_of h rs moments) g
asks_each hosts h [] moments s up is g = same_each hosts moments h s up is g
asks_each hosts h (r ∷ rs) moments s up is g =
    then_each hosts h (served s r) (fold served (served s r) rs) moments (Asked h r ∷ moments) (asks_of h rs (Asked h r ∷ moments)) g
    (seated_at hosts moments h h (λ x. served (program x moments) r) (served s r) refl up (ap (λ (x : NcpState). served x r) (sym is)) g)
    (asks_each hosts h rs (Asked h r ∷ moments) (served s r) up (asked_program h r moments s is) g)

pub after_each : (hosts : List Host) (h : Host) (p q : NcpState) (a b c : List Moment) → ((g : Host) → with_program (same_host h g) (Some p) (seat_in hosts a g) ≡ seat_in hosts b g)
    → ((g : Host) → with_program (same_host h g) (Some q) (seat_in hosts b g) ≡ seat_in hosts c g) → (g : Host) → with_program (same_host h g) (Some q) (seat_in hosts a g) ≡ seat_in hosts c g
after_each hosts h p q a b c one two g = then_each hosts h p q a b c g (one g) (two g)

-- ---- the services of all hosts

abbrev HasNamed : ServiceSeat → Type 0
HasNamed s = NamePeers s.services

pub one_order : (b : Bool) (x : ServicesState) (s : ServiceSeat) → (with_services b x s).host ≡ s.host
one_order true x s = refl
one_order false x s = refl

pub same_order : (h : Host) (x : ServicesState) (all : List ServiceSeat) → map (λ (s : ServiceSeat). s.host) (serviced h x all) ≡ map (λ (s : ServiceSeat). s.host) all
same_order h x [] = refl
same_order h x (s ∷ all) =
    ap (λ (g : Host). g ∷ map (λ (y : ServiceSeat). y.host) (serviced h x all)) (one_order (same_host h s.host) x s) ∙ ap (λ (hs : List Host). s.host ∷ hs) (same_order h x all)

one_named : (b : Bool) (x : ServicesState) (s : ServiceSeat) → NamePeers x → HasNamed s → HasNamed (with_services b x s)
one_named true x s new old = new
one_named false x s new old = old

all_named : (h : Host) (x : ServicesState) (all : List ServiceSeat) → NamePeers x → All HasNamed all → All HasNamed (serviced h x all)
all_named h x [] new old = All-nil HasNamed
all_named h x (s ∷ all) new old =
    All-cons HasNamed (with_services (same_host h s.host) x s) (serviced h x all) (one_named (same_host h s.host) x s new (All-head HasNamed s all old)) (all_named h x all new (All-tail HasNamed s all old))

pub still_served : (hosts : List Host) (h : Host) (x : ServicesState) (all : List ServiceSeat) → NamePeers x → AreServed hosts all → AreServed hosts (serviced h x all)
still_served hosts h x all new old = record { order = same_order h x all ∙ old.order; named = all_named h x all new old.named }

pub emptied_served : (hosts : List Host) (cs : List Crossing) (all : List ServiceSeat) → AreServed hosts all → AreServed hosts (all_emptied cs all)
emptied_served hosts [] all old = old
emptied_served hosts (crossing.Down h ∷ cs) all old = still_served hosts h no_services (all_emptied cs all) (All-nil NamesPeer) (emptied_served hosts cs all old)
emptied_served hosts (crossing.Up h ∷ cs) all old = emptied_served hosts cs all old
emptied_served hosts (crossing.Out m ∷ cs) all old = emptied_served hosts cs all old
emptied_served hosts (crossing.In m ∷ cs) all old = emptied_served hosts cs all old
emptied_served hosts (crossing.Answer kind f ∷ cs) all old = emptied_served hosts cs all old

found_named : (b : Bool) (s : ServiceSeat) (rest : Option ServiceSeat) → HasNamed s → NamePeers (services_in rest) → NamePeers (services_in (if b then Some s else rest))
found_named true s rest here later = here
found_named false s rest here later = later

pub named_of : (h : Host) (all : List ServiceSeat) → All HasNamed all → NamePeers (services_of h all)
named_of h [] old = All-nil NamesPeer
named_of h (s ∷ all) old = found_named (same_host h s.host) s (find (λ (x : ServiceSeat). same_host h x.host) all) (All-head HasNamed s all old) (named_of h all (All-tail HasNamed s all old))

pub opening_served : (hosts : List Host) → AreServed hosts (opening_services hosts)
opening_served [] = record { order = refl; named = All-nil HasNamed }
opening_served (h ∷ hosts) =
    let rest : AreServed hosts (opening_services hosts) = opening_served hosts in
    record {
      order = ap (λ (hs : List Host). h ∷ hs) rest.order;
      named = All-cons HasNamed (record { host = h; services = no_services }) (opening_services hosts) (All-nil NamesPeer) rest.named;
    }
