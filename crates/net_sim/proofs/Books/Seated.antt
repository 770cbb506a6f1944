-- Hosts that are in order, and their seats after some moments.
use Rattle.net_sim.proofs.Common.{◌≡◌, Bool, true, false, ◌||◌, if◌then◌else◌, List, [], ◌∷◌, map, Some, None, IfSome, refl, sym, subst, All-nil, All-cons, All-head, All-tail, InOrder, Host, IsAddress, is_host, same_host, NcpState, HaveAddresses, AreLive, IsOnce, Moment, program, crossings_of, seat_in, Seat}
use Rattle.std.proofs.Common.{All}
use Rattle.interface.proofs.lemmas.{host_before_never, host_before_trans}
use Rattle.interface.specs.Host.{host_before}
use Rattle.interface.specs.Mailboxes.{is_up}
use Rattle.sockets.proofs.lemmas.{same_host-true}
use Rattle.net_sim.proofs.Hosts.Stays.{program_stays}

-- ---- hosts in order are there once each

not_same : (g h : Host) → host_before g h ≡ true → (b : Bool) → same_host g h ≡ b → b ≡ false
not_same g h before true e =
    let P : Host → Type 0 = λ x. host_before x h ≡ true in
    let again : host_before h h ≡ true = subst P (same_host-true g h e) before in
    let never : host_before h h ≡ false = host_before_never h in
    absurd (cc)
not_same g h before false e = refl

without_next : (g h : Host) (hosts : List Host) → InOrder (g ∷ h ∷ hosts) → InOrder (g ∷ hosts)
without_next g h [] order = tt
without_next g h (k ∷ hosts) order = (host_before_trans g h k order.0 order.1.0, order.1.1)

not_later : (g : Host) (hosts : List Host) → InOrder (g ∷ hosts) → is_host hosts g ≡ false
not_later g [] order = refl
not_later g (h ∷ hosts) order = rw (not_same g h order.0 (same_host g h) refl) (not_later g hosts (without_next g h hosts order))

once_first : (g : Host) (hosts : List Host) → InOrder (g ∷ hosts) → (h : Host) → same_host h g ≡ true → is_host hosts h ≡ false
once_first g hosts order h same = let P : Host → Type 0 = λ x. is_host hosts x ≡ false in subst P (sym (same_host-true h g same)) (not_later g hosts order)

pub once_in_order : (hosts : List Host) → InOrder hosts → IsOnce hosts
once_in_order [] order = tt
once_in_order (g ∷ []) order = (once_first g [] order, tt)
once_in_order (g ∷ h ∷ hosts) order = (once_first g (h ∷ hosts) order, once_in_order (h ∷ hosts) order.1)

-- ---- the seats

abbrev RunsLive : Seat → Type 0
RunsLive s = IfSome s.program (λ p. p.spent ≡ false)

seat_by : (b : Bool) (s : NcpState) → s.spent ≡ false → IfSome (if b then Some s else None) (λ p. p.spent ≡ false)
seat_by true s live = live
seat_by false s live = tt

pub seats_live : (hosts hs : List Host) (moments : List Moment) → AreLive (map (seat_in hosts moments) hs)
seats_live hosts [] moments = All-nil RunsLive
seats_live hosts (h ∷ hs) moments =
    All-cons RunsLive (seat_in hosts moments h) (map (seat_in hosts moments) hs) (seat_by (is_up hosts h (crossings_of moments)) (program h moments) (program_stays h moments).spent) (seats_live hosts hs moments)

-- ---- addresses

have_first : (g : Host) (hosts : List Host) → IsAddress g → HaveAddresses hosts → (h : Host) (b : Bool) → same_host h g ≡ b → (b || is_host hosts h) ≡ true → IsAddress h
have_first g hosts first later h true e is = subst IsAddress (sym (same_host-true h g e)) first
have_first g hosts first later h false e is = later h is

pub have_addresses : (hosts : List Host) → All (λ (h : Host). IsAddress h) hosts → HaveAddresses hosts
have_addresses [] all h is = absurd (cc)
have_addresses (g ∷ hosts) all h is =
    have_first g hosts (All-head (λ (x : Host). IsAddress x) g hosts all) (have_addresses hosts (All-tail (λ (x : Host). IsAddress x) g hosts all)) h (same_host h g) refl is
