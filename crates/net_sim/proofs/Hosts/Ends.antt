-- How an event at a host ends.
use Rattle.net_sim.proofs.Common.{◌≡◌, ◌⊎◌, ◌&&◌, if◌then◌else◌, not, inl, inr, ℕ, Bool, true, false, List, [], ◌∷◌, ◌++◌, ◌-◌, take, drop, length, Option, Some, None, Ok, Err, OnOk, refl, ap, sym, subst, ◌∙◌, drop-append_seam, reverse-append, Calls, Seen, ShowsTake, crossing_of, Host, Crossing, Inbound, HostMessage, accepted, NcpState, owner_of, pair_with, listens_on, is_ready, Entry, is_byte_size, is_send_socket, is_receive_socket, is_open, free_link, served, served_notices, next_out, offered, NcpFault, Notice, Request, Kept, crossed, all_crossed, all_told, asked, ServiceDeskState, ServicesState, opening_desk, server_begun, user_begun, line_bits, AreDone, Sits, running, world_ended, WorldState, WorldFault, Program, Seat, ServiceSeat, seat_of, seated, services_of, serviced, tended, with_server, with_user, wants_memory, world_moved, Does, DoesOrHalts, Halts, Refuses, AtSeat, AskGives, OfferGives, TakeGives, TypeGives}
use Rattle.std.proofs.Common.{is_some, reverse, Result, IfErr, MatchResult}
use Rattle.std.proofs.lemmas.List.{reverse-reverse, take_rest}
use Rattle.interface.specs.declared.crossing.Crossing.TheVariants as crossing
use Rattle.host_pairs.specs.Entries.{was_closed}
use Rattle.sockets.specs.Requests.{refusal, first_if, on_open, is_used, is_taken, send_fault, grant_fault, closing_fault, close_fault}
use Rattle.host_pairs.specs.Asked.{are_bytes, passes}
use Rattle.sockets.specs.declared.fault.NcpFault.TheVariants as problem
use Rattle.sockets.specs.declared.request.Request.TheVariants as request
use Rattle.net_sim.specs.World.{turn_of}
use Rattle.net_sim.proofs.Hosts.SeatLemmas.{sits_gives}

halts : {C : Type 0} (c : C) (old : WorldState C) (seats : List Seat) (ss : List ServiceSeat) (k : Kept) (f : WorldFault) → wants_memory f ≡ true → [] ≡ old.strangers → k ≡ old.kept → Halts c old (Err f) (world_ended c seats ss k (Err f))
halts c old seats ss k f memory strangers kept = record { fault = f; answer = refl; memory = memory; carrier = refl; strangers = strangers; kept = kept; stopped = memory }

memory_of : (f : WorldFault) → f ≡ Program problem.OutOfMemory → wants_memory f ≡ true
memory_of f is = ap (λ (x : WorldFault). wants_memory x) is

-- the services of a host had their turns in a world of these parts
tended_is : {C : Type 0} (h : Host) (t : ServicesState × ServiceDeskState) (c : C) (seats seats1 : List Seat) (ss ss1 : List ServiceSeat) (before k1 : Kept) → AreDone h t seats ss before seats1 ss1 k1
    → running c seats1 ss1 k1 ≡ tended h t (running c seats ss before)
tended_is {C} h t c seats seats1 ss ss1 before k1 d =
    ap (λ (x : List Seat). running c x ss1 k1) d.seats_are ∙ ap (λ (x : List ServiceSeat). running c (seated h (Some t.1.program) seats) x k1) d.services_are
    ∙ ap (λ (x : Kept). running c (seated h (Some t.1.program) seats) (serviced h t.0 ss) x) d.kept_is

-- a crossing at a host, and what its program and its services made of it
moved_ends : {C : Type 0} (h : Host) (x : Crossing) (turn : NcpState × List Notice) (c0 c1 : C) (seats seats1 : List Seat) (ss ss1 : List ServiceSeat) (k k1 : Kept) (news : List Crossing) (r : Result (Unit {0}) WorldFault) → reverse news ≡ x ∷ []
    → OnOk r (AreDone h (turn_of h (length k.book.notices) (services_of h ss) turn) seats ss (all_told h turn.1 (all_crossed (reverse news) k)) seats1 ss1 k1) → IfErr r (λ f. (f ≡ Program problem.OutOfMemory) × (k1 ≡ k))
    → Does (world_moved c1 h x turn (running c0 seats ss k)) r (world_ended c1 seats1 ss1 k1 r) ⊎ Halts c1 (running c0 seats ss k) r (world_ended c1 seats1 ss1 k1 r)
moved_ends {C} h x turn c0 c1 seats seats1 ss ss1 k k1 news (Ok tt) is done kept =
    let t : ServicesState × ServiceDeskState = turn_of h (length k.book.notices) (services_of h ss) turn in
    let now : AreDone h (turn_of h (length k.book.notices) (services_of h ss) turn) seats ss (all_told h turn.1 (crossed x k)) seats1 ss1 k1 =
    subst (λ (cs : List Crossing). AreDone h (turn_of h (length k.book.notices) (services_of h ss) turn) seats ss (all_told h turn.1 (all_crossed cs k)) seats1 ss1 k1) is done in
    inl (refl, tended_is h (turn_of h (length k.book.notices) (services_of h ss) turn) c1 seats seats1 ss ss1 (all_told h turn.1 (crossed x k)) k1 now)
moved_ends {C} h x turn c0 c1 seats seats1 ss ss1 k k1 news (Err f) is done kept = inr (halts c1 (running c0 seats ss k) seats1 ss1 k1 f (memory_of f kept.0) refl kept.1)

pub take_ends : {C : Type 0} (calls : Calls C) (h : Host) (place : ℕ) (s : NcpState) (i : Inbound) (c0 c1 : C) (seats seats1 : List Seat) (ss ss1 : List ServiceSeat) (k k1 : Kept) (news : List Crossing) (r : Result (Unit {0}) WorldFault)
    → Sits h place s seats → calls.takes c0 h (Ok (Some i)) c1 → reverse news ≡ crossing_of i ∷ []
    → OnOk r (AreDone h (turn_of h (length k.book.notices) (services_of h ss) (accepted s i (length k.book.crossings))) seats ss (all_told h (accepted s i (length k.book.crossings)).1 (all_crossed (reverse news) k)) seats1 ss1 k1)
    → IfErr r (λ f. (f ≡ Program problem.OutOfMemory) × (k1 ≡ k))
    → AtSeat (λ s. TakeGives calls h s (running c0 seats ss k) r (world_ended c1 seats1 ss1 k1 r)) (seat_of h seats) (running c0 seats ss k) r (world_ended c1 seats1 ss1 k1 r)
take_ends {C} calls h place s i c0 c1 seats seats1 ss ss1 k k1 news r sits rel is done kept =
    sits_gives (λ s. TakeGives calls h s (running c0 seats ss k) r (world_ended c1 seats1 ss1 k1 r)) h place s (running c0 seats ss k) r (world_ended c1 seats1 ss1 k1 r) sits
    (Ok (Some i), c1, rel, moved_ends h (crossing_of i) (accepted s i (length k.book.crossings)) c0 c1 seats seats1 ss ss1 k k1 news r is done kept)

-- an offer of what the program says next
offer_some : {C : Type 0} (calls : Calls C) (h : Host) (s : NcpState) (m : HostMessage) (old : WorldState C) (r : Result (Unit {0}) WorldFault) (new : WorldState C) → next_out s ≡ Some m → OfferGives calls h s (Some m) old r new
    → OfferGives calls h s (next_out s) old r new
offer_some {C} calls h s m old r new is gives = subst (λ (o : Option HostMessage). OfferGives calls h s o old r new) (sym is) gives

pub offer_ends : {C : Type 0} (calls : Calls C) (h : Host) (place : ℕ) (s : NcpState) (m : HostMessage) (c0 c1 : C) (seats seats1 : List Seat) (ss ss1 : List ServiceSeat) (k k1 : Kept) (news : List Crossing) (r : Result (Unit {0}) WorldFault)
    → Sits h place s seats → next_out s ≡ Some m → calls.offers c0 m (Ok tt) c1 → reverse news ≡ crossing.Out m ∷ []
    → OnOk r (AreDone h (turn_of h (length k.book.notices) (services_of h ss) (offered s (length k.book.crossings))) seats ss (all_told h (offered s (length k.book.crossings)).1 (all_crossed (reverse news) k)) seats1 ss1 k1)
    → IfErr r (λ f. (f ≡ Program problem.OutOfMemory) × (k1 ≡ k))
    → AtSeat (λ s. OfferGives calls h s (next_out s) (running c0 seats ss k) r (world_ended c1 seats1 ss1 k1 r)) (seat_of h seats) (running c0 seats ss k) r (world_ended c1 seats1 ss1 k1 r)
offer_ends {C} calls h place s m c0 c1 seats seats1 ss ss1 k k1 news r sits says rel is done kept =
    sits_gives (λ s. OfferGives calls h s (next_out s) (running c0 seats ss k) r (world_ended c1 seats1 ss1 k1 r)) h place s (running c0 seats ss k) r (world_ended c1 seats1 ss1 k1 r) sits
    (offer_some calls h s m (running c0 seats ss k) r (world_ended c1 seats1 ss1 k1 r) says
    (inr (Ok tt, c1, rel, moved_ends h (crossing.Out m) (offered s (length k.book.crossings)) c0 c1 seats seats1 ss ss1 k k1 news r is done kept)))

-- memory ran out for the message. That there is one is known
some_message : (o : Option HostMessage) → is_some o ≡ true → (m : HostMessage) × o ≡ Some m
some_message None h = absurd (cc)
some_message (Some m) h = (m, refl)

pub offer_halts : {C : Type 0} (calls : Calls C) (h : Host) (place : ℕ) (s : NcpState) (c0 : C) (seats : List Seat) (ss : List ServiceSeat) (k : Kept) (f : WorldFault) (r : Result (Unit {0}) WorldFault) → Sits h place s seats
    → is_some (next_out s) ≡ true → f ≡ Program problem.OutOfMemory → r ≡ Err f
    → AtSeat (λ s. OfferGives calls h s (next_out s) (running c0 seats ss k) r (world_ended c0 seats ss k r)) (seat_of h seats) (running c0 seats ss k) r (world_ended c0 seats ss k r)
offer_halts {C} calls h place s c0 seats ss k f r sits says is e =
    let m : (m : HostMessage) × next_out s ≡ Some m = some_message (next_out s) says in
    let stops : Halts c0 (running c0 seats ss k) r (world_ended c0 seats ss k r) =
    subst (λ (x : Result (Unit {0}) WorldFault). Halts c0 (running c0 seats ss k) x (world_ended c0 seats ss k x)) (sym e) (halts c0 (running c0 seats ss k) seats ss k f (memory_of f is) refl refl) in
    sits_gives (λ s. OfferGives calls h s (next_out s) (running c0 seats ss k) r (world_ended c0 seats ss k r)) h place s (running c0 seats ss k) r (world_ended c0 seats ss k r) sits
    (offer_some calls h s m.0 (running c0 seats ss k) r (world_ended c0 seats ss k r) m.1 (inl stops))

-- ---- a request

-- what comes of a request that isn't refused
abbrev pub IsServed : Host → Request → NcpState → List Seat → List Seat → List ServiceSeat → List ServiceSeat → Kept → Kept → Result (Unit {0}) WorldFault → Type 0
IsServed h q s seats seats1 ss ss1 k k1 r =
    MatchResult r (λ _. AreDone h (turn_of h (length k.book.notices) (services_of h ss) (served s q, served_notices s q)) seats ss (all_told h (served_notices s q) (asked h q k)) seats1 ss1 k1)
    (λ f. (f ≡ Program problem.OutOfMemory) × (k1 ≡ k))

-- the same, of services that are known
abbrev pub IsAnswered : Host → NcpState → ServicesState → Request → List Seat → List Seat → List ServiceSeat → List ServiceSeat → Kept → Kept → Result (Unit {0}) WorldFault → Type 0
IsAnswered h s x q seats seats1 ss ss1 k k1 r =
    MatchResult r (λ _. AreDone h (turn_of h (length k.book.notices) x (served s q, served_notices s q)) seats ss (all_told h (served_notices s q) (asked h q k)) seats1 ss1 k1)
    (λ f. (f ≡ Program problem.OutOfMemory) × (k1 ≡ k))

-- and of one that is
abbrev pub IsRefused : NcpFault → List Seat → List Seat → List ServiceSeat → List ServiceSeat → Kept → Kept → Result (Unit {0}) WorldFault → Type 0
IsRefused f seats seats1 ss ss1 k k1 r = (r ≡ Err (Program f)) × ((seats1 ≡ seats) × ((ss1 ≡ ss) × (k1 ≡ k)))

served_ends : {C : Type 0} (h : Host) (q : Request) (s : NcpState) (c : C) (seats seats1 : List Seat) (ss ss1 : List ServiceSeat) (k k1 : Kept) (r : Result (Unit {0}) WorldFault)
    → IsServed h q s seats seats1 ss ss1 k k1 r → AskGives h q s None (running c seats ss k) r (world_ended c seats1 ss1 k1 r)
served_ends {C} h q s c seats seats1 ss ss1 k k1 (Ok tt) m =
    inl (refl, tended_is h (turn_of h (length k.book.notices) (services_of h ss) (served s q, served_notices s q)) c seats seats1 ss ss1 (all_told h (served_notices s q) (asked h q k)) k1 m)
served_ends {C} h q s c seats seats1 ss ss1 k k1 (Err f) m = inr (halts c (running c seats ss k) seats1 ss1 k1 f (memory_of f m.0) refl m.1)

refused_is : {C : Type 0} (f : NcpFault) (c : C) (seats seats1 : List Seat) (ss ss1 : List ServiceSeat) (k k1 : Kept) (r : Result (Unit {0}) WorldFault) → wants_memory (Program f) ≡ false
    → IsRefused f seats seats1 ss ss1 k k1 r → Refuses (Program f) (running c seats ss k) r (world_ended c seats1 ss1 k1 r)
refused_is {C} f c seats seats1 ss ss1 k k1 r calm m =
    let with : Bool → WorldState C = λ b. record { carrier = c; strangers = []; seats = seats1; services = ss1; kept = k1; stopped = b } in (
      m.0,
      ap (λ (x : Result (Unit {0}) WorldFault). world_ended c seats1 ss1 k1 x) m.0 ∙ ap with calm ∙ ap (λ (x : List Seat). running c x ss1 k1) m.1.0 ∙ ap (λ (x : List ServiceSeat). running c seats x k1) m.1.1.0
          ∙ ap (λ (b : Kept). running c seats ss b) m.1.1.1,
    )

-- no refusal is running out of memory
abbrev IsCalm : Option NcpFault → Type 0
IsCalm None = Unit {0}
IsCalm (Some f) = wants_memory (Program f) ≡ false

first_calm : (b : Bool) (e : NcpFault) (o : Option NcpFault) → wants_memory (Program e) ≡ false → IsCalm o → IsCalm (first_if b e o)
first_calm true e o h k = h
first_calm false e o h k = k

open_calm : (others : Entry → Option NcpFault) (o : Option (Host × Entry)) → ((e : Entry) → IsCalm (others e)) → IsCalm (on_open others o)
open_calm others None k = refl
open_calm others (Some found) k = first_calm (not (is_open found.1)) problem.NotOpen (others found.1) refl (k found.1)

closing_calm : (e : Entry) → IsCalm (closing_fault e)
closing_calm e = first_calm (was_closed e) problem.Closing None refl tt

close_calm : (o : Option (Host × Entry)) → IsCalm (close_fault o)
close_calm None = refl
close_calm (Some found) = closing_calm found.1

either_calm : (b : Bool) (o : Option NcpFault) → IsCalm o → IsCalm (if b then None else o)
either_calm true o k = tt
either_calm false o k = k

two_calm : (a b : Bool) (e f : NcpFault) → wants_memory (Program e) ≡ false → wants_memory (Program f) ≡ false → IsCalm (first_if a e (first_if b f None))
two_calm a b e f h k = first_calm a e (first_if b f None) h (first_calm b f None k tt)

four_calm : (a b c d : Bool) (e f g h : NcpFault) → wants_memory (Program e) ≡ false → wants_memory (Program f) ≡ false → wants_memory (Program g) ≡ false → wants_memory (Program h) ≡ false
    → IsCalm (first_if a e (first_if b f (first_if c g (first_if d h None))))
four_calm a b c d e f g h x y z w = first_calm a e (first_if b f (first_if c g (first_if d h None))) x (first_calm b f (first_if c g (first_if d h None)) y (two_calm c d g h z w))

refusal_calm : (s : NcpState) (q : Request) → IsCalm (refusal s q)
unfolding refusal
refusal_calm s (request.Contact peer) = tt
refusal_calm s (request.Listen socket size) = two_calm (is_used s socket) (not (is_byte_size size)) problem.InUse problem.BadSize refl refl
refusal_calm s (request.OpenSend peer own foreign size) =
    four_calm (not (is_ready (pair_with peer s.peers).phase)) (not (is_send_socket own && is_receive_socket foreign)) (is_taken s peer own foreign) (not (is_byte_size size))
    problem.NotContacted problem.WrongEnd problem.InUse problem.BadSize refl refl refl refl
refusal_calm s (request.OpenReceive peer own foreign) =
    four_calm (not (is_ready (pair_with peer s.peers).phase)) (not (is_receive_socket own && is_send_socket foreign)) (is_taken s peer own foreign)
    (not (is_some (free_link (pair_with peer s.peers).entries))) problem.NotContacted problem.WrongEnd problem.InUse problem.NoLink refl refl refl refl
refusal_calm s (request.Send socket bits) =
    first_calm (not (is_send_socket socket)) problem.WrongEnd (on_open (send_fault (length bits)) (owner_of socket s.peers)) refl
    (open_calm (send_fault (length bits)) (owner_of socket s.peers) (λ e. two_calm (not (are_bytes (length bits) e.size)) (was_closed e) problem.BadSize problem.Closing refl refl))
refusal_calm s (request.Grant socket messages bits) =
    first_calm (not (is_receive_socket socket)) problem.WrongEnd (on_open (grant_fault messages bits) (owner_of socket s.peers)) refl
    (open_calm (grant_fault messages bits) (owner_of socket s.peers) (λ e. two_calm (was_closed e) (passes e.allocation messages bits) problem.Closing problem.OverGrant refl refl))
refusal_calm s (request.AskBack socket messages bits) =
    first_calm (not (is_receive_socket socket)) problem.WrongEnd (on_open closing_fault (owner_of socket s.peers)) refl (open_calm closing_fault (owner_of socket s.peers) closing_calm)
refusal_calm s (request.Interrupt socket) = open_calm closing_fault (owner_of socket s.peers) closing_calm
refusal_calm s (request.Close socket) = either_calm (listens_on socket s.listening) (close_fault (owner_of socket s.peers)) (close_calm (owner_of socket s.peers))
refusal_calm s (request.Echo peer octet) = first_calm (not (is_ready (pair_with peer s.peers).phase)) problem.NotContacted None refl tt

asked_by_refusal : {C : Type 0} (h : Host) (q : Request) (s : NcpState) (c : C) (seats seats1 : List Seat) (ss ss1 : List ServiceSeat) (k k1 : Kept) (r : Result (Unit {0}) WorldFault) (o : Option NcpFault) → refusal s q ≡ o → IsCalm o
    → ((f : NcpFault) → refusal s q ≡ Some f → IsRefused f seats seats1 ss ss1 k k1 r) → (refusal s q ≡ None → IsServed h q s seats seats1 ss ss1 k k1 r)
    → AskGives h q s o (running c seats ss k) r (world_ended c seats1 ss1 k1 r)
asked_by_refusal h q s c seats seats1 ss ss1 k k1 r None e calm refused done = served_ends h q s c seats seats1 ss ss1 k k1 r (done e)
asked_by_refusal h q s c seats seats1 ss ss1 k k1 r (Some f) e calm refused done = refused_is f c seats seats1 ss ss1 k k1 r calm (refused f e)

pub ask_ends : {C : Type 0} (h : Host) (q : Request) (place : ℕ) (s : NcpState) (c : C) (seats seats1 : List Seat) (ss ss1 : List ServiceSeat) (k k1 : Kept) (r : Result (Unit {0}) WorldFault) → Sits h place s seats
    → ((f : NcpFault) → refusal s q ≡ Some f → IsRefused f seats seats1 ss ss1 k k1 r) → (refusal s q ≡ None → IsServed h q s seats seats1 ss ss1 k k1 r)
    → AtSeat (λ s. AskGives h q s (refusal s q) (running c seats ss k) r (world_ended c seats1 ss1 k1 r)) (seat_of h seats) (running c seats ss k) r (world_ended c seats1 ss1 k1 r)
ask_ends {C} h q place s c seats seats1 ss ss1 k k1 r sits refused done =
    sits_gives (λ s. AskGives h q s (refusal s q) (running c seats ss k) r (world_ended c seats1 ss1 k1 r)) h place s (running c seats ss k) r (world_ended c seats1 ss1 k1 r) sits
    (asked_by_refusal h q s c seats seats1 ss ss1 k k1 r (refusal s q) refl (refusal_calm s q) refused done)

-- ---- a line that is typed

typed_by : {C : Type 0} (h : Host) (line : List ℕ) (s : NcpState) (c : C) (seats seats1 : List Seat) (ss ss1 : List ServiceSeat) (k k1 : Kept) (r : Result (Unit {0}) WorldFault) (o : Option ℕ)
    → (o ≡ None → IsRefused problem.NotOpen seats seats1 ss ss1 k k1 r)
    → ((socket : ℕ) (f : NcpFault) → o ≡ Some socket → refusal s (request.Send socket (line_bits line)) ≡ Some f → IsRefused f seats seats1 ss ss1 k k1 r)
    → ((socket : ℕ) → o ≡ Some socket → refusal s (request.Send socket (line_bits line)) ≡ None → IsServed h (request.Send socket (line_bits line)) s seats seats1 ss ss1 k k1 r)
    → TypeGives h line s o (running c seats ss k) r (world_ended c seats1 ss1 k1 r)
typed_by h line s c seats seats1 ss ss1 k k1 r None without refused done = refused_is problem.NotOpen c seats seats1 ss ss1 k k1 r refl (without refl)
typed_by h line s c seats seats1 ss ss1 k k1 r (Some socket) without refused done =
    asked_by_refusal h (request.Send socket (line_bits line)) s c seats seats1 ss ss1 k k1 r (refusal s (request.Send socket (line_bits line))) refl (refusal_calm s (request.Send socket (line_bits line)))
    (λ f e. refused socket f refl e) (λ e. done socket refl e)

pub type_ends : {C : Type 0} (h : Host) (line : List ℕ) (place : ℕ) (s : NcpState) (c : C) (seats seats1 : List Seat) (ss ss1 : List ServiceSeat) (k k1 : Kept) (r : Result (Unit {0}) WorldFault) → Sits h place s seats
    → ((services_of h ss).typing ≡ None → IsRefused problem.NotOpen seats seats1 ss ss1 k k1 r)
    → ((socket : ℕ) (f : NcpFault) → (services_of h ss).typing ≡ Some socket → refusal s (request.Send socket (line_bits line)) ≡ Some f → IsRefused f seats seats1 ss ss1 k k1 r)
    → ((socket : ℕ) → (services_of h ss).typing ≡ Some socket → refusal s (request.Send socket (line_bits line)) ≡ None → IsServed h (request.Send socket (line_bits line)) s seats seats1 ss ss1 k k1 r)
    → AtSeat (λ s. TypeGives h line s (services_of h ss).typing (running c seats ss k) r (world_ended c seats1 ss1 k1 r)) (seat_of h seats) (running c seats ss k) r (world_ended c seats1 ss1 k1 r)
type_ends {C} h line place s c seats seats1 ss ss1 k k1 r sits without refused done =
    sits_gives (λ s. TypeGives h line s (services_of h ss).typing (running c seats ss k) r (world_ended c seats1 ss1 k1 r)) h place s (running c seats ss k) r (world_ended c seats1 ss1 k1 r) sits
    (typed_by h line s c seats seats1 ss ss1 k k1 r (services_of h ss).typing without refused done)

-- ---- a service that begins

begun_ends : {C : Type 0} (h : Host) (t : ServicesState × ServiceDeskState) (c : C) (seats seats1 : List Seat) (ss ss1 : List ServiceSeat) (k k1 : Kept) (r : Result (Unit {0}) WorldFault)
    → OnOk r (AreDone h t seats ss k seats1 ss1 k1) → IfErr r (λ f. (f ≡ Program problem.OutOfMemory) × (k1 ≡ k))
    → DoesOrHalts (tended h t (running c seats ss k)) (running c seats ss k) r (world_ended c seats1 ss1 k1 r)
begun_ends {C} h t c seats seats1 ss ss1 k k1 (Ok tt) done kept = inl (refl, tended_is h t c seats seats1 ss ss1 k k1 done)
begun_ends {C} h t c seats seats1 ss ss1 k k1 (Err f) done kept = inr (halts c (running c seats ss k) seats1 ss1 k1 f (memory_of f kept.0) refl kept.1)

pub server_ends : {C : Type 0} (h : Host) (listen base place : ℕ) (s : NcpState) (c : C) (seats seats1 : List Seat) (ss ss1 : List ServiceSeat) (k k1 : Kept) (r : Result (Unit {0}) WorldFault) → Sits h place s seats
    → OnOk r (AreDone h (server_begun listen base (services_of h ss) (opening_desk h (length k.book.notices) s)) seats ss k seats1 ss1 k1) → IfErr r (λ f. (f ≡ Program problem.OutOfMemory) × (k1 ≡ k))
    → AtSeat (λ s. DoesOrHalts (with_server h listen base s (running c seats ss k)) (running c seats ss k) r (world_ended c seats1 ss1 k1 r)) (seat_of h seats) (running c seats ss k) r (world_ended c seats1 ss1 k1 r)
server_ends {C} h listen base place s c seats seats1 ss ss1 k k1 r sits done kept =
    sits_gives (λ s. DoesOrHalts (with_server h listen base s (running c seats ss k)) (running c seats ss k) r (world_ended c seats1 ss1 k1 r)) h place s (running c seats ss k) r (world_ended c seats1 ss1 k1 r) sits
    (begun_ends h (server_begun listen base (services_of h ss) (opening_desk h (length k.book.notices) s)) c seats seats1 ss ss1 k k1 r done kept)

pub user_ends : {C : Type 0} (h peer : Host) (listen mine place : ℕ) (s : NcpState) (c : C) (seats seats1 : List Seat) (ss ss1 : List ServiceSeat) (k k1 : Kept) (r : Result (Unit {0}) WorldFault) → Sits h place s seats
    → OnOk r (AreDone h (user_begun peer listen mine (services_of h ss) (opening_desk h (length k.book.notices) s)) seats ss k seats1 ss1 k1) → IfErr r (λ f. (f ≡ Program problem.OutOfMemory) × (k1 ≡ k))
    → AtSeat (λ s. DoesOrHalts (with_user h peer listen mine s (running c seats ss k)) (running c seats ss k) r (world_ended c seats1 ss1 k1 r)) (seat_of h seats) (running c seats ss k) r (world_ended c seats1 ss1 k1 r)
user_ends {C} h peer listen mine place s c seats seats1 ss ss1 k k1 r sits done kept =
    sits_gives (λ s. DoesOrHalts (with_user h peer listen mine s (running c seats ss k)) (running c seats ss k) r (world_ended c seats1 ss1 k1 r)) h place s (running c seats ss k) r (world_ended c seats1 ss1 k1 r) sits
    (begun_ends h (user_begun peer listen mine (services_of h ss) (opening_desk h (length k.book.notices) s)) c seats seats1 ss ss1 k k1 r done kept)

-- ---- what has just crossed

pub newest : (cs old log before after : List Crossing) → before ≡ reverse old → after ≡ reverse log → log ≡ cs ++ old → reverse (take (length after - length before) (drop (length before) after)) ≡ cs
newest cs old log before after b a l =
    ap (λ (xs : List Crossing). reverse xs) (take_rest after (length before))
    ∙ ap (λ (xs : List Crossing). reverse (drop (length before) xs)) (a ∙ ap (λ (xs : List Crossing). reverse xs) l ∙ reverse-append cs old ∙ ap (λ (ys : List Crossing). ys ++ reverse cs) (sym b))
    ∙ ap (λ (xs : List Crossing). reverse xs) (drop-append_seam before (reverse cs)) ∙ reverse-reverse cs

pub take_shown : (old : Seen) (h : Host) (o : Option Inbound) (i : Inbound) (new : Seen) → ShowsTake old h (Ok o) new → o ≡ Some i → new.log ≡ crossing_of i ∷ old.log
take_shown old h None i new shows e = absurd (cc)
take_shown old h (Some j) i new shows e =
    let same : j ≡ i = cc in
    ap (λ (s : Seen). s.log) shows.0.shown ∙ ap (λ (x : Inbound). crossing_of x ∷ old.log) same
