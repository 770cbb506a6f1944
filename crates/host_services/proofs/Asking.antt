-- What services ask for.
use Rattle.std.proofs.Common.{◌≡◌, ℕ, ◌+◌, ◌==◌, ◌&&◌, if◌then◌else◌, is_none, is_some, min, nat_lt, take, Bool, true, false, List, [], ◌∷◌, ◌++◌, Option, Some, None, length, All, refl, ap, sym, ◌∙◌, subst, arith, ◌%◌, ◌≤◌, nat_le}
use Rattle.std.specs.List.{fold}
use Rattle.std.specs.Option.{option_or}
use Rattle.std.proofs.Math.Nat.{min-le_right}
use Rattle.std.proofs.lemmas.Bool.Decides.{nat_tests}
use Rattle.std.proofs.lemmas.List.{append-nil, append_assoc}
use Rattle.std.proofs.lemmas.List.Elements.{All-append, All-cons, All-head, All-nil, All-tail}
use Rattle.std.proofs.lemmas.List.Sums.{fold-append}
use Rattle.interface.specs.Host.{Host, IsAddress}
use Rattle.host_pairs.specs.declared.notice.Notice.{Notice}
use Rattle.host_pairs.specs.declared.notice.Notice.TheVariants as notice
use Rattle.icp.specs.Outcomes.{IcpTurn, passed}
use Rattle.icp.specs.Notices.{arrived_on, is_opened, opened_on}
use Rattle.icp.specs.Server.{ServerState, opening_server, server_by, server_failure, server_local, server_requests, server_turn}
use Rattle.icp.specs.User.{UserState, opening_user, user_by, user_failure, user_heard, user_local, user_met, user_opened, user_requests, user_stage, user_told, user_turn}
use Rattle.icp.specs.Sockets.{server_fault, socket_bits, socket_of, user_fault}
use Rattle.icp.specs.declared.fault.StartFault.{StartFault}
use Rattle.icp.specs.declared.outcome.Failure.{Failure}
use Rattle.icp.specs.declared.outcome.Failure.TheVariants as failure
use Rattle.icp.specs.declared.outcome.Outcome.{Outcome}
use Rattle.icp.specs.declared.outcome.Outcome.TheVariants as outcome
use Rattle.icp.specs.declared.fault.StartFault.TheVariants as fault
use Rattle.bit_messages.specs.Octets.{octets_of}
use Rattle.bit_messages.proofs.lemmas.{octets_below}
use Rattle.ncp_control.specs.Command.{IsDouble, IsOctet, IsWord}
use Rattle.ncp_control.specs.Numbers.{is_receive_socket, is_send_socket}
use Rattle.ncp_control.proofs.lemmas.{word_below}
use Rattle.sockets.specs.Pairs.{NcpState}
use Rattle.sockets.specs.Requests.{refusal, served}
use Rattle.sockets.specs.declared.fault.NcpFault.{NcpFault}
use Rattle.sockets.specs.declared.request.Request.{Request}
use Rattle.sockets.specs.declared.request.Request.TheVariants as request
use Rattle.terminal.specs.Ends as ends
use Rattle.terminal.specs.Machines.{EchoState, TerminalState, echo_by, echo_turn, terminal_by, terminal_turn}
use Rattle.host_services.specs.Named.{HasAsked, IsUser, MayAsk, NamesPeer, NamePeers, NoneRefused}
use Rattle.host_services.specs.Services.{Service, ServicesState, ServiceDeskState, serving, reporting, noticing, typing_on}
use Rattle.host_services.specs.Turns.{Turned, asked_by, asks, became, notice_heard, heard_by, all_heard, tried, tried_by, tries, services_told, lines_told, server_asks, server_begins, server_begun, server_ends, server_asked, user_asks, user_begins, user_begun, user_ends, user_asked}
use Rattle.host_services.specs.Services.{Report}
use Rattle.host_services.specs.declared.report.Report.TheVariants as report
use Rattle.host_services.specs.declared.service.Service.TheVariants as service

-- ---- desks

-- a desk on which nothing more was asked
pub same_asked : (d e : ServiceDeskState) → e.asked ≡ d.asked → e.program ≡ d.program → HasAsked d e
same_asked d e a p = record { more = []; asked = a ∙ sym (append-nil d.asked); program = p; each = All-nil MayAsk; unrefused = tt }

none_append : (s : NcpState) (xs ys : List Request) → NoneRefused s xs → NoneRefused (fold served s xs) ys → NoneRefused s (xs ++ ys)
none_append s [] ys h k = k
none_append s (x ∷ xs) ys h k = (h.0, none_append (served s x) xs ys h.1 k)

then_asked : (d e f : ServiceDeskState) → HasAsked d e → HasAsked e f → HasAsked d f
then_asked d e f x y = record {
  more = x.more ++ y.more;
  asked = y.asked ∙ ap (λ (rs : List Request). rs ++ y.more) x.asked ∙ append_assoc d.asked x.more y.more;
  program = y.program ∙ ap (λ (s : NcpState). fold served s y.more) x.program ∙ sym (fold-append served d.program x.more y.more);
  each = All-append MayAsk x.more y.more x.each y.each;
  unrefused = none_append d.program x.more y.more x.unrefused (subst (λ (s : NcpState). NoneRefused s y.more) x.program y.unrefused);
}

pub one_asked : (d : ServiceDeskState) (r : Request) → refusal d.program r ≡ None → MayAsk r → HasAsked d (serving r d)
one_asked d r not is = record { more = r ∷ []; asked = refl; program = refl; each = All-cons MayAsk r [] is (All-nil MayAsk); unrefused = (not, tt) }

one_tried : (d : ServiceDeskState) (r : Request) (f : Option NcpFault) → refusal d.program r ≡ f → MayAsk r → HasAsked d (tried_by f r d)
one_tried d r None e is = one_asked d r e is
one_tried d r (Some f) e is = same_asked d d refl refl

-- requests that services may ask for
abbrev pub Fine : List Request → Type 0
Fine [] = Unit {0}
Fine (r ∷ rs) = MayAsk r × Fine rs

listens : (socket size : ℕ) → IsOctet size → MayAsk (request.Listen socket size)
listens socket size is = record { addressed = tt; ranged = is; silent = tt }

asks_to_send : (peer : Host) (own foreign size : ℕ) → IsAddress peer → IsWord own → IsWord foreign → IsOctet size → MayAsk (request.OpenSend peer own foreign size)
asks_to_send peer own foreign size is a b c = record { addressed = is; ranged = (a, b, c); silent = tt }

asks_to_receive : (peer : Host) (own foreign : ℕ) → IsAddress peer → IsWord own → IsWord foreign → MayAsk (request.OpenReceive peer own foreign)
asks_to_receive peer own foreign is a b = record { addressed = is; ranged = (a, b); silent = tt }

sends : (socket : ℕ) (bits : List Bool) → MayAsk (request.Send socket bits)
sends socket bits = record { addressed = tt; ranged = tt; silent = tt }

grants : (socket messages bits : ℕ) → IsDouble messages → IsWord bits → MayAsk (request.Grant socket messages bits)
grants socket messages bits a b = record { addressed = tt; ranged = (a, b); silent = tt }

closes : (socket : ℕ) → MayAsk (request.Close socket)
closes socket = record { addressed = tt; ranged = tt; silent = tt }

-- the grants of an echo service and of a terminal
grants_first : (receive : ℕ) → Fine (ends.first_requests receive)
grants_first receive = (grants receive 4 4096 (omega arith) (omega arith), tt)

grants_again : (receive : ℕ) (bits : List Bool) → MayAsk (ends.granted_again receive bits)
grants_again receive bits = grants receive 1 (min (length bits) 4294967295) (omega arith) (omega (arith, min-le_right (length bits) 4294967295))

all_tried : (d : ServiceDeskState) (rs : List Request) → Fine rs → HasAsked d (tries d rs)
all_tried d [] fine = same_asked d d refl refl
all_tried d (r ∷ rs) fine = then_asked d (tried d r) (tries (tried d r) rs) (one_tried d r (refusal d.program r) refl fine.0) (all_tried (tried d r) rs fine.1)

asks_by : (d : ServiceDeskState) (r : Request) (rs : List Request) (f : Option NcpFault) → refusal d.program r ≡ f → MayAsk r → HasAsked (serving r d) (asks (serving r d) rs).0 → HasAsked d (asked_by f d (asks (serving r d) rs)).0
asks_by d r rs None e is h = then_asked d (serving r d) (asks (serving r d) rs).0 (one_asked d r e is) h
asks_by d r rs (Some f) e is h = same_asked d d refl refl

all_asks : (d : ServiceDeskState) (rs : List Request) → Fine rs → HasAsked d (asks d rs).0
all_asks d [] fine = same_asked d d refl refl
all_asks d (r ∷ rs) fine = asks_by d r rs (refusal d.program r) refl fine.0 (all_asks (serving r d) rs fine.1)

-- after a report
reported_asked : (d f : ServiceDeskState) (r : Report) → HasAsked (reporting r d) f → HasAsked d f
reported_asked d f r h = then_asked d (reporting r d) f (same_asked d (reporting r d) refl refl) h

lines_asked : (d : ServiceDeskState) (lines : List (List ℕ)) → HasAsked d (lines_told d lines)
lines_asked d [] = same_asked d d refl refl
lines_asked d (line ∷ lines) = reported_asked d (lines_told d (line ∷ lines)) (report.Line line) (lines_asked (reporting (report.Line line) d) lines)

-- ---- a service's turn

-- what follows names no peer, and asks for no more than a grant
abbrev IsFine : ServiceDeskState → Turned → Type 0
IsFine d t = HasAsked d t.1 × NamesPeer t.0

server_end : (d : ServiceDeskState) (s : ServerState) (o : Option Outcome) → IsFine d (became (service.Server s) (server_ends d o))
server_end d s None = (same_asked d d refl refl, tt)
server_end d s (Some (outcome.Failed f)) = (same_asked d (server_ends d (Some (outcome.Failed f))).1 refl refl, tt)
server_end d s (Some (outcome.Done receive send)) = (reported_asked d (tries (reporting (report.Server (outcome.Done receive send)) d) (ends.first_requests receive)) (report.Server (outcome.Done receive send)) (all_tried (reporting (report.Server (outcome.Done receive send)) d) (ends.first_requests receive) (grants_first receive)), tt)

user_end : (d : ServiceDeskState) (s : UserState) (o : Option Outcome) → IsUser s → IsFine d (became (service.User s) (user_ends d o))
user_end d s None is = (same_asked d d refl refl, is)
user_end d s (Some (outcome.Failed f)) is = (same_asked d (user_ends d (Some (outcome.Failed f))).1 refl refl, is)
user_end d s (Some (outcome.Done receive send)) is =
    let e : ServiceDeskState = typing_on (Some send) (reporting (report.User (outcome.Done receive send)) d) in
    (then_asked d e (tries e (ends.first_requests receive)) (same_asked d e refl refl) (all_tried e (ends.first_requests receive) (grants_first receive)), tt)

onward : (d e : ServiceDeskState) (t : Turned) → HasAsked d e → IsFine e t → IsFine d t
onward d e t h x = (then_asked d e t.1 h x.0, x.1)

-- a turn of a server, whatever came of its requests
server_after : (d : ServiceDeskState) (s : ServerState) (o : Option Outcome) (a : ServiceDeskState × Option NcpFault) → HasAsked d a.0 → IsFine d (server_asked s o a)
server_after d s o (e, None) h = onward d e (became (service.Server s) (server_ends e o)) h (server_end e s o)
server_after d s o (e, Some f) h =
    onward d e (became (service.Server (server_local s f).0) (server_ends e (option_or o (server_local s f).1))) h (server_end e (server_local s f).0 (option_or o (server_local s f).1))

user_after : (d : ServiceDeskState) (s : UserState) (o : Option Outcome) (a : ServiceDeskState × Option NcpFault) → IsUser s → HasAsked d a.0 → IsFine d (user_asked s o a)
user_after d s o (e, None) is h = onward d e (became (service.User s) (user_ends e o)) h (user_end e s o is)
user_after d s o (e, Some f) is h =
    onward d e (became (service.User (user_local s f).0) (user_ends e (option_or o (user_local s f).1))) h (user_end e (user_local s f).0 (option_or o (user_local s f).1) is)

-- ---- what each asks for at a notice

server_says_fine : (s : ServerState) (b : Bool) → Fine (if b then request.Send s.listen (socket_bits s.receive) ∷ request.Close s.listen ∷ [] else [])
server_says_fine s true = (sends s.listen (socket_bits s.receive), (closes s.listen, tt))
server_says_fine s false = tt

server_by_fine : (s : ServerState) (n : Notice) (over : Bool) (f : Option Failure) → Fine (if over then passed s else server_by s n f).1
server_by_fine s n true f = tt
server_by_fine s n false (Some f) = tt
server_by_fine s n false None = server_says_fine s (is_none s.user && is_some (opened_on s.listen n))

server_fine : (s : ServerState) (n : Notice) → Fine (server_turn s n).1
unfolding server_turn
server_fine s n = server_by_fine s n s.over (server_failure s n)

-- a user keeps its peer and its sockets
abbrev UserFine : UserState → IcpTurn UserState → Type 0
UserFine s t = Fine t.1 × IsUser t.0

opened_fine : (s : UserState) (b : Bool) → IsUser s → UserFine s (if b then (record s { opened = true }, request.Grant s.own 1 32 ∷ [], None) else passed s)
opened_fine s true is = ((grants s.own 1 32 (omega arith) (omega arith), tt), is)
opened_fine s false is = (tt, is)

-- a number of four octets that is even isn't the last of them
word_above : (base : ℕ) → IsWord base → is_receive_socket base ≡ true → IsWord (base + 1)
word_above base word even =
    let half : base % 2 ≡ 0 = grind (arith, nat_tests, even) in
    omega (arith, half, word)

told_fine : (s : UserState) (base : ℕ) (b : Bool) → IsUser s → IsWord base → is_receive_socket base ≡ b
    → UserFine s (if b
    then (record s { base = Some base }, request.Close s.own ∷ request.OpenReceive s.peer s.receive (base + 1) ∷ request.OpenSend s.peer s.send base 8 ∷ [], None)
    else (record s { over = true }, request.Close s.own ∷ [], Some (outcome.Failed failure.BadSocket)))
told_fine s base true is word even =
    ((closes s.own, (asks_to_receive s.peer s.receive (base + 1) is.0 is.1 (word_above base word even), (asks_to_send s.peer s.send base 8 is.0 is.2 word (omega arith), tt))), is)
told_fine s base false is word even = ((closes s.own, tt), is)

joined_fine : (s : UserState) (bits : List Bool) (b : Bool) → IsUser s
    → UserFine s (if b then passed (record s { bits = bits }) else user_told (record s { bits = [] }) (socket_of (take 32 bits)))
joined_fine s bits true is = (tt, is)
joined_fine s bits false is = told_fine (record s { bits = [] }) (socket_of (take 32 bits)) (is_receive_socket (socket_of (take 32 bits))) is (word_below (octets_of (take 32 bits)) 0 (octets_below (take 32 bits))) refl

heard_fine : (s : UserState) (o : Option (List Bool)) → IsUser s → UserFine s (user_heard s o)
heard_fine s None is = (tt, is)
heard_fine s (Some bits) is = joined_fine s (s.bits ++ bits) (nat_lt (length (s.bits ++ bits)) 32) is

first_fine : (s : UserState) (n : Notice) (b : Bool) → IsUser s → UserFine s (if b then user_heard s (arrived_on s.own n) else user_opened s n)
first_fine s n true is = heard_fine s (arrived_on s.own n) is
first_fine s n false is = opened_fine s (is_opened s.own s.peer s.listen n) is

judged_fine : (s : UserState) (b : Bool) → IsUser s → UserFine s (if b then (record s { over = true }, [], Some (outcome.Done s.receive s.send)) else passed s)
judged_fine s true is = (tt, is)
judged_fine s false is = (tt, is)

stage_fine : (s : UserState) (n : Notice) (base : Option ℕ) → IsUser s → UserFine s (user_stage s n base)
stage_fine s n None is = first_fine s n s.opened is
stage_fine s n (Some base) is = judged_fine (user_met s base n) ((user_met s base n).receiving && (user_met s base n).sending) is

user_by_fine : (s : UserState) (n : Notice) (over : Bool) (f : Option Failure) → IsUser s → UserFine s (if over then passed s else user_by s n f)
user_by_fine s n true f is = (tt, is)
user_by_fine s n false (Some f) is = (tt, is)
user_by_fine s n false None is = stage_fine s n s.base is

user_fine : (s : UserState) (n : Notice) → IsUser s → UserFine s (user_turn s n)
unfolding user_turn
user_fine s n is = user_by_fine s n s.over (user_failure s n) is

closing_fine : (receive send : ℕ) (a b : Bool) → Fine (if a then request.Close send ∷ [] else (if b then request.Close receive ∷ [] else []))
closing_fine receive send true b = (closes send, tt)
closing_fine receive send false true = (closes receive, tt)
closing_fine receive send false false = tt

closed_fine : (receive send : ℕ) (n : Notice) → Fine (ends.closed_by receive send n)
closed_fine receive send (notice.Ended socket peer foreign) = closing_fine receive send (socket == receive) (socket == send)
closed_fine receive send n = tt

sending_fine : (send : ℕ) (bits : List Bool) → Fine (ends.sending send bits)
sending_fine send [] = tt
sending_fine send (b ∷ bits) = (sends send (b ∷ bits), tt)

echo_by_fine : (s : EchoState) (o : Option (List Bool)) (closes : List Request) → Fine closes → Fine (echo_by s o closes).1
echo_by_fine s None closes fine = fine
echo_by_fine s (Some bits) closing fine = (grants_again s.receive bits, sending_fine s.send bits)

echo_fine : (s : EchoState) (n : Notice) → Fine (echo_turn s n).1
unfolding echo_turn
echo_fine s n = echo_by_fine s (ends.arrived_on s.receive n) (ends.closed_by s.receive s.send n) (closed_fine s.receive s.send n)

terminal_by_fine : (s : TerminalState) (o : Option (List Bool)) (closes : List Request) → Fine closes → Fine (terminal_by s o closes).requests
terminal_by_fine s None closes fine = fine
terminal_by_fine s (Some bits) closing fine = (grants_again s.receive bits, tt)

terminal_fine : (s : TerminalState) (n : Notice) → Fine (terminal_turn s n).requests
unfolding terminal_turn
terminal_fine s n = terminal_by_fine s (ends.arrived_on s.receive n) (ends.closed_by s.receive s.send n) (closed_fine s.receive s.send n)

-- ---- all services

one_fine : (n : Notice) (s : Service) (d : ServiceDeskState) → NamesPeer s → IsFine d (heard_by n s d)
one_fine n (service.Server s) d is = server_after d (server_turn s n).0 (server_turn s n).2 (asks d (server_turn s n).1) (all_asks d (server_turn s n).1 (server_fine s n))
one_fine n (service.User s) d is =
    let t : UserFine s (user_turn s n) = user_fine s n is in
    user_after d (user_turn s n).0 (user_turn s n).2 (asks d (user_turn s n).1) t.1 (all_asks d (user_turn s n).1 t.0)
one_fine n (service.Echo s) d is = (all_tried d (echo_turn s n).1 (echo_fine s n), tt)
one_fine n (service.Terminal s) d is =
    let e : ServiceDeskState = tries d (terminal_turn s n).requests in
    (then_asked d e (lines_told e (terminal_turn s n).lines) (all_tried d (terminal_turn s n).requests (terminal_fine s n)) (lines_asked e (terminal_turn s n).lines), tt)

abbrev AllFine : ServiceDeskState → List Service × ServiceDeskState → Type 0
AllFine d t = HasAsked d t.1 × All NamesPeer t.0

heard_all_fine : (n : Notice) (ss : List Service) (d : ServiceDeskState) → All NamesPeer ss → AllFine d (notice_heard n ss d)
heard_all_fine n [] d named = (same_asked d d refl refl, All-nil NamesPeer)
heard_all_fine n (s ∷ ss) d named =
    let one : IsFine d (heard_by n s d) = one_fine n s d (All-head NamesPeer s ss named) in
    let rest : AllFine (heard_by n s d).1 (notice_heard n ss (heard_by n s d).1) = heard_all_fine n ss (heard_by n s d).1 (All-tail NamesPeer s ss named) in
    (then_asked d (heard_by n s d).1 (notice_heard n ss (heard_by n s d).1).1 one.0 rest.0, All-cons NamesPeer (heard_by n s d).0 (notice_heard n ss (heard_by n s d).1).0 one.1 rest.1)

told_fine_all : (ns : List Notice) (ss : List Service) (d : ServiceDeskState) → All NamesPeer ss → AllFine d (all_heard ns ss d)
told_fine_all [] ss d named = (same_asked d d refl refl, named)
told_fine_all (n ∷ ns) ss d named =
    let here : AllFine (noticing d) (notice_heard n ss (noticing d)) = heard_all_fine n ss (noticing d) named in
    let rest : AllFine (notice_heard n ss (noticing d)).1 (all_heard ns (notice_heard n ss (noticing d)).0 (notice_heard n ss (noticing d)).1) = told_fine_all ns (notice_heard n ss (noticing d)).0 (notice_heard n ss (noticing d)).1 here.1 in (
      then_asked d (noticing d) (all_heard (n ∷ ns) ss d).1 (same_asked d (noticing d) refl refl)
          (then_asked (noticing d) (notice_heard n ss (noticing d)).1 (all_heard (n ∷ ns) ss d).1 here.0 rest.0),
      rest.1,
    )

-- where what is typed goes changes nothing of it
from_typing : (typing : Option ℕ) (d e : ServiceDeskState) → HasAsked (typing_on typing d) e → HasAsked d e
from_typing typing d e h = record { more = h.more; asked = h.asked; program = h.program; each = h.each; unrefused = h.unrefused }

pub told_asked : (ns : List Notice) (s : ServicesState) (d : ServiceDeskState) → NamePeers s → HasAsked d (services_told ns s d).1 × NamePeers (services_told ns s d).0
unfolding services_told
told_asked ns s d named =
    let t : AllFine (typing_on s.typing d) (all_heard ns s.running (typing_on s.typing d)) = told_fine_all ns s.running (typing_on s.typing d) named in
    (from_typing s.typing d (all_heard ns s.running (typing_on s.typing d)).1 t.0, t.1)

-- ---- new services

last_named : (ss : List Service) (t : Turned) → All NamesPeer ss → NamesPeer t.0 → All NamesPeer (ss ++ t.0 ∷ [])
last_named ss t named is = All-append NamesPeer ss (t.0 ∷ []) named (All-cons NamesPeer t.0 [] is (All-nil NamesPeer))

server_begun_by : (listen base : ℕ) (d : ServiceDeskState) → IsFine d (server_asks (opening_server listen base, server_requests listen base, None) d)
server_begun_by listen base d = server_after d (opening_server listen base) None (asks d (server_requests listen base)) (all_asks d (server_requests listen base) (listens listen 32 (omega arith), (listens base 8 (omega arith), (listens (base + 1) 8 (omega arith), tt))))

server_begins_fine : (listen base : ℕ) (ss : List Service) (d : ServiceDeskState) (f : Option StartFault) → HasAsked d (server_begins listen base ss d f).1
server_begins_fine listen base ss d (Some f) = same_asked d (server_begins listen base ss d (Some f)).1 refl refl
server_begins_fine listen base ss d None = (server_begun_by listen base d).0

server_begins_named : (listen base : ℕ) (ss : List Service) (d : ServiceDeskState) (f : Option StartFault) → All NamesPeer ss → All NamesPeer (server_begins listen base ss d f).0
server_begins_named listen base ss d (Some f) named = named
server_begins_named listen base ss d None named = last_named ss (server_asks (opening_server listen base, server_requests listen base, None) d) named (server_begun_by listen base d).1

pub server_asked_all : (listen base : ℕ) (s : ServicesState) (d : ServiceDeskState) → HasAsked d (server_begun listen base s d).1
unfolding server_begun
server_asked_all listen base s d =
    from_typing s.typing d (server_begins listen base s.running (typing_on s.typing d) (server_fault listen base)).1 (server_begins_fine listen base s.running (typing_on s.typing d) (server_fault listen base))

pub server_named_all : (listen base : ℕ) (s : ServicesState) (d : ServiceDeskState) → NamePeers s → NamePeers (server_begun listen base s d).0
unfolding server_begun
server_named_all listen base s d named = server_begins_named listen base s.running (typing_on s.typing d) (server_fault listen base) named

-- where a user can begin, its own sockets are numbers of four octets
start_fits : (a b c : Bool) → (if a && (b && c) then None else Some fault.BadSocket) ≡ None → c ≡ true
start_fits true true true e = refl
start_fits true true false e = absurd (cc)
start_fits true false c e = absurd (cc)
start_fits false b c e = absurd (cc)

last_fits : (listen own : ℕ) → user_fault listen own ≡ None → own + 3 ≤ 4294967295
last_fits listen own e =
    let t : nat_le (own + 3) 4294967295 ≡ true = start_fits (is_send_socket listen) (is_receive_socket own) (nat_le (own + 3) 4294967295) e in
    grind (arith, nat_tests, t)

user_begun_by : (peer : Host) (listen own : ℕ) (d : ServiceDeskState) → IsAddress peer → IsWord listen → user_fault listen own ≡ None → IsFine d (user_asks (opening_user peer listen own, user_requests peer listen own, None) d)
user_begun_by peer listen own d is word can =
    let last : own + 3 ≤ 4294967295 = last_fits listen own can in
    user_after d (opening_user peer listen own) None (asks d (user_requests peer listen own)) (is, omega arith, omega arith)
    (all_asks d (user_requests peer listen own) (asks_to_receive peer own listen is (omega arith) word, tt))

user_begins_fine : (peer : Host) (listen own : ℕ) (ss : List Service) (d : ServiceDeskState) (f : Option StartFault) → user_fault listen own ≡ f → IsAddress peer → IsWord listen → HasAsked d (user_begins peer listen own ss d f).1
user_begins_fine peer listen own ss d (Some f) e is word = same_asked d (user_begins peer listen own ss d (Some f)).1 refl refl
user_begins_fine peer listen own ss d None e is word = (user_begun_by peer listen own d is word e).0

user_begins_named : (peer : Host) (listen own : ℕ) (ss : List Service) (d : ServiceDeskState) (f : Option StartFault) → user_fault listen own ≡ f → IsAddress peer → IsWord listen → All NamesPeer ss → All NamesPeer (user_begins peer listen own ss d f).0
user_begins_named peer listen own ss d (Some f) e is word named = named
user_begins_named peer listen own ss d None e is word named = last_named ss (user_asks (opening_user peer listen own, user_requests peer listen own, None) d) named (user_begun_by peer listen own d is word e).1

pub user_asked_all : (peer : Host) (listen own : ℕ) (s : ServicesState) (d : ServiceDeskState) → IsAddress peer → IsWord listen → HasAsked d (user_begun peer listen own s d).1
unfolding user_begun
user_asked_all peer listen own s d is word =
    from_typing s.typing d (user_begins peer listen own s.running (typing_on s.typing d) (user_fault listen own)).1 (user_begins_fine peer listen own s.running (typing_on s.typing d) (user_fault listen own) refl is word)

pub user_named_all : (peer : Host) (listen own : ℕ) (s : ServicesState) (d : ServiceDeskState) → IsAddress peer → IsWord listen → NamePeers s → NamePeers (user_begun peer listen own s d).0
unfolding user_begun
user_named_all peer listen own s d is word named = user_begins_named peer listen own s.running (typing_on s.typing d) (user_fault listen own) refl is word named
