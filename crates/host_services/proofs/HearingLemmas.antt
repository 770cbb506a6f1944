-- What does nothing to a service.
use Rattle.std.proofs.Common.{◌≡◌, ℕ, ◌+◌, ◌==◌, ◌&&◌, ◌||◌, Bool, true, false, if◌then◌else◌, List, [], Option, Some, None, is_some, is_none, refl, ap, sym, ◌∙◌, arith}
use Rattle.std.specs.Option.{option_or}
use Rattle.std.proofs.lemmas.Bool.{or_parts}
use Rattle.interface.specs.Host.{Host}
use Rattle.host_pairs.specs.declared.notice.Notice.{Notice}
use Rattle.host_pairs.specs.declared.notice.Notice.TheVariants as notice
use Rattle.icp.specs.Notices as notices
use Rattle.icp.specs.Outcomes.{passed}
use Rattle.icp.specs.Server.{ServerState, server_by, server_failure, server_judged, server_met, server_refused, server_reset, server_says, server_turn, server_verdict}
use Rattle.icp.specs.User.{UserState, user_by, user_failure, user_heard, user_judged, user_met, user_opened, user_refused, user_stage, user_turn}
use Rattle.icp.proofs.lemmas.{server_over, user_over}
use Rattle.icp.specs.declared.notices.Partner.{Partner}
use Rattle.icp.specs.declared.outcome.Failure.{Failure}
use Rattle.sockets.specs.declared.request.Request.{Request}
use Rattle.terminal.specs.Ends.{arrived_on, closed_by}
use Rattle.terminal.specs.Machines.{EchoState, TerminalState, echo_turn, terminal_turn}
use Rattle.host_services.specs.Ears.{ear_by, ear_of, hears, subject_of}
use Rattle.host_services.specs.Services.{Service, ServiceDeskState}
use Rattle.host_services.specs.Turns.{heard_by}
use Rattle.host_services.specs.declared.hearing.Ear.TheVariants as ear
use Rattle.host_services.specs.declared.hearing.Subject.{Subject}
use Rattle.host_services.specs.declared.hearing.Subject.TheVariants as subject
use Rattle.host_services.specs.declared.service.Service.TheVariants as service
use Rattle.interface.proofs.lemmas.{and_none, or_nothing}

-- ---- truth values

-- ---- what a notice is about

abbrev pub is_about : ℕ → Subject → Bool
is_about socket (subject.Socket other) = other == socket
is_about socket subject.Reset = false
is_about socket subject.Other = false

abbrev pub is_reset : Subject → Bool
is_reset (subject.Socket other) = false
is_reset subject.Reset = true
is_reset subject.Other = false

begins_by : (asks receive send : ℕ) (t : Subject) → hears (ear.Begins asks receive send) t ≡ (is_reset t || (is_about asks t || (is_about receive t || is_about send t)))
begins_by asks receive send (subject.Socket x) = refl
begins_by asks receive send subject.Reset = refl
begins_by asks receive send subject.Other = refl

ends_by : (receive send : ℕ) (t : Subject) → hears (ear.Ends receive send) t ≡ (is_about receive t || is_about send t)
ends_by receive send (subject.Socket x) = refl
ends_by receive send subject.Reset = refl
ends_by receive send subject.Other = refl

all_by : (t : Subject) → hears ear.Everything t ≡ true
all_by (subject.Socket x) = refl
all_by subject.Reset = refl
all_by subject.Other = refl

pub no_truth : true ≡ false → ⊥
no_truth e = grind arith

-- ---- what a notice doesn't say of a socket that it isn't about

not_opened : (k : ℕ) (n : Notice) → is_about k (subject_of n) ≡ false → notices.opened_on k n ≡ None
not_opened k (notice.Opened x peer foreign own partner) away = rw away refl
not_opened k n away = refl

not_ended : (k : ℕ) (n : Notice) → is_about k (subject_of n) ≡ false → notices.has_ended k n ≡ false
not_ended k (notice.Ended x peer foreign) away = away
not_ended k n away = refl

not_arrived : (k : ℕ) (n : Notice) → is_about k (subject_of n) ≡ false → notices.arrived_on k n ≡ None
not_arrived k (notice.Arrived x bits) away = rw away refl
not_arrived k n away = refl

not_reset : (h : Host) (n : Notice) → is_reset (subject_of n) ≡ false → notices.is_reset h n ≡ false
not_reset h (notice.PairReset peer) away = absurd (cc)
not_reset h n away = refl

not_reset_of : (o : Option Partner) (n : Notice) → is_reset (subject_of n) ≡ false → notices.is_reset_of o n ≡ false
not_reset_of None n away = refl
not_reset_of (Some p) n away = not_reset p.peer n away

-- ---- a server

or_none : (o : Option Partner) → option_or o None ≡ o
or_none None = refl
or_none (Some p) = refl

no_verdict : (s : ServerState) (a b : Option Partner) → (is_some a && is_some b) ≡ false → server_verdict s a b ≡ None
no_verdict s None b few = refl
no_verdict s (Some r) None few = refl
no_verdict s (Some r) (Some t) few = absurd (cc)

no_server_failure : (s : ServerState) (n : Notice) → is_reset (subject_of n) ≡ false → is_about s.listen (subject_of n) ≡ false → is_about s.receive (subject_of n) ≡ false → is_about s.send (subject_of n) ≡ false
    → server_failure s n ≡ None
no_server_failure s n reset listen receive send =
    let refused : server_refused s n ≡ false = rw (not_ended s.receive n receive, not_ended s.send n send, not_ended s.listen n listen) (and_none (is_none s.user)) in
    let gone : server_reset s n ≡ false = rw (not_reset_of s.user n reset, not_reset_of s.receiving n reset, not_reset_of s.sending n reset) refl in
    rw (refused, gone) refl

nobody_met : (s : ServerState) (n : Notice) → is_about s.listen (subject_of n) ≡ false → is_about s.receive (subject_of n) ≡ false → is_about s.send (subject_of n) ≡ false → server_met s n ≡ s
nobody_met s n listen receive send =
    rw (not_opened s.listen n listen, not_opened s.receive n receive, not_opened s.send n send, or_none s.user, or_none s.receiving, or_none s.sending) refl

nothing_said : (s : ServerState) (n : Notice) → is_about s.listen (subject_of n) ≡ false → server_says s n ≡ []
nothing_said s n listen = rw (not_opened s.listen n listen, and_none (is_none s.user)) refl

none_judged : (s : ServerState) → s.over ≡ false → (is_some s.receiving && is_some s.sending) ≡ false → server_judged s [] ≡ passed s
none_judged s over few = rw (no_verdict s s.receiving s.sending few, sym over) refl

server_goes : (s : ServerState) (n : Notice) → s.over ≡ false → server_turn s n ≡ server_by s n (server_failure s n)
unfolding server_turn
server_goes s n over = rw over refl

server_passed : (s : ServerState) (n : Notice) → s.over ≡ false → (is_some s.receiving && is_some s.sending) ≡ false
    → is_reset (subject_of n) ≡ false → is_about s.listen (subject_of n) ≡ false → is_about s.receive (subject_of n) ≡ false → is_about s.send (subject_of n) ≡ false → server_turn s n ≡ passed s
server_passed s n over few reset listen receive send =
    server_goes s n over
    ∙ ap (λ (f : Option Failure). server_by s n f) (no_server_failure s n reset listen receive send)
    ∙ ap (λ (m : ServerState). server_judged m (server_says s n)) (nobody_met s n listen receive send)
    ∙ ap (λ (rs : List Request). server_judged s rs) (nothing_said s n listen)
    ∙ none_judged s over few

-- ---- a user

not_first_opened : (k : ℕ) (h : Host) (foreign : ℕ) (n : Notice) → is_about k (subject_of n) ≡ false → notices.is_opened k h foreign n ≡ false
not_first_opened k h foreign n away = rw (not_opened k n away) refl

user_refused_by : (base : Option ℕ) (own receive send : Bool) → own ≡ false → receive ≡ false → send ≡ false → (if is_none base then own else receive || send) ≡ false
user_refused_by None own receive send o r t = o
user_refused_by (Some base) own receive send o r t = rw (r, t) refl

no_user_failure : (s : UserState) (n : Notice) → is_reset (subject_of n) ≡ false → is_about s.own (subject_of n) ≡ false → is_about s.receive (subject_of n) ≡ false → is_about s.send (subject_of n) ≡ false
    → user_failure s n ≡ None
no_user_failure s n reset own receive send =
    let refused : user_refused s n ≡ false =
    user_refused_by s.base (notices.has_ended s.own n) (notices.has_ended s.receive n) (notices.has_ended s.send n) (not_ended s.own n own) (not_ended s.receive n receive) (not_ended s.send n send) in
    rw (refused, not_reset s.peer n reset) refl

no_first : (s : UserState) (n : Notice) → is_about s.own (subject_of n) ≡ false → user_opened s n ≡ passed s
no_first s n own = rw (not_first_opened s.own s.peer s.listen n own) refl

no_bits : (s : UserState) (n : Notice) → is_about s.own (subject_of n) ≡ false → user_heard s (notices.arrived_on s.own n) ≡ passed s
no_bits s n own = rw (not_arrived s.own n own) refl

none_met : (s : UserState) (n : Notice) (base : ℕ) → is_about s.receive (subject_of n) ≡ false → is_about s.send (subject_of n) ≡ false → user_met s base n ≡ s
none_met s n base receive send =
    rw (not_first_opened s.receive s.peer (base + 1) n receive, not_first_opened s.send s.peer base n send, or_nothing s.receiving, or_nothing s.sending) refl

by_stage : (opened : Bool) (s : UserState) (n : Notice) → is_about s.own (subject_of n) ≡ false
    → (if opened then user_heard s (notices.arrived_on s.own n) else user_opened s n) ≡ passed s
by_stage true s n own = no_bits s n own
by_stage false s n own = no_first s n own

none_open : (s : UserState) → (s.receiving && s.sending) ≡ false → user_judged s ≡ passed s
none_open s few = rw few refl

stage_passed : (s : UserState) (n : Notice) (base : Option ℕ) → (s.receiving && s.sending) ≡ false → is_about s.own (subject_of n) ≡ false → is_about s.receive (subject_of n) ≡ false → is_about s.send (subject_of n) ≡ false
    → user_stage s n base ≡ passed s
stage_passed s n None few own receive send = by_stage s.opened s n own
stage_passed s n (Some base) few own receive send = ap user_judged (none_met s n base receive send) ∙ none_open s few

user_goes : (s : UserState) (n : Notice) → s.over ≡ false → user_turn s n ≡ user_by s n (user_failure s n)
unfolding user_turn
user_goes s n over = rw over refl

user_passed : (s : UserState) (n : Notice) → s.over ≡ false → (s.receiving && s.sending) ≡ false
    → is_reset (subject_of n) ≡ false → is_about s.own (subject_of n) ≡ false → is_about s.receive (subject_of n) ≡ false → is_about s.send (subject_of n) ≡ false → user_turn s n ≡ passed s
user_passed s n over few reset own receive send =
    user_goes s n over
    ∙ ap (λ (f : Option Failure). user_by s n f) (no_user_failure s n reset own receive send)
    ∙ stage_passed s n s.base few own receive send

-- ---- what follows them

arrived_elsewhere : (k : ℕ) (n : Notice) → is_about k (subject_of n) ≡ false → arrived_on k n ≡ None
arrived_elsewhere k (notice.Arrived x bits) away = rw away refl
arrived_elsewhere k n away = refl

nothing_closed : (r t : ℕ) (n : Notice) → is_about r (subject_of n) ≡ false → is_about t (subject_of n) ≡ false → closed_by r t n ≡ []
nothing_closed r t (notice.Ended x peer foreign) receive send = rw (receive, send) refl
nothing_closed r t n receive send = refl

quiet_echo : (n : Notice) (s : EchoState) (d : ServiceDeskState) → arrived_on s.receive n ≡ None → closed_by s.receive s.send n ≡ [] → heard_by n (service.Echo s) d ≡ (service.Echo s, d)
unfolding echo_turn
quiet_echo n s d a c = rw (a, c) refl

quiet_terminal : (n : Notice) (s : TerminalState) (d : ServiceDeskState) → arrived_on s.receive n ≡ None → closed_by s.receive s.send n ≡ [] → heard_by n (service.Terminal s) d ≡ (service.Terminal s, d)
unfolding terminal_turn
quiet_terminal n s d a c = rw (a, c) refl

-- ---- a service that doesn't hear of what a notice is about

by_server : (n : Notice) (s : ServerState) (d : ServiceDeskState) (over both : Bool) → s.over ≡ over → (is_some s.receiving && is_some s.sending) ≡ both
    → hears (ear_by over both s.listen s.receive s.send) (subject_of n) ≡ false → heard_by n (service.Server s) d ≡ (service.Server s, d)
by_server n s d true both over is away = rw (server_over s n over) refl
by_server n s d false true over is away = absurd (no_truth (sym (all_by (subject_of n)) ∙ away))
by_server n s d false false over is away =
    let reset : (is_reset (subject_of n) ≡ false) × ((is_about s.listen (subject_of n) || (is_about s.receive (subject_of n) || is_about s.send (subject_of n))) ≡ false) =
    or_parts (is_reset (subject_of n)) (is_about s.listen (subject_of n) || (is_about s.receive (subject_of n) || is_about s.send (subject_of n))) (sym (begins_by s.listen s.receive s.send (subject_of n)) ∙ away) in
    let listen : (is_about s.listen (subject_of n) ≡ false) × ((is_about s.receive (subject_of n) || is_about s.send (subject_of n)) ≡ false) =
    or_parts (is_about s.listen (subject_of n)) (is_about s.receive (subject_of n) || is_about s.send (subject_of n)) reset.1 in
    let ends : (is_about s.receive (subject_of n) ≡ false) × (is_about s.send (subject_of n) ≡ false) = or_parts (is_about s.receive (subject_of n)) (is_about s.send (subject_of n)) listen.1 in
    rw (server_passed s n over is reset.0 listen.0 ends.0 ends.1) refl

by_user : (n : Notice) (s : UserState) (d : ServiceDeskState) (over both : Bool) → s.over ≡ over → (s.receiving && s.sending) ≡ both
    → hears (ear_by over both s.own s.receive s.send) (subject_of n) ≡ false → heard_by n (service.User s) d ≡ (service.User s, d)
by_user n s d true both over is away = rw (user_over s n over) refl
by_user n s d false true over is away = absurd (no_truth (sym (all_by (subject_of n)) ∙ away))
by_user n s d false false over is away =
    let reset : (is_reset (subject_of n) ≡ false) × ((is_about s.own (subject_of n) || (is_about s.receive (subject_of n) || is_about s.send (subject_of n))) ≡ false) =
    or_parts (is_reset (subject_of n)) (is_about s.own (subject_of n) || (is_about s.receive (subject_of n) || is_about s.send (subject_of n))) (sym (begins_by s.own s.receive s.send (subject_of n)) ∙ away) in
    let own : (is_about s.own (subject_of n) ≡ false) × ((is_about s.receive (subject_of n) || is_about s.send (subject_of n)) ≡ false) =
    or_parts (is_about s.own (subject_of n)) (is_about s.receive (subject_of n) || is_about s.send (subject_of n)) reset.1 in
    let ends : (is_about s.receive (subject_of n) ≡ false) × (is_about s.send (subject_of n) ≡ false) = or_parts (is_about s.receive (subject_of n)) (is_about s.send (subject_of n)) own.1 in
    rw (user_passed s n over is reset.0 own.0 ends.0 ends.1) refl

pub deaf : (n : Notice) (s : Service) (d : ServiceDeskState) → hears (ear_of s) (subject_of n) ≡ false → heard_by n s d ≡ (s, d)
deaf n (service.Server s) d away = by_server n s d s.over (is_some s.receiving && is_some s.sending) refl refl away
deaf n (service.User s) d away = by_user n s d s.over (s.receiving && s.sending) refl refl away
deaf n (service.Echo s) d away =
    let ends : (is_about s.receive (subject_of n) ≡ false) × (is_about s.send (subject_of n) ≡ false) = or_parts (is_about s.receive (subject_of n)) (is_about s.send (subject_of n)) (sym (ends_by s.receive s.send (subject_of n)) ∙ away) in
    quiet_echo n s d (arrived_elsewhere s.receive n ends.0) (nothing_closed s.receive s.send n ends.0 ends.1)
deaf n (service.Terminal s) d away =
    let ends : (is_about s.receive (subject_of n) ≡ false) × (is_about s.send (subject_of n) ≡ false) = or_parts (is_about s.receive (subject_of n)) (is_about s.send (subject_of n)) (sym (ends_by s.receive s.send (subject_of n)) ∙ away) in
    quiet_terminal n s d (arrived_elsewhere s.receive n ends.0) (nothing_closed s.receive s.send n ends.0 ends.1)
