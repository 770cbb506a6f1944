-- A user is done only where both its connections were opened with sockets of its peer.
use Rattle.std.proofs.Common.{◌≡◌, ℕ, ◌+◌, ◌<◌, ◌≤◌, ◌&&◌, ◌||◌, Bool, true, false, nat_lt, List, [], ◌∷◌, ◌++◌, length, take, Option, Some, None, is_some, if◌then◌else◌, refl, ap, sym, subst, ◌∙◌, append_assoc, length-append, arith}
use Rattle.std.specs.List.{list_any}
use Rattle.std.proofs.lemmas.Bool.Decides.{nat_tests}
use Rattle.std.proofs.lemmas.List.{take-append-le}
use Rattle.interface.specs.Host.{Host}
use Rattle.ncp_control.specs.Numbers.{is_receive_socket}
use Rattle.icp.specs.Notices.{arrived_on, is_opened}
use Rattle.icp.specs.Outcomes.{IcpTurn, passed}
use Rattle.icp.specs.Played.{IsConnected, arrived_in, before, bits_in, outcomes_of, said_to, since_opened, user_played}
use Rattle.icp.specs.Sockets.{socket_of}
use Rattle.icp.specs.User.{UserState, opening_user, user_by, user_failure, user_heard, user_joined, user_judged, user_met, user_opened, user_stage, user_told, user_turn}
use Rattle.icp.specs.declared.outcome.Failure.{Failure}
use Rattle.icp.specs.declared.outcome.Outcome.{Outcome}
use Rattle.icp.specs.declared.outcome.Outcome.TheVariants as outcome
use Rattle.host_pairs.specs.declared.notice.Notice.{Notice}
use Rattle.icp.proofs.ServerLemmas.{ended_by, is_done, is_not, receive_of, send_of}
use Rattle.interface.proofs.lemmas.{and_first, and_second}

-- ---- after its outcome

pub user_over : (s : UserState) (n : Notice) → s.over ≡ true → user_turn s n ≡ passed s
unfolding user_turn
user_over s n o = rw o refl

turn_on : (s : UserState) (n : Notice) → s.over ≡ false → user_turn s n ≡ user_by s n (user_failure s n)
unfolding user_turn
turn_on s n o = rw o refl

pub silent : (s : UserState) (ns : List Notice) → s.over ≡ true → (user_played s ns).2 ≡ []
silent s [] o = refl
silent s (n ∷ ns) o = ap (λ (t : IcpTurn UserState). (before t (user_played t.0 ns)).2) (user_over s n o) ∙ silent s ns o

-- ---- what a turn keeps while the base isn't known

pub record Keeps (s : UserState) (t : IcpTurn UserState) : Type 0 where
  pub outcome : ended_by t.2 ≡ false
  pub peer : t.0.peer ≡ s.peer
  pub receive : t.0.receive ≡ s.receive
  pub send : t.0.send ≡ s.send
  pub receiving : t.0.receiving ≡ s.receiving
  pub sending : t.0.sending ≡ s.sending
  pub over : is_some t.2 ≡ true → t.0.over ≡ true

told_keeps : (s : UserState) (base : ℕ) (even : Bool) → is_receive_socket base ≡ even → Keeps s (user_told s base)
told_keeps s base true is = rw is (record { outcome = refl; peer = refl; receive = refl; send = refl; receiving = refl; sending = refl; over = λ e. absurd (is_not e) })
told_keeps s base false is = rw is (record { outcome = refl; peer = refl; receive = refl; send = refl; receiving = refl; sending = refl; over = λ e. refl })

joined_keeps : (s : UserState) (bits : List Bool) (few : Bool) → nat_lt (length bits) 32 ≡ few → Keeps s (user_joined s bits)
joined_keeps s bits true is = rw is (record { outcome = refl; peer = refl; receive = refl; send = refl; receiving = refl; sending = refl; over = λ e. absurd (is_not e) })
joined_keeps s bits false is =
    let base : ℕ = socket_of (take 32 bits) in
    let k : Keeps (record s { bits = [] }) (user_told (record s { bits = [] }) base) = told_keeps (record s { bits = [] }) base (is_receive_socket base) refl in
    rw is (record { outcome = k.outcome; peer = k.peer; receive = k.receive; send = k.send; receiving = k.receiving; sending = k.sending; over = k.over })

-- what it asks for once it knows the base
told_asks : (s : UserState) (base : ℕ) (even : Bool) → is_receive_socket base ≡ even → 0 < length (user_told s base).1
told_asks s base true is = rw is (omega arith)
told_asks s base false is = rw is (omega arith)

pub joined_asks : (s : UserState) (bits : List Bool) → 32 ≤ length bits → 0 < length (user_joined s bits).1
joined_asks s bits enough =
    let all : nat_lt (length bits) 32 ≡ false = grind (arith, nat_tests, enough) in
    rw all (told_asks (record s { bits = [] }) (socket_of (take 32 bits)) (is_receive_socket (socket_of (take 32 bits))) refl)

heard_keeps : (s : UserState) (o : Option (List Bool)) → Keeps s (user_heard s o)
heard_keeps s None = record { outcome = refl; peer = refl; receive = refl; send = refl; receiving = refl; sending = refl; over = λ e. absurd (is_not e) }
heard_keeps s (Some bits) = joined_keeps s (s.bits ++ bits) (nat_lt (length (s.bits ++ bits)) 32) refl

opened_keeps : (s : UserState) (n : Notice) (there : Bool) → is_opened s.own s.peer s.listen n ≡ there → Keeps s (user_opened s n)
opened_keeps s n true is = rw is (record { outcome = refl; peer = refl; receive = refl; send = refl; receiving = refl; sending = refl; over = λ e. absurd (is_not e) })
opened_keeps s n false is = rw is (record { outcome = refl; peer = refl; receive = refl; send = refl; receiving = refl; sending = refl; over = λ e. absurd (is_not e) })

either : (s : UserState) (b : Bool) (t u : IcpTurn UserState) → Keeps s t → Keeps s u → Keeps s (if b then t else u)
either s true t u k l = k
either s false t u k l = l

stage_keeps : (s : UserState) (n : Notice) → Keeps s (user_stage s n None)
stage_keeps s n =
    either s s.opened (user_heard s (arrived_on s.own n)) (user_opened s n) (heard_keeps s (arrived_on s.own n)) (opened_keeps s n (is_opened s.own s.peer s.listen n) refl)

-- ---- over a list of notices

abbrev base_in : Option ℕ → ℕ → Type 0
base_in None b = Unit {0}
base_in (Some c) b = c ≡ b

abbrev number_in : Option ℕ → ℕ
number_in None = 0
number_in (Some b) = b

base_none : (o : Option ℕ) (b : ℕ) → o ≡ None → base_in o b
base_none None b e = tt
base_none (Some c) b e = absurd (is_not (sym (ap is_some e)))

base_some : (o : Option ℕ) (b : ℕ) → o ≡ Some b → base_in o b
base_some None b e = absurd (is_not (ap is_some e))
base_some (Some c) b e = ap number_in e

same_base : (o : Option ℕ) (b c : ℕ) → o ≡ Some b → base_in o c → b ≡ c
same_base None b c e k = absurd (is_not (ap is_some e))
same_base (Some x) b c e k = ap number_in (sym e) ∙ k

abbrev judged_if : UserState → Bool → IcpTurn UserState
judged_if m both = if both then (record m { over = true }, [], Some (outcome.Done m.receive m.send)) else passed m

-- whether an end is open, or these notices report its opening
abbrev is_open : Bool → ℕ → Host → ℕ → List Notice → Bool
is_open now socket peer foreign ns = now || list_any (λ n. is_opened socket peer foreign n) ns

-- what the server says to a user who has these bits so far
abbrev heard_by : Bool → UserState → List Notice → List Bool
heard_by true s ns = s.bits ++ arrived_in s.own ns
heard_by false s ns = s.bits ++ arrived_in s.own (since_opened s.own s.peer s.listen ns)

abbrev heard_from : UserState → List Notice → List Bool
heard_from s ns = heard_by s.opened s ns

-- bits that begin with an even base
pub record Says (bits : List Bool) (base : ℕ) : Type 0 where
  pub long : 32 ≤ length bits
  pub said : base ≡ socket_of (take 32 bits)
  pub even : is_receive_socket base ≡ true

-- a turn of a user who doesn't know the base takes in what a notice says
abbrev Step : UserState → IcpTurn UserState → Notice → List Notice → Type 0
Step s u n ns = (b : ℕ) → u.2 ≡ None → base_in u.0.base b → (u.0.base ≡ None → Says (heard_from u.0 ns) b) → Says (heard_from s (n ∷ ns)) b

enough : (xs ys : List Bool) → nat_lt (length xs) 32 ≡ false → 32 ≤ length xs
enough xs ys few = grind (arith, nat_tests)

longer : (xs ys : List Bool) → 32 ≤ length xs → 32 ≤ length (xs ++ ys)
longer xs ys long = let both : length (xs ++ ys) ≡ length xs + length ys = length-append xs ys in omega arith

-- what the server says from a notice on
heard_wide : (s : UserState) (n : Notice) (ns : List Notice) (o : Option (List Bool)) → s.opened ≡ true → arrived_on s.own n ≡ o → s.bits ++ (bits_in o ++ arrived_in s.own ns) ≡ heard_from s (n ∷ ns)
heard_wide s n ns o wide arrives =
    ap (λ (p : Option (List Bool)). s.bits ++ (bits_in p ++ arrived_in s.own ns)) (sym arrives) ∙ ap (λ (b : Bool). heard_by b s (n ∷ ns)) (sym wide)

heard_shut : (s : UserState) (n : Notice) (ns : List Notice) (there : Bool) → s.opened ≡ false → is_opened s.own s.peer s.listen n ≡ there
    → s.bits ++ arrived_in s.own (if there then ns else since_opened s.own s.peer s.listen ns) ≡ heard_from s (n ∷ ns)
heard_shut s n ns there shut is =
    ap (λ (b : Bool). s.bits ++ arrived_in s.own (if b then ns else since_opened s.own s.peer s.listen ns)) (sym is) ∙ ap (λ (b : Bool). heard_by b s (n ∷ ns)) (sym shut)

told_step : (s : UserState) (n : Notice) (ns : List Notice) (bits : List Bool) (even : Bool) → is_receive_socket (socket_of (take 32 (s.bits ++ bits))) ≡ even
    → 32 ≤ length (s.bits ++ bits) → s.bits ++ (bits ++ arrived_in s.own ns) ≡ heard_from s (n ∷ ns) → Step s (user_told (record s { bits = [] }) (socket_of (take 32 (s.bits ++ bits)))) n ns
told_step s n ns bits true is long from =
    let all : List Bool = s.bits ++ (bits ++ arrived_in s.own ns) in
    let same : (s.bits ++ bits) ++ arrived_in s.own ns ≡ all = append_assoc s.bits bits (arrived_in s.own ns) in
    let front : take 32 all ≡ take 32 (s.bits ++ bits) = ap (take 32) (sym same) ∙ take-append-le 32 (s.bits ++ bits) (arrived_in s.own ns) long in
    rw is (λ b none base says. subst (λ (xs : List Bool). Says xs b) from (record {
      long = subst (λ (xs : List Bool). 32 ≤ length xs) same (longer (s.bits ++ bits) (arrived_in s.own ns) long);
      said = sym base ∙ ap socket_of (sym front);
      even = ap is_receive_socket (sym base) ∙ is;
    }))
told_step s n ns bits false is long from = rw is (λ b none base says. absurd (is_not (sym (ap is_some none))))

joined_step : (s : UserState) (n : Notice) (ns : List Notice) (bits : List Bool) (few : Bool) → nat_lt (length (s.bits ++ bits)) 32 ≡ few
    → s.bits ++ (bits ++ arrived_in s.own ns) ≡ heard_from s (n ∷ ns) → s.opened ≡ true → s.base ≡ None → Step s (user_joined s (s.bits ++ bits)) n ns
joined_step s n ns bits true is from wide unknown =
    let joined : UserState = record s { bits = s.bits ++ bits } in
    let here : heard_from joined ns ≡ s.bits ++ (bits ++ arrived_in s.own ns) = ap (λ (b : Bool). heard_by b joined ns) wide ∙ append_assoc s.bits bits (arrived_in s.own ns) in
    rw is (λ b none base says. subst (λ (xs : List Bool). Says xs b) (here ∙ from) (says unknown))
joined_step s n ns bits false is from wide unknown =
    let long : 32 ≤ length (s.bits ++ bits) = enough (s.bits ++ bits) [] is in
    rw is (told_step s n ns bits (is_receive_socket (socket_of (take 32 (s.bits ++ bits)))) refl long from)

heard_step : (s : UserState) (n : Notice) (ns : List Notice) (o : Option (List Bool)) → arrived_on s.own n ≡ o → s.opened ≡ true → s.base ≡ None → Step s (user_heard s o) n ns
heard_step s n ns None arrives wide unknown =
    let here : heard_from s ns ≡ s.bits ++ arrived_in s.own ns = ap (λ (b : Bool). heard_by b s ns) wide in
    λ b none base says. subst (λ (xs : List Bool). Says xs b) (here ∙ heard_wide s n ns None wide arrives) (says unknown)
heard_step s n ns (Some bits) arrives wide unknown =
    joined_step s n ns bits (nat_lt (length (s.bits ++ bits)) 32) refl (heard_wide s n ns (Some bits) wide arrives) wide unknown

opened_step : (s : UserState) (n : Notice) (ns : List Notice) (there : Bool) → is_opened s.own s.peer s.listen n ≡ there → s.opened ≡ false → s.base ≡ None → Step s (user_opened s n) n ns
opened_step s n ns true is shut unknown =
    let from : s.bits ++ arrived_in s.own ns ≡ heard_from s (n ∷ ns) = heard_shut s n ns true shut is in
    rw is (λ b none base says. subst (λ (xs : List Bool). Says xs b) from (says unknown))
opened_step s n ns false is shut unknown =
    let here : heard_from s ns ≡ s.bits ++ arrived_in s.own (since_opened s.own s.peer s.listen ns) = ap (λ (b : Bool). heard_by b s ns) shut in
    let from : s.bits ++ arrived_in s.own (since_opened s.own s.peer s.listen ns) ≡ heard_from s (n ∷ ns) = heard_shut s n ns false shut is in
    rw is (λ b none base says. subst (λ (xs : List Bool). Says xs b) (here ∙ from) (says unknown))

stage_by : (s : UserState) (n : Notice) (ns : List Notice) (wide : Bool) → s.opened ≡ wide → s.base ≡ None → Step s (if wide then user_heard s (arrived_on s.own n) else user_opened s n) n ns
stage_by s n ns true wide unknown = heard_step s n ns (arrived_on s.own n) refl wide unknown
stage_by s n ns false shut unknown = opened_step s n ns (is_opened s.own s.peer s.listen n) refl shut unknown

pub record IsUsed (s : UserState) (ns : List Notice) (r t : ℕ) : Type 0 where
  pub receive : r ≡ s.receive
  pub send : t ≡ s.send
  pub base : ℕ
  pub known : base_in s.base base
  pub said : s.base ≡ None → Says (heard_from s ns) base
  pub receiving : is_open s.receiving s.receive s.peer (base + 1) ns ≡ true
  pub sending : is_open s.sending s.send s.peer base ns ≡ true

later : (now here : Bool) (rest : Bool) → (now || rest) ≡ true → (now || (here || rest)) ≡ true
later true here rest e = refl
later false true rest e = refl
later false false rest e = e

joined_or : (now here rest : Bool) → ((now || here) || rest) ≡ true → (now || (here || rest)) ≡ true
joined_or true here rest e = refl
joined_or false here rest e = e

here_or : (now here rest : Bool) → (now || here) ≡ true → (now || (here || rest)) ≡ true
here_or true here rest e = refl
here_or false true rest e = refl
here_or false false rest e = absurd (is_not e)

abbrev Again : List Notice → ℕ → ℕ → Type 0
Again ns r t = (m : UserState) → (user_played m ns).2 ≡ outcome.Done r t ∷ [] → IsUsed m ns r t

by_first : (s : UserState) (n : Notice) (ns : List Notice) (r t : ℕ) → Again ns r t → (u : IcpTurn UserState) → Keeps s u → Step s u n ns → s.base ≡ None → (o : Option Outcome) → u.2 ≡ o
    → outcomes_of o ++ (user_played u.0 ns).2 ≡ outcome.Done r t ∷ [] → IsUsed s (n ∷ ns) r t
by_first s n ns r t again u k step none None is e =
    let d : IsUsed u.0 ns r t = again u.0 e in
    let receiving : is_open s.receiving s.receive s.peer (d.base + 1) ns ≡ true =
    ap (λ (now : Bool). is_open now s.receive s.peer (d.base + 1) ns) (sym k.receiving)
    ∙ ap (λ (socket : ℕ). is_open u.0.receiving socket s.peer (d.base + 1) ns) (sym k.receive)
    ∙ ap (λ (peer : Host). is_open u.0.receiving u.0.receive peer (d.base + 1) ns) (sym k.peer)
    ∙ d.receiving in
    let sending : is_open s.sending s.send s.peer d.base ns ≡ true =
    ap (λ (now : Bool). is_open now s.send s.peer d.base ns) (sym k.sending)
    ∙ ap (λ (socket : ℕ). is_open u.0.sending socket s.peer d.base ns) (sym k.send)
    ∙ ap (λ (peer : Host). is_open u.0.sending u.0.send peer d.base ns) (sym k.peer)
    ∙ d.sending in
    record {
      receive = d.receive ∙ k.receive;
      send = d.send ∙ k.send;
      base = d.base;
      known = base_none s.base d.base none;
      said = λ unknown. step d.base is d.known d.said;
      receiving = later s.receiving (is_opened s.receive s.peer (d.base + 1) n) (list_any (λ m. is_opened s.receive s.peer (d.base + 1) m) ns) receiving;
      sending = later s.sending (is_opened s.send s.peer d.base n) (list_any (λ m. is_opened s.send s.peer d.base m) ns) sending;
    }
by_first s n ns r t again u k step none (Some (outcome.Done r' t')) is e = absurd (is_not (sym k.outcome ∙ ap ended_by is))
by_first s n ns r t again u k step none (Some (outcome.Failed f)) is e = absurd (is_not (ap is_done e))

by_both : (s : UserState) (n : Notice) (ns : List Notice) (r t : ℕ) → Again ns r t → (base : ℕ) → s.base ≡ Some base → (both : Bool)
    → ((user_met s base n).receiving && (user_met s base n).sending) ≡ both
    → (before (user_judged (user_met s base n)) (user_played (user_judged (user_met s base n)).0 ns)).2 ≡ outcome.Done r t ∷ [] → IsUsed s (n ∷ ns) r t
by_both s n ns r t again base known true both e =
    let m : UserState = user_met s base n in
    let f : outcomes_of (Some (outcome.Done s.receive s.send)) ++ (user_played (record m { over = true }) ns).2 ≡ outcome.Done r t ∷ [] = sym (ap (λ (b : Bool). (before (judged_if m b) (user_played (judged_if m b).0 ns)).2) both) ∙ e in
    record {
      receive = sym (ap receive_of f);
      send = sym (ap send_of f);
      base = base;
      known = base_some s.base base known;
      said = λ unknown. absurd (is_not (sym (ap is_some (sym known ∙ unknown))));
      receiving = here_or s.receiving (is_opened s.receive s.peer (base + 1) n) (list_any (λ m. is_opened s.receive s.peer (base + 1) m) ns) (and_first m.receiving m.sending both);
      sending = here_or s.sending (is_opened s.send s.peer base n) (list_any (λ m. is_opened s.send s.peer base m) ns) (and_second m.receiving m.sending both);
    }
by_both s n ns r t again base known false both e =
    let m : UserState = user_met s base n in
    let f : (user_played m ns).2 ≡ outcome.Done r t ∷ [] = sym (ap (λ (b : Bool). (before (judged_if m b) (user_played (judged_if m b).0 ns)).2) both) ∙ e in
    let d : IsUsed m ns r t = again m f in
    let same : base ≡ d.base = same_base s.base base d.base known d.known in
    record {
      receive = d.receive;
      send = d.send;
      base = d.base;
      known = d.known;
      said = λ unknown. absurd (is_not (sym (ap is_some (sym known ∙ unknown))));
      receiving = joined_or s.receiving (is_opened s.receive s.peer (d.base + 1) n) (list_any (λ m. is_opened s.receive s.peer (d.base + 1) m) ns)
          (ap (λ (b : ℕ). is_open (s.receiving || is_opened s.receive s.peer (b + 1) n) s.receive s.peer (d.base + 1) ns) (sym same) ∙ d.receiving);
      sending = joined_or s.sending (is_opened s.send s.peer d.base n) (list_any (λ m. is_opened s.send s.peer d.base m) ns)
          (ap (λ (b : ℕ). is_open (s.sending || is_opened s.send s.peer b n) s.send s.peer d.base ns) (sym same) ∙ d.sending);
    }

by_stage : (s : UserState) (n : Notice) (ns : List Notice) (r t : ℕ) → Again ns r t → (base : Option ℕ) → s.base ≡ base
    → (before (user_stage s n base) (user_played (user_stage s n base).0 ns)).2 ≡ outcome.Done r t ∷ [] → IsUsed s (n ∷ ns) r t
by_stage s n ns r t again None is e = by_first s n ns r t again (user_stage s n None) (stage_keeps s n) (stage_by s n ns s.opened refl is) is (user_stage s n None).2 refl e
by_stage s n ns r t again (Some base) is e = by_both s n ns r t again base is ((user_met s base n).receiving && (user_met s base n).sending) refl e

by_failure : (s : UserState) (n : Notice) (ns : List Notice) (r t : ℕ) → Again ns r t → (f : Option Failure)
    → (before (user_by s n f) (user_played (user_by s n f).0 ns)).2 ≡ outcome.Done r t ∷ [] → IsUsed s (n ∷ ns) r t
by_failure s n ns r t again (Some f) e = absurd (is_not (ap is_done e))
by_failure s n ns r t again None e = by_stage s n ns r t again s.base refl e

by_over : (s : UserState) (n : Notice) (ns : List Notice) (r t : ℕ) → Again ns r t → (over : Bool) → s.over ≡ over
    → (user_played s (n ∷ ns)).2 ≡ outcome.Done r t ∷ [] → IsUsed s (n ∷ ns) r t
by_over s n ns r t again true o e = absurd (is_not (ap is_done (sym (silent s (n ∷ ns) o) ∙ e)))
by_over s n ns r t again false o e =
    by_failure s n ns r t again (user_failure s n) (sym (ap (λ (u : IcpTurn UserState). (before u (user_played u.0 ns)).2) (turn_on s n o)) ∙ e)

pub done : (ns : List Notice) (s : UserState) (r t : ℕ) → (user_played s ns).2 ≡ outcome.Done r t ∷ [] → IsUsed s ns r t
done [] s r t e = absurd (is_not (ap is_done e))
done (n ∷ ns) s r t e = by_over s n ns r t (λ (m : UserState) (i : (user_played m ns).2 ≡ outcome.Done r t ∷ []). done ns m r t i) s.over refl e

pub record UserDone (peer : Host) (listen own : ℕ) (notices : List Notice) (r t : ℕ) : Type 0 where
  pub receive : r ≡ own + 2
  pub send : t ≡ own + 3
  pub connected : IsConnected peer listen own notices

pub user_done : (peer : Host) (listen own : ℕ) (ns : List Notice) (r t : ℕ) → (user_played (opening_user peer listen own) ns).2 ≡ outcome.Done r t ∷ [] → UserDone peer listen own ns r t
user_done peer listen own ns r t e =
    let d : IsUsed (opening_user peer listen own) ns r t = done ns (opening_user peer listen own) r t e in
    let s : Says (said_to own peer listen ns) d.base = d.said refl in
    record {
      receive = d.receive;
      send = d.send;
      connected = record { base = d.base; long = s.long; said = s.said; even = s.even; receiving = d.receiving; sending = d.sending };
    }

-- ---- one outcome

judged_ends : (m : UserState) (both : Bool) → (m.receiving && m.sending) ≡ both → is_some (user_judged m).2 ≡ true → (user_judged m).0.over ≡ true
judged_ends m true is e = rw is refl
judged_ends m false is e = absurd (is_not (rw is at e))

stage_ends : (s : UserState) (n : Notice) (base : Option ℕ) → is_some (user_stage s n base).2 ≡ true → (user_stage s n base).0.over ≡ true
stage_ends s n None e = let k : Keeps s (user_stage s n None) = stage_keeps s n in k.over e
stage_ends s n (Some base) e = judged_ends (user_met s base n) ((user_met s base n).receiving && (user_met s base n).sending) refl e

ends_by : (s : UserState) (n : Notice) (f : Option Failure) → is_some (user_by s n f).2 ≡ true → (user_by s n f).0.over ≡ true
ends_by s n (Some f) e = refl
ends_by s n None e = stage_ends s n s.base e

ends_at : (s : UserState) (n : Notice) (over : Bool) → s.over ≡ over → is_some (user_turn s n).2 ≡ true → (user_turn s n).0.over ≡ true
ends_at s n true is e = ap (λ (t : IcpTurn UserState). t.0.over) (user_over s n is) ∙ is
ends_at s n false is e =
    ap (λ (t : IcpTurn UserState). t.0.over) (turn_on s n is)
    ∙ ends_by s n (user_failure s n) (sym (ap (λ (t : IcpTurn UserState). is_some t.2) (turn_on s n is)) ∙ e)

one_by : (s : UserState) (n : Notice) (ns : List Notice) (o : Option Outcome) → (user_turn s n).2 ≡ o → length (user_played (user_turn s n).0 ns).2 ≤ 1
    → length (outcomes_of o ++ (user_played (user_turn s n).0 ns).2) ≤ 1
one_by s n ns None is few = few
one_by s n ns (Some o) is few = rw (silent (user_turn s n).0 ns (ends_at s n s.over refl (ap is_some is))) (omega arith)

pub one_user_outcome : (ns : List Notice) (s : UserState) → length (user_played s ns).2 ≤ 1
one_user_outcome [] s = omega arith
one_user_outcome (n ∷ ns) s = one_by s n ns (user_turn s n).2 refl (one_user_outcome ns (user_turn s n).0)
