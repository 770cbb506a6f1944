-- A server is done only where its ends were opened by the user who was notified of them.
use Rattle.std.proofs.Common.{◌≡◌, ℕ, ◌+◌, ◌≤◌, ◌==◌, ◌&&◌, Bool, true, false, List, [], ◌∷◌, ◌++◌, length, Option, Some, None, is_some, refl, ap, sym, ◌∙◌, arith}
use Rattle.std.proofs.lemmas.Bool.Decides.{nat_tests}
use Rattle.std.specs.Option.{option_or}
use Rattle.interface.specs.Host.{Host, same_host}
use Rattle.interface.proofs.lemmas.{same_host-true, and_first, and_second}
use Rattle.icp.specs.Notices.{is_partner, opened_on}
use Rattle.icp.specs.Outcomes.{IcpTurn, passed}
use Rattle.icp.specs.Played.{IsServed, above, before, opened_in, outcomes_of, server_played}
use Rattle.icp.specs.Server.{ServerState, are_of, opening_server, server_by, server_failure, server_met, server_turn, server_verdict}
use Rattle.icp.specs.declared.notices.Partner.{Partner}
use Rattle.icp.specs.declared.outcome.Failure.{Failure}
use Rattle.icp.specs.declared.outcome.Failure.TheVariants as failure
use Rattle.icp.specs.declared.outcome.Outcome.{Outcome}
use Rattle.icp.specs.declared.outcome.Outcome.TheVariants as outcome
use Rattle.host_pairs.specs.declared.notice.Notice.{Notice}

-- ---- options and outcomes

pub is_not : false ≡ true → ⊥
is_not e = grind arith

or_assoc : (a b c : Option Partner) → option_or (option_or a b) c ≡ option_or a (option_or b c)
or_assoc None b c = refl
or_assoc (Some x) b c = refl

or_some : (a c : Option Partner) (x : Partner) → a ≡ Some x → option_or a c ≡ Some x
or_some a c x e = ap (λ (o : Option Partner). option_or o c) e

-- whether the first outcome is Done, and its two sockets
abbrev pub is_done : List Outcome → Bool
is_done [] = false
is_done (outcome.Done r t ∷ os) = true
is_done (outcome.Failed f ∷ os) = false

abbrev pub receive_of : List Outcome → ℕ
receive_of [] = 0
receive_of (outcome.Done r t ∷ os) = r
receive_of (outcome.Failed f ∷ os) = 0

abbrev pub send_of : List Outcome → ℕ
send_of [] = 0
send_of (outcome.Done r t ∷ os) = t
send_of (outcome.Failed f ∷ os) = 0

abbrev pub ended_by : Option Outcome → Bool
ended_by None = false
ended_by (Some (outcome.Done r t)) = true
ended_by (Some (outcome.Failed f)) = false

-- ---- after its outcome

pub server_over : (s : ServerState) (n : Notice) → s.over ≡ true → server_turn s n ≡ passed s
unfolding server_turn
server_over s n o = rw o refl

turn_on : (s : ServerState) (n : Notice) → s.over ≡ false → server_turn s n ≡ server_by s n (server_failure s n)
unfolding server_turn
turn_on s n o = rw o refl

pub silent : (s : ServerState) (ns : List Notice) → s.over ≡ true → (server_played s ns).2 ≡ []
silent s [] o = refl
silent s (n ∷ ns) o = ap (λ (t : IcpTurn ServerState). (before t (server_played t.0 ns)).2) (server_over s n o) ∙ silent s ns o

-- ---- the verdict

pub record IsVerdict (m : ServerState) (a b : Option Partner) (r t : ℕ) : Type 0 where
  pub user : Partner
  pub asked : m.user ≡ Some user
  pub receiving : a ≡ Some (above 3 user)
  pub sending : b ≡ Some (above 2 user)
  pub receive : r ≡ m.receive
  pub send : t ≡ m.send

abbrev the_partner : Host → ℕ → Partner
the_partner h k = record { peer = h; socket = k }

partner_is : (p q : Partner) → is_partner p.peer p.socket q ≡ true → q ≡ p
partner_is p q same =
    let host : q.peer ≡ p.peer = same_host-true q.peer p.peer (and_first (same_host q.peer p.peer) (q.socket == p.socket) same) in
    let number : (q.socket == p.socket) ≡ true = and_second (same_host q.peer p.peer) (q.socket == p.socket) same in
    let socket : q.socket ≡ p.socket = grind (arith, nat_tests) in
    ap (λ (h : Host). the_partner h q.socket) host ∙ ap (λ (k : ℕ). the_partner p.peer k) socket

verdict_by : (m : ServerState) (a b : Partner) (r t : ℕ) (u : Option Partner) (fits : Bool) → m.user ≡ u → are_of u a b ≡ fits
    → server_verdict m (Some a) (Some b) ≡ Some (outcome.Done r t) → IsVerdict m (Some a) (Some b) r t
verdict_by m a b r t (Some u) true is of e =
    let there : server_verdict m (Some a) (Some b) ≡ Some (outcome.Done m.receive m.send) = rw (is, of) refl in
    let all : outcomes_of (Some (outcome.Done r t)) ≡ outcomes_of (Some (outcome.Done m.receive m.send)) = ap outcomes_of (sym e ∙ there) in
    record {
      user = u;
      asked = is;
      receiving = ap (λ (p : Partner). Some p) (partner_is (above 3 u) a (and_first (is_partner u.peer (u.socket + 3) a) (is_partner u.peer (u.socket + 2) b) of));
      sending = ap (λ (p : Partner). Some p) (partner_is (above 2 u) b (and_second (is_partner u.peer (u.socket + 3) a) (is_partner u.peer (u.socket + 2) b) of));
      receive = ap receive_of all;
      send = ap send_of all;
    }
verdict_by m a b r t (Some u) false is of e =
    let there : server_verdict m (Some a) (Some b) ≡ Some (outcome.Failed failure.Stranger) = rw (is, of) refl in
    absurd (is_not (ap ended_by (sym there ∙ e)))
verdict_by m a b r t None fits is of e =
    let there : server_verdict m (Some a) (Some b) ≡ Some (outcome.Failed failure.Stranger) = rw is refl in
    absurd (is_not (ap ended_by (sym there ∙ e)))

pub verdict : (m : ServerState) (a b : Option Partner) (r t : ℕ) → server_verdict m a b ≡ Some (outcome.Done r t) → IsVerdict m a b r t
verdict m None b r t e = absurd (is_not (ap ended_by e))
verdict m (Some a) None r t e = absurd (is_not (ap ended_by e))
verdict m (Some a) (Some b) r t e = verdict_by m a b r t m.user (are_of m.user a b) refl refl e

-- ---- over a list of notices

pub record IsDone (s : ServerState) (ns : List Notice) (r t : ℕ) : Type 0 where
  pub user : Partner
  pub asked : option_or s.user (opened_in s.listen ns) ≡ Some user
  pub receiving : option_or s.receiving (opened_in s.receive ns) ≡ Some (above 3 user)
  pub sending : option_or s.sending (opened_in s.send ns) ≡ Some (above 2 user)
  pub receive : r ≡ s.receive
  pub send : t ≡ s.send

-- what is so of the machine that took the first notice is so of the one before it
one_before : (s : ServerState) (n : Notice) (ns : List Notice) (r t : ℕ) → IsDone (server_met s n) ns r t → IsDone s (n ∷ ns) r t
one_before s n ns r t d = record {
  user = d.user;
  asked = sym (or_assoc s.user (opened_on s.listen n) (opened_in s.listen ns)) ∙ d.asked;
  receiving = sym (or_assoc s.receiving (opened_on s.receive n) (opened_in s.receive ns)) ∙ d.receiving;
  sending = sym (or_assoc s.sending (opened_on s.send n) (opened_in s.send ns)) ∙ d.sending;
  receive = d.receive;
  send = d.send;
}

abbrev live : ServerState → Bool → ServerState
live m over = record m { over = over }

by_verdict : (s : ServerState) (n : Notice) (ns : List Notice) (r t : ℕ) → ((m : ServerState) → (server_played m ns).2 ≡ outcome.Done r t ∷ [] → IsDone m ns r t)
    → (o : Option Outcome) → server_verdict (server_met s n) (server_met s n).receiving (server_met s n).sending ≡ o
    → outcomes_of o ++ (server_played (live (server_met s n) (is_some o)) ns).2 ≡ outcome.Done r t ∷ [] → IsDone s (n ∷ ns) r t
by_verdict s n ns r t again None is e =
    let d : IsDone (live (server_met s n) false) ns r t = again (live (server_met s n) false) e in
    one_before s n ns r t (record { user = d.user; asked = d.asked; receiving = d.receiving; sending = d.sending; receive = d.receive; send = d.send })
by_verdict s n ns r t again (Some (outcome.Failed f)) is e = absurd (is_not (ap is_done e))
by_verdict s n ns r t again (Some (outcome.Done r' t')) is e =
    let m : ServerState = server_met s n in
    let v : IsVerdict m m.receiving m.sending r' t' = verdict m m.receiving m.sending r' t' is in
    one_before s n ns r t (record {
      user = v.user;
      asked = or_some m.user (opened_in m.listen ns) v.user v.asked;
      receiving = or_some m.receiving (opened_in m.receive ns) (above 3 v.user) v.receiving;
      sending = or_some m.sending (opened_in m.send ns) (above 2 v.user) v.sending;
      receive = sym (ap receive_of e) ∙ v.receive;
      send = sym (ap send_of e) ∙ v.send;
    })

by_failure : (s : ServerState) (n : Notice) (ns : List Notice) (r t : ℕ) → ((m : ServerState) → (server_played m ns).2 ≡ outcome.Done r t ∷ [] → IsDone m ns r t)
    → (f : Option Failure) → (before (server_by s n f) (server_played (server_by s n f).0 ns)).2 ≡ outcome.Done r t ∷ [] → IsDone s (n ∷ ns) r t
by_failure s n ns r t again (Some f) e = absurd (is_not (ap is_done e))
by_failure s n ns r t again None e =
    by_verdict s n ns r t again (server_verdict (server_met s n) (server_met s n).receiving (server_met s n).sending) refl e

by_over : (s : ServerState) (n : Notice) (ns : List Notice) (r t : ℕ) → ((m : ServerState) → (server_played m ns).2 ≡ outcome.Done r t ∷ [] → IsDone m ns r t)
    → (over : Bool) → s.over ≡ over → (server_played s (n ∷ ns)).2 ≡ outcome.Done r t ∷ [] → IsDone s (n ∷ ns) r t
by_over s n ns r t again true o e = absurd (is_not (ap is_done (sym (silent s (n ∷ ns) o) ∙ e)))
by_over s n ns r t again false o e =
    by_failure s n ns r t again (server_failure s n) (sym (ap (λ (u : IcpTurn ServerState). (before u (server_played u.0 ns)).2) (turn_on s n o)) ∙ e)

pub done : (ns : List Notice) (s : ServerState) (r t : ℕ) → (server_played s ns).2 ≡ outcome.Done r t ∷ [] → IsDone s ns r t
done [] s r t e = absurd (is_not (ap is_done e))
done (n ∷ ns) s r t e = by_over s n ns r t (λ (m : ServerState) (i : (server_played m ns).2 ≡ outcome.Done r t ∷ []). done ns m r t i) s.over refl e

pub record ServerDone (listen base : ℕ) (notices : List Notice) (r t : ℕ) : Type 0 where
  pub receive : r ≡ base
  pub send : t ≡ base + 1
  pub served : IsServed listen base notices

pub server_done : (listen base : ℕ) (ns : List Notice) (r t : ℕ) → (server_played (opening_server listen base) ns).2 ≡ outcome.Done r t ∷ [] → ServerDone listen base ns r t
server_done listen base ns r t e =
    let d : IsDone (opening_server listen base) ns r t = done ns (opening_server listen base) r t e in
    record { receive = d.receive; send = d.send; served = record { user = d.user; asked = d.asked; receiving = d.receiving; sending = d.sending } }

-- ---- one outcome

ends_by : (s : ServerState) (n : Notice) (f : Option Failure) (o : Outcome) → (server_by s n f).2 ≡ Some o → (server_by s n f).0.over ≡ true
ends_by s n (Some f) o e = refl
ends_by s n None o e = ap is_some e

ends_at : (s : ServerState) (n : Notice) (o : Outcome) (over : Bool) → s.over ≡ over → (server_turn s n).2 ≡ Some o → (server_turn s n).0.over ≡ true
ends_at s n o true is e = ap (λ (t : IcpTurn ServerState). t.0.over) (server_over s n is) ∙ is
ends_at s n o false is e =
    ap (λ (t : IcpTurn ServerState). t.0.over) (turn_on s n is)
    ∙ ends_by s n (server_failure s n) o (sym (ap (λ (t : IcpTurn ServerState). t.2) (turn_on s n is)) ∙ e)

one_by : (s : ServerState) (n : Notice) (ns : List Notice) (o : Option Outcome) → (server_turn s n).2 ≡ o → length (server_played (server_turn s n).0 ns).2 ≤ 1
    → length (outcomes_of o ++ (server_played (server_turn s n).0 ns).2) ≤ 1
one_by s n ns None is few = few
one_by s n ns (Some o) is few = rw (silent (server_turn s n).0 ns (ends_at s n o s.over refl is)) (omega arith)

pub one_server_outcome : (ns : List Notice) (s : ServerState) → length (server_played s ns).2 ≤ 1
one_server_outcome [] s = omega arith
one_server_outcome (n ∷ ns) s = one_by s n ns (server_turn s n).2 refl (one_server_outcome ns (server_turn s n).0)
