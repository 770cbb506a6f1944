use Rattle.net_sim.proofs.Common.{◌≡◌, ℕ, ◌+◌, Bool, true, false, ◌&&◌, ◌||◌, if◌then◌else◌, List, [], ◌∷◌, ◌++◌, Option, Some, None, refl, ap, sym, subst, ◌∙◌, arith, list_any, option_or, Host, Notice, is_receive_socket, is_send_socket, StartFault, ServerIsDone, UserIsDone, first, second}
use Rattle.std.proofs.lemmas.Bool.{and_left}
use Rattle.std.proofs.Common.{nat_le}
use Rattle.bit_messages.specs.Octets.{octets_of}
use Rattle.icp.specs.Notices.{is_opened, opened_on}
use Rattle.icp.specs.Played.{above, opened_in}
use Rattle.icp.specs.declared.fault.StartFault.TheVariants as fault
use Rattle.icp.specs.declared.notices.Partner.{Partner}
use Rattle.net_sim.proofs.worked_reports.worked_reports.Goals as goal

-- ---- an end that was never opened

later_none : (a b : Option Partner) → option_or a b ≡ None → b ≡ None
later_none None b e = e
later_none (Some p) b e = absurd (let no : Some p ≡ None = e in cc)

unopened : (socket : ℕ) (earlier since : List Notice) → opened_in socket (earlier ++ since) ≡ None → opened_in socket since ≡ None
unopened socket [] since e = e
unopened socket (n ∷ ns) since e = unopened socket ns since (later_none (opened_on socket n) (opened_in socket (ns ++ since)) e)

no_server : (notices : List Notice) (receive send : ℕ) → opened_in receive notices ≡ None → ServerIsDone notices receive send → ⊥
no_server notices receive send none d =
    let all : opened_in receive (d.began.earlier ++ d.began.since) ≡ None = ap (λ (ns : List Notice). opened_in receive ns) (sym d.began.parts) ∙ none in
    let late : opened_in receive d.began.since ≡ None = unopened receive d.began.earlier d.began.since all in
    let no : None ≡ Some (above 3 d.served.user) = sym late ∙ ap (λ (socket : ℕ). opened_in socket d.began.since) d.receives ∙ d.served.receiving in
    cc

any_later : (test : Notice → Bool) (earlier since : List Notice) → list_any test since ≡ true → list_any test (earlier ++ since) ≡ true
any_later test [] since e = e
any_later test (n ∷ ns) since e = let rest : list_any test (ns ++ since) ≡ true = any_later test ns since e in by (test n) rest where
  by : (b : Bool) → list_any test (ns ++ since) ≡ true → (b || list_any test (ns ++ since)) ≡ true
  by true r = refl
  by false r = r

no_user : (notices : List Notice) (own send : ℕ) → ((peer : Host) (base : ℕ) → list_any (λ n. is_opened (own + 3) peer base n) notices ≡ false) → UserIsDone notices (own + 2) send → ⊥
no_user notices own send none d =
    let same : d.began.own ≡ own = omega (arith, d.receives) in
    let opened : ℕ → Notice → Bool = λ k n. is_opened (k + 3) d.began.peer d.connected.base n in
    let late : list_any (opened own) d.began.since ≡ true = subst (λ (k : ℕ). list_any (opened k) d.began.since ≡ true) same d.connected.sending in
    let all : list_any (opened own) notices ≡ true = subst (λ (ns : List Notice). list_any (opened own) ns ≡ true) (sym d.began.parts) (any_later (opened own) d.began.earlier d.began.since late) in
    let no : true ≡ false = sym all ∙ none d.began.peer d.connected.base in
    cc

-- ---- odd sockets

odd_never : (a b : Bool) → b ≡ false → ◌≡◌ {A = Option StartFault} (if a && b then None else Some fault.BadSocket) None → ⊥
odd_never true true odd e = cc
odd_never true false odd e = cc
odd_never false b odd e = cc

-- ---- the rows

pub returns-clause-server : goal.returns-clause-server
returns-clause-server c = record {
  within = omega arith;
  so = record {
    began = record { listen = 7; base = 100; can = refl; earlier = []; since = _; parts = refl };
    receives = refl;
    sends = refl;
    served = record { user = record { peer = second; socket = 16 }; asked = refl; receiving = refl; sending = refl };
  };
}

pub returns-clause-user : goal.returns-clause-user
unfolding octets_of
returns-clause-user c = record {
  within = omega arith;
  so = record {
    began = record { peer = first; listen = 7; own = 16; can = refl; earlier = []; since = _; parts = refl };
    receives = refl;
    sends = refl;
    connected = record { base = 100; long = omega arith; said = refl; even = refl; receiving = refl; sending = refl };
  };
}

pub returns-clause-server_early : goal.returns-clause-server_early
returns-clause-server_early c b = no_server _ 100 101 refl b.so

pub returns-clause-user_early : goal.returns-clause-user_early
returns-clause-user_early c b = no_user _ 16 19 (λ peer base. refl) b.so

pub returns-clause-server_socket : goal.returns-clause-server_socket
returns-clause-server_socket c b = let base : 100 ≡ b.so.began.base = b.so.receives in let send : 103 ≡ b.so.began.base + 1 = b.so.sends in absurd (omega (arith, base, send))

pub returns-clause-server_base : goal.returns-clause-server_base
returns-clause-server_base c b = no_server _ 102 103 refl b.so

pub returns-clause-user_socket : goal.returns-clause-user_socket
returns-clause-user_socket c b = let own : 18 ≡ b.so.began.own + 2 = b.so.receives in let send : 17 ≡ b.so.began.own + 3 = b.so.sends in absurd (omega (arith, own, send))

pub returns-clause-server_elsewhere : goal.returns-clause-server_elsewhere
returns-clause-server_elsewhere c b = no_server _ 100 101 refl b.so

pub returns-clause-user_elsewhere : goal.returns-clause-user_elsewhere
returns-clause-user_elsewhere c b = no_user _ 16 19 (λ peer base. refl) b.so

pub returns-clause-past : goal.returns-clause-past
returns-clause-past c b = absurd (omega (arith, b.within))

pub returns-clause-failed : goal.returns-clause-failed
returns-clause-failed c = record { within = omega arith; so = tt }

pub returns-clause-odd_base : goal.returns-clause-odd_base
returns-clause-odd_base c b is = odd_never (is_send_socket b.listen) (is_receive_socket b.base) (ap is_receive_socket is) b.can

pub returns-clause-odd_own : goal.returns-clause-odd_own
returns-clause-odd_own c b is =
    odd_never (is_send_socket b.listen) (is_receive_socket b.own && nat_le (b.own + 3) 4294967295) (and_left (is_receive_socket b.own) (nat_le (b.own + 3) 4294967295) (ap is_receive_socket is)) b.can
