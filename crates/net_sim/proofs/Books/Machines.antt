-- What services report while they have their turns is so, by what their host was notified of.
use Rattle.net_sim.proofs.Common.{◌≡◌, inl, inr, ℕ, ◌+◌, Bool, true, false, List, [], ◌∷◌, ◌++◌, map, filter, length, take, Option, Some, None, refl, ap, sym, subst, ◌∙◌, arith, append-nil, map-append, take_all, All-cons, All-head, All-nil, All-push, All-tail, All-weaker, option_or, Host, same_host, same_host-refl, Notice, NcpState, refusal, NcpFault, Request, StartFault, ServiceDeskState, ServicesState, opening_desk, Reported, Kept, all_told, book_told, IsBacked, IsRunning, ServerIsDone, UserIsDone, told_to}
use Rattle.std.proofs.Common.{All, append_assoc, length-append}
use Rattle.std.proofs.lemmas.List.{take-append-le}
use Rattle.std.proofs.lemmas.List.Elements.{filter-append}
use Rattle.icp.specs.Outcomes.{IcpTurn, local_outcome}
use Rattle.icp.specs.Server.{ServerState, opening_server, server_local, server_requests, server_turn}
use Rattle.icp.specs.Sockets.{server_fault, user_fault}
use Rattle.icp.specs.User.{UserState, opening_user, user_local, user_requests, user_turn}
use Rattle.icp.specs.declared.outcome.Failure.TheVariants as failure
use Rattle.icp.specs.declared.outcome.Outcome.{Outcome}
use Rattle.icp.specs.declared.outcome.Outcome.TheVariants as outcome
use Rattle.icp.proofs.lemmas.{ServerDone, UserDone, server_after, server_comes, server_done, server_over, user_after, user_comes, user_done, user_over}
use Rattle.terminal.specs.Ends.{first_requests}
use Rattle.terminal.specs.Machines.{echo_turn, terminal_turn}
use Rattle.host_services.specs.Services.{noticing, reporting, serving, typing_on}
use Rattle.host_services.specs.Turns.{Turned, all_heard, asked_by, asks, became, heard_by, line_told, lines_told, notice_heard, server_asked, server_asks, server_begins, server_begun, server_ends, services_told, tried, tried_by, tries, user_asked, user_asks, user_begins, user_begun, user_ends}
use Rattle.host_services.specs.declared.report.Report.{Report}
use Rattle.host_services.specs.declared.report.Report.TheVariants as report
use Rattle.host_services.specs.declared.service.Service.{Service}
use Rattle.host_services.specs.declared.service.Service.TheVariants as service
use Rattle.promise.specs.declared.book.Told.{Told}
use Rattle.net_sim.specs.Reports.{BegunServer, BegunUser, IsSo}

-- ---- one notice more

-- what a host is notified of about this one
told_parts : (h : Host) (told : List Told) (x : Told) → told_to h (told ++ x ∷ []) ≡ told_to h told ++ told_to h (x ∷ [])
told_parts h told x =
    ap (map (λ (y : Told). y.notice)) (filter-append (λ (y : Told). same_host h y.host) told (x ∷ []))
    ∙ map-append (λ (y : Told). y.notice) (filter (λ (y : Told). same_host h y.host) told) (filter (λ (y : Told). same_host h y.host) (x ∷ []))

told_own : (h : Host) (told : List Told) (x : Told) → same_host h x.host ≡ true → told_to h (told ++ x ∷ []) ≡ told_to h told ++ x.notice ∷ []
told_own h told x own = let one : told_to h (x ∷ []) ≡ x.notice ∷ [] = rw own refl in told_parts h told x ∙ ap (λ (ns : List Notice). told_to h told ++ ns) one

pub told_away : (h : Host) (told : List Told) (x : Told) → same_host h x.host ≡ false → told_to h (told ++ x ∷ []) ≡ told_to h told
told_away h told x away =
    let none : told_to h (x ∷ []) ≡ [] = rw away refl in told_parts h told x ∙ ap (λ (ns : List Notice). told_to h told ++ ns) none ∙ append-nil (told_to h told)

-- a report stays so at its place
backed_one : (told : List Told) (x : Told) (r : Reported) → IsBacked told r → IsBacked (told ++ x ∷ []) r
backed_one told x r b =
    let more : length (told ++ x ∷ []) ≡ length told + 1 = length-append told (x ∷ []) in
    record {
      within = omega (arith, more, b.within);
      so = subst (λ (xs : List Told). IsSo (told_to r.host xs) r.report) (sym (take-append-le r.notices told (x ∷ []) b.within)) b.so;
    }

pub backed_more : (told : List Told) (x : Told) (rs : List Reported) → All (IsBacked told) rs → All (IsBacked (told ++ x ∷ [])) rs
backed_more told x rs all = All-weaker (IsBacked told) (IsBacked (told ++ x ∷ [])) (backed_one told x) rs all

-- ---- the two machines

server_more : (ns : List Notice) (n : Notice) → BegunServer ns → BegunServer (ns ++ n ∷ [])
server_more ns n b = record {
  listen = b.listen;
  base = b.base;
  can = b.can;
  earlier = b.earlier;
  since = b.since ++ n ∷ [];
  parts = ap (λ (xs : List Notice). xs ++ n ∷ []) b.parts ∙ append_assoc b.earlier b.since (n ∷ []);
}

user_more : (ns : List Notice) (n : Notice) → BegunUser ns → BegunUser (ns ++ n ∷ [])
user_more ns n b = record {
  peer = b.peer;
  listen = b.listen;
  own = b.own;
  can = b.can;
  earlier = b.earlier;
  since = b.since ++ n ∷ [];
  parts = ap (λ (xs : List Notice). xs ++ n ∷ []) b.parts ∙ append_assoc b.earlier b.since (n ∷ []);
}

-- where one comes to this, it is done
abbrev SoServer : List Notice → Option Outcome → Type 0
SoServer ns o = (receive send : ℕ) → o ≡ Some (outcome.Done receive send) → ServerIsDone ns receive send

abbrev SoUser : List Notice → Option Outcome → Type 0
SoUser ns o = (receive send : ℕ) → o ≡ Some (outcome.Done receive send) → UserIsDone ns receive send

record ServerTurned (ns : List Notice) (t : IcpTurn ServerState) : Type 0 where
  runs : IsRunning ns (service.Server t.0)
  so : SoServer ns t.2

record UserTurned (ns : List Notice) (t : IcpTurn UserState) : Type 0 where
  runs : IsRunning ns (service.User t.0)
  so : SoUser ns t.2

not_none : (receive send : ℕ) → ◌≡◌ {A = Option Outcome} None (Some (outcome.Done receive send)) → ⊥
not_none receive send e = cc

server_turned : (ns : List Notice) (n : Notice) (s : ServerState) → IsRunning ns (service.Server s) → ServerTurned (ns ++ n ∷ []) (server_turn s n)
unfolding server_more
server_turned ns n s (inl over) =
    subst (ServerTurned (ns ++ n ∷ [])) (sym (server_over s n over)) (record { runs = inl over; so = λ receive send e. absurd (not_none receive send e) })
server_turned ns n s (inr x) =
    let b : BegunServer ns = x.0 in
    let m : ServerState = opening_server b.listen b.base in
    subst (ServerTurned (ns ++ n ∷ [])) (ap (λ (y : ServerState). server_turn y n) (sym x.1)) (record {
      runs = inr (server_more ns n b, sym (server_after b.since n m));
      so = λ receive send e. (let d : ServerDone b.listen b.base (b.since ++ n ∷ []) receive send =
          server_done b.listen b.base (b.since ++ n ∷ []) receive send (server_comes b.since n m (outcome.Done receive send) e) in
          record { began = server_more ns n b; receives = d.receive; sends = d.send; served = d.served });
    })

user_turned : (ns : List Notice) (n : Notice) (s : UserState) → IsRunning ns (service.User s) → UserTurned (ns ++ n ∷ []) (user_turn s n)
unfolding user_more
user_turned ns n s (inl over) =
    subst (UserTurned (ns ++ n ∷ [])) (sym (user_over s n over)) (record { runs = inl over; so = λ receive send e. absurd (not_none receive send e) })
user_turned ns n s (inr x) =
    let b : BegunUser ns = x.0 in
    let m : UserState = opening_user b.peer b.listen b.own in
    subst (UserTurned (ns ++ n ∷ [])) (ap (λ (y : UserState). user_turn y n) (sym x.1)) (record {
      runs = inr (user_more ns n b, sym (user_after b.since n m));
      so = λ receive send e. (let d : UserDone b.peer b.listen b.own (b.since ++ n ∷ []) receive send =
          user_done b.peer b.listen b.own (b.since ++ n ∷ []) receive send (user_comes b.since n m (outcome.Done receive send) e) in
          record { began = user_more ns n b; receives = d.receive; sends = d.send; connected = d.connected });
    })

-- a refused request makes nothing Done
abbrev ends_done : Option Outcome → Bool
ends_done None = false
ends_done (Some (outcome.Done receive send)) = true
ends_done (Some (outcome.Failed f)) = false

local_not : (over : Bool) (f : NcpFault) → ends_done (local_outcome over f) ≡ false
local_not true f = refl
local_not false f = refl

not_local : (over : Bool) (f : NcpFault) (receive send : ℕ) → local_outcome over f ≡ Some (outcome.Done receive send) → ⊥
not_local over f receive send e = let no : false ≡ true = sym (local_not over f) ∙ ap ends_done e in cc

server_so : (ns : List Notice) (o : Option Outcome) (over : Bool) (f : NcpFault) → SoServer ns o → SoServer ns (option_or o (local_outcome over f))
server_so ns None over f so receive send e = absurd (not_local over f receive send e)
server_so ns (Some x) over f so receive send e = so receive send e

user_so : (ns : List Notice) (o : Option Outcome) (over : Bool) (f : NcpFault) → SoUser ns o → SoUser ns (option_or o (local_outcome over f))
user_so ns None over f so receive send e = absurd (not_local over f receive send e)
user_so ns (Some x) over f so receive send e = so receive send e

-- ---- a host's desk

-- all that is reported on a desk is so, where all hosts were given these notices
record IsGood (h : Host) (told : List Told) (d : ServiceDeskState) : Type 0 where
  host : d.host ≡ h
  count : d.notices ≡ length told
  backed : All (IsBacked told) d.reports

-- a service after its turn, and the desk
record IsFine (h : Host) (told : List Told) (t : Turned) : Type 0 where
  runs : IsRunning (told_to h told) t.0
  good : IsGood h told t.1

record AreFine (h : Host) (told : List Told) (t : List Service × ServiceDeskState) : Type 0 where
  runs : All (IsRunning (told_to h told)) t.0
  good : IsGood h told t.1

module _ (h : Host) (told : List Told) where
  good_report : (x : Report) (d : ServiceDeskState) → IsSo (told_to h told) x → IsGood h told d → IsGood h told (reporting x d)
  good_report x d so g =
      let r : Reported = record { host = d.host; notices = d.notices; report = x } in
      let all : take d.notices told ≡ told = take_all d.notices told (omega (arith, g.count)) in
      let mine : IsSo (told_to d.host told) x = subst (λ (y : Host). IsSo (told_to y told) x) (sym g.host) so in
      record {
        host = g.host;
        count = g.count;
        backed = All-push (IsBacked told) d.reports r g.backed
            (record { within = omega (arith, g.count); so = subst (λ (xs : List Told). IsSo (told_to d.host xs) x) (sym all) mine });
      }

  good_serving : (q : Request) (d : ServiceDeskState) → IsGood h told d → IsGood h told (serving q d)
  good_serving q d g = record { host = g.host; count = g.count; backed = g.backed }

  good_tried : (o : Option NcpFault) (q : Request) (d : ServiceDeskState) → IsGood h told d → IsGood h told (tried_by o q d)
  good_tried None q d g = good_serving q d g
  good_tried (Some f) q d g = g

  good_tries : (qs : List Request) (d : ServiceDeskState) → IsGood h told d → IsGood h told (tries d qs)
  good_tries [] d g = g
  good_tries (q ∷ qs) d g = good_tries qs (tried d q) (good_tried (refusal d.program q) q d g)

  good_asked : (o : Option NcpFault) (d : ServiceDeskState) (rest : ServiceDeskState × Option NcpFault) → IsGood h told d → IsGood h told rest.0 → IsGood h told (asked_by o d rest).0
  good_asked None d rest g k = k
  good_asked (Some f) d rest g k = g

  good_asks : (qs : List Request) (d : ServiceDeskState) → IsGood h told d → IsGood h told (asks d qs).0
  good_asks [] d g = g
  good_asks (q ∷ qs) d g = good_asked (refusal d.program q) d (asks (serving q d) qs) g (good_asks qs (serving q d) (good_serving q d g))

  good_lines : (lines : List (List ℕ)) (d : ServiceDeskState) → IsGood h told d → IsGood h told (lines_told d lines)
  good_lines [] d g = g
  good_lines (line ∷ lines) d g = good_lines lines (line_told d line) (good_report (report.Line line) d tt g)

  -- ---- how a server continues

  server_fine_ends : (s : Service) (d : ServiceDeskState) (o : Option Outcome) → IsRunning (told_to h told) s → SoServer (told_to h told) o → IsGood h told d → IsFine h told (became s (server_ends d o))
  server_fine_ends s d None r so g = record { runs = r; good = g }
  server_fine_ends s d (Some (outcome.Failed f)) r so g = record { runs = r; good = good_report (report.Server (outcome.Failed f)) d tt g }
  server_fine_ends s d (Some (outcome.Done receive send)) r so g =
      let done : ServiceDeskState = reporting (report.Server (outcome.Done receive send)) d in
      record { runs = tt; good = good_tries (first_requests receive) done (good_report (report.Server (outcome.Done receive send)) d (so receive send refl) g) }

  server_fine_asked : (s : ServerState) (o : Option Outcome) (t : ServiceDeskState × Option NcpFault) → IsRunning (told_to h told) (service.Server s) → SoServer (told_to h told) o → IsGood h told t.0
      → IsFine h told (server_asked s o t)
  server_fine_asked s o (d, None) r so g = server_fine_ends (service.Server s) d o r so g
  server_fine_asked s o (d, Some f) r so g =
      server_fine_ends (service.Server (server_local s f).0) d (option_or o (server_local s f).1) (inl refl) (server_so (told_to h told) o s.over f so) g

  server_fine : (t : IcpTurn ServerState) (d : ServiceDeskState) → ServerTurned (told_to h told) t → IsGood h told d → IsFine h told (server_asks t d)
  server_fine t d turned g = server_fine_asked t.0 t.2 (asks d t.1) turned.runs turned.so (good_asks t.1 d g)

  -- ---- and a user

  user_fine_ends : (s : Service) (d : ServiceDeskState) (o : Option Outcome) → IsRunning (told_to h told) s → SoUser (told_to h told) o → IsGood h told d → IsFine h told (became s (user_ends d o))
  user_fine_ends s d None r so g = record { runs = r; good = g }
  user_fine_ends s d (Some (outcome.Failed f)) r so g = record { runs = r; good = good_report (report.User (outcome.Failed f)) d tt g }
  user_fine_ends s d (Some (outcome.Done receive send)) r so g =
      let done : ServiceDeskState = reporting (report.User (outcome.Done receive send)) d in
      let k : IsGood h told (reporting (report.User (outcome.Done receive send)) d) = good_report (report.User (outcome.Done receive send)) d (so receive send refl) g in
      record { runs = tt; good = good_tries (first_requests receive) (typing_on (Some send) done) (record { host = k.host; count = k.count; backed = k.backed }) }

  user_fine_asked : (s : UserState) (o : Option Outcome) (t : ServiceDeskState × Option NcpFault) → IsRunning (told_to h told) (service.User s) → SoUser (told_to h told) o → IsGood h told t.0
      → IsFine h told (user_asked s o t)
  user_fine_asked s o (d, None) r so g = user_fine_ends (service.User s) d o r so g
  user_fine_asked s o (d, Some f) r so g =
      user_fine_ends (service.User (user_local s f).0) d (option_or o (user_local s f).1) (inl refl) (user_so (told_to h told) o s.over f so) g

  user_fine : (t : IcpTurn UserState) (d : ServiceDeskState) → UserTurned (told_to h told) t → IsGood h told d → IsFine h told (user_asks t d)
  user_fine t d turned g = user_fine_asked t.0 t.2 (asks d t.1) turned.runs turned.so (good_asks t.1 d g)

-- ---- a notice

-- one that is given to this host, after these notices
module _ (h : Host) (told : List Told) (x : Told) (own : same_host h x.host ≡ true) where
  abbrev now : List Told
  now = told ++ x ∷ []

  heard_fine : (s : Service) (d : ServiceDeskState) → IsRunning (told_to h told) s → IsGood h now d → IsFine h now (heard_by x.notice s d)
  heard_fine (service.Server s) d r g =
      server_fine h now (server_turn s x.notice) d (subst (λ (ns : List Notice). ServerTurned ns (server_turn s x.notice)) (sym (told_own h told x own)) (server_turned (told_to h told) x.notice s r)) g
  heard_fine (service.User s) d r g =
      user_fine h now (user_turn s x.notice) d (subst (λ (ns : List Notice). UserTurned ns (user_turn s x.notice)) (sym (told_own h told x own)) (user_turned (told_to h told) x.notice s r)) g
  heard_fine (service.Echo s) d r g = record { runs = tt; good = good_tries h now (echo_turn s x.notice).1 d g }
  heard_fine (service.Terminal s) d r g =
      let asked : ServiceDeskState = tries d (terminal_turn s x.notice).requests in
      record { runs = tt; good = good_lines h now (terminal_turn s x.notice).lines asked (good_tries h now (terminal_turn s x.notice).requests d g) }

  notice_fine : (services : List Service) (d : ServiceDeskState) → All (IsRunning (told_to h told)) services → IsGood h now d → AreFine h now (notice_heard x.notice services d)
  notice_fine [] d all g = record { runs = All-nil (IsRunning (told_to h now)); good = g }
  notice_fine (s ∷ services) d all g =
      let t : Turned = heard_by x.notice s d in
      let one : IsFine h now t = heard_fine s d (All-head (IsRunning (told_to h told)) s services all) g in
      let rest : AreFine h now (notice_heard x.notice services t.1) = notice_fine services t.1 (All-tail (IsRunning (told_to h told)) s services all) one.good in
      record { runs = All-cons (IsRunning (told_to h now)) t.0 (notice_heard x.notice services t.1).0 one.runs rest.runs; good = rest.good }

-- several
all_fine : (h : Host) (ns : List Notice) (k : Kept) (services : List Service) (d : ServiceDeskState) → All (IsRunning (told_to h k.book.notices)) services → IsGood h k.book.notices d
    → AreFine h (all_told h ns k).book.notices (all_heard ns services d)
all_fine h [] k services d all g = record { runs = all; good = g }
all_fine h (n ∷ ns) k services d all g =
    let told : List Told = k.book.notices in
    let x : Told = record { host = h; place = length k.book.crossings; notice = n } in
    let more : length (told ++ x ∷ []) ≡ length told + 1 = length-append told (x ∷ []) in
    let g1 : IsGood h (told ++ x ∷ []) (noticing d) = record { host = g.host; count = omega (arith, more, g.count); backed = backed_more told x d.reports g.backed } in
    let t : List Service × ServiceDeskState = notice_heard n services (noticing d) in
    let f : AreFine h (told ++ x ∷ []) t = notice_fine h told x (same_host-refl h) services (noticing d) all g1 in
    all_fine h ns (book_told h n k) t.0 t.1 f.runs f.good

-- ---- what a call leaves

pub record AreLeft (h : Host) (told : List Told) (t : ServicesState × ServiceDeskState) : Type 0 where
  pub runs : All (IsRunning (told_to h told)) t.0.running
  pub backed : All (IsBacked told) t.1.reports

good_opening : (h : Host) (told : List Told) (program : NcpState) (typing : Option ℕ) → IsGood h told (typing_on typing (opening_desk h (length told) program))
good_opening h told program typing = record { host = refl; count = refl; backed = All-nil (IsBacked told) }

pub told_left : (h : Host) (ns : List Notice) (k : Kept) (s : ServicesState) (program : NcpState) → All (IsRunning (told_to h k.book.notices)) s.running
    → AreLeft h (all_told h ns k).book.notices (services_told ns s (opening_desk h (length k.book.notices) program))
unfolding services_told
told_left h ns k s program all =
    let d : ServiceDeskState = typing_on s.typing (opening_desk h (length k.book.notices) program) in
    let f : AreFine h (all_told h ns k).book.notices (all_heard ns s.running d) = all_fine h ns k s.running d all (good_opening h k.book.notices program s.typing) in
    record { runs = f.runs; backed = f.good.backed }

-- ---- a service begins

server_begins_fine : (h : Host) (told : List Told) (listen base : ℕ) (running : List Service) (d : ServiceDeskState) (o : Option StartFault) → server_fault listen base ≡ o → All (IsRunning (told_to h told)) running
    → IsGood h told d → AreFine h told (server_begins listen base running d o)
server_begins_fine h told listen base running d (Some f) is all g = record { runs = all; good = good_report h told (report.Server (outcome.Failed failure.BadSocket)) d tt g }
server_begins_fine h told listen base running d None is all g =
    let t : IcpTurn ServerState = (opening_server listen base, server_requests listen base, None) in
    let b : BegunServer (told_to h told) = record { listen = listen; base = base; can = is; earlier = told_to h told; since = []; parts = sym (append-nil (told_to h told)) } in
    let f : IsFine h told (server_asks t d) = server_fine h told t d (record { runs = inr (b, refl); so = λ receive send e. absurd (not_none receive send e) }) g in
    record { runs = All-push (IsRunning (told_to h told)) running (server_asks t d).0 all f.runs; good = f.good }

user_begins_fine : (h : Host) (told : List Told) (peer : Host) (listen own : ℕ) (running : List Service) (d : ServiceDeskState) (o : Option StartFault) → user_fault listen own ≡ o → All (IsRunning (told_to h told)) running
    → IsGood h told d → AreFine h told (user_begins peer listen own running d o)
user_begins_fine h told peer listen own running d (Some f) is all g = record { runs = all; good = good_report h told (report.User (outcome.Failed failure.BadSocket)) d tt g }
user_begins_fine h told peer listen own running d None is all g =
    let t : IcpTurn UserState = (opening_user peer listen own, user_requests peer listen own, None) in
    let b : BegunUser (told_to h told) = record { peer = peer; listen = listen; own = own; can = is; earlier = told_to h told; since = []; parts = sym (append-nil (told_to h told)) } in
    let f : IsFine h told (user_asks t d) = user_fine h told t d (record { runs = inr (b, refl); so = λ receive send e. absurd (not_none receive send e) }) g in
    record { runs = All-push (IsRunning (told_to h told)) running (user_asks t d).0 all f.runs; good = f.good }

pub server_left : (h : Host) (told : List Told) (listen base : ℕ) (s : ServicesState) (program : NcpState) → All (IsRunning (told_to h told)) s.running
    → AreLeft h told (server_begun listen base s (opening_desk h (length told) program))
unfolding server_begun
server_left h told listen base s program all =
    let d : ServiceDeskState = typing_on s.typing (opening_desk h (length told) program) in
    let f : AreFine h told (server_begins listen base s.running d (server_fault listen base)) =
    server_begins_fine h told listen base s.running d (server_fault listen base) refl all (good_opening h told program s.typing) in
    record { runs = f.runs; backed = f.good.backed }

pub user_left : (h : Host) (told : List Told) (peer : Host) (listen own : ℕ) (s : ServicesState) (program : NcpState) → All (IsRunning (told_to h told)) s.running
    → AreLeft h told (user_begun peer listen own s (opening_desk h (length told) program))
unfolding user_begun
user_left h told peer listen own s program all =
    let d : ServiceDeskState = typing_on s.typing (opening_desk h (length told) program) in
    let f : AreFine h told (user_begins peer listen own s.running d (user_fault listen own)) =
    user_begins_fine h told peer listen own s.running d (user_fault listen own) refl all (good_opening h told program s.typing) in
    record { runs = f.runs; backed = f.good.backed }
