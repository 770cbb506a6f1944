-- Which notices the reports of services are about.
use Rattle.world_replay.proofs.Common.{Reported, Notice, refusal, NcpFault, Request}
use Rattle.std.proofs.Common.{◌≡◌, ℕ, ◌+◌, ◌<◌, ◌≤◌, List, [], ◌∷◌, ◌++◌, length, Option, Some, None, refl, ap, sym, subst, ◌∙◌, arith}
use Rattle.std.proofs.lemmas.List.{append-nil, append_assoc}
use Rattle.host_services.specs.Services.{ServiceDeskState, ServicesState, noticing, reporting, serving, typing_on}
use Rattle.host_services.specs.Turns.{all_heard, asked_by, asks, became, notice_heard, heard_by, line_told, lines_told, server_asked, server_asks, server_ends, services_told, tried, tried_by, tries, user_asked, user_asks, user_ends}
use Rattle.host_services.specs.declared.report.Report.{Report}
use Rattle.host_services.specs.declared.report.Report.TheVariants as report
use Rattle.host_services.specs.declared.service.Service.{Service}
use Rattle.host_services.specs.declared.service.Service.TheVariants as service
use Rattle.icp.specs.Outcomes.{IcpTurn}
use Rattle.icp.specs.Server.{ServerState, server_local, server_turn}
use Rattle.icp.specs.User.{UserState, user_local, user_turn}
use Rattle.icp.specs.declared.outcome.Outcome.{Outcome}
use Rattle.icp.specs.declared.outcome.Outcome.TheVariants as outcome
use Rattle.std.specs.Option.{option_or}
use Rattle.terminal.specs.Ends.{first_requests}
use Rattle.terminal.specs.Machines.{echo_turn, terminal_turn}
use Rattle.world_replay.proofs.News.{AreAbout}

pub about_append : (low high : ℕ) (xs ys : List Reported) → AreAbout low high xs → AreAbout low high ys → AreAbout low high (xs ++ ys)
about_append low high [] ys h k = k
about_append low high (x ∷ xs) ys h k = (h.0, h.1, about_append low high xs ys h.2 k)

pub about_wider : (low high lower higher : ℕ) (xs : List Reported) → lower ≤ low → high ≤ higher → AreAbout low high xs → AreAbout lower higher xs
about_wider low high lower higher [] d u h = tt
about_wider low high lower higher (x ∷ xs) d u h = (omega (arith, d, h.0), omega (arith, u, h.1), about_wider low high lower higher xs d u h.2)

-- ---- the turns about one notice

-- a desk has more reports, which count as many notices as it does
record Adds (d e : ServiceDeskState) : Type 0 where
  reports : List Reported
  is : e.reports ≡ d.reports ++ reports
  notices : e.notices ≡ d.notices
  about : (low high : ℕ) → low < d.notices → d.notices ≤ high → AreAbout low high reports

adds_none : (d e : ServiceDeskState) → e.reports ≡ d.reports → e.notices ≡ d.notices → Adds d e
adds_none d e is notices = record { reports = []; is = is ∙ sym (append-nil d.reports); notices = notices; about = λ low high lt le. tt }

adds_more : (d e f : ServiceDeskState) → Adds d e → Adds e f → Adds d f
adds_more d e f h k = record {
  reports = h.reports ++ k.reports;
  is = k.is ∙ ap (λ rs. rs ++ k.reports) h.is ∙ append_assoc d.reports h.reports k.reports;
  notices = k.notices ∙ h.notices;
  about = λ low high lt le. about_append low high h.reports k.reports (h.about low high lt le) (k.about low high (omega (arith, h.notices, lt)) (omega (arith, h.notices, le)));
}

adds_report : (report : Report) (d : ServiceDeskState) → Adds d (reporting report d)
adds_report report d = record { reports = record { host = d.host; notices = d.notices; report = report } ∷ []; is = refl; notices = refl; about = λ low high lt le. (lt, le, tt) }

adds_tried : (o : Option NcpFault) (r : Request) (d : ServiceDeskState) → Adds d (tried_by o r d)
adds_tried None r d = adds_none d (serving r d) refl refl
adds_tried (Some f) r d = adds_none d d refl refl

adds_tries : (rs : List Request) (d : ServiceDeskState) → Adds d (tries d rs)
adds_tries [] d = adds_none d d refl refl
adds_tries (r ∷ rs) d = adds_more d (tried d r) (tries (tried d r) rs) (adds_tried (refusal d.program r) r d) (adds_tries rs (tried d r))

adds_asked : (o : Option NcpFault) (d : ServiceDeskState) (rest : ServiceDeskState × Option NcpFault) → Adds d rest.0 → Adds d (asked_by o d rest).0
adds_asked None d rest h = h
adds_asked (Some f) d rest h = adds_none d d refl refl

adds_asks : (rs : List Request) (d : ServiceDeskState) → Adds d (asks d rs).0
adds_asks [] d = adds_none d d refl refl
adds_asks (r ∷ rs) d = adds_asked (refusal d.program r) d (asks (serving r d) rs) (adds_more d (serving r d) (asks (serving r d) rs).0 (adds_none d (serving r d) refl refl) (adds_asks rs (serving r d)))

adds_lines : (lines : List (List ℕ)) (d : ServiceDeskState) → Adds d (lines_told d lines)
adds_lines [] d = adds_none d d refl refl
adds_lines (line ∷ lines) d = adds_more d (line_told d line) (lines_told (line_told d line) lines) (adds_report (report.Line line) d) (adds_lines lines (line_told d line))

-- what follows a service leaves the desk
desk_became : (s : Service) (t : Option Service × ServiceDeskState) → (became s t).1 ≡ t.1
desk_became s (None, d) = refl
desk_became s (Some next, d) = refl

adds_became : (s : Service) (d : ServiceDeskState) (t : Option Service × ServiceDeskState) → Adds d t.1 → Adds d (became s t).1
adds_became s d t h = subst (Adds d) (sym (desk_became s t)) h

adds_server_ends : (d : ServiceDeskState) (o : Option Outcome) → Adds d (server_ends d o).1
adds_server_ends d None = adds_none d d refl refl
adds_server_ends d (Some (outcome.Failed f)) = adds_report (report.Server (outcome.Failed f)) d
adds_server_ends d (Some (outcome.Done receive send)) =
    adds_more d (reporting (report.Server (outcome.Done receive send)) d) (tries (reporting (report.Server (outcome.Done receive send)) d) (first_requests receive))
    (adds_report (report.Server (outcome.Done receive send)) d) (adds_tries (first_requests receive) (reporting (report.Server (outcome.Done receive send)) d))

adds_server_asked : (s : ServerState) (o : Option Outcome) (d : ServiceDeskState) (t : ServiceDeskState × Option NcpFault) → Adds d t.0 → Adds d (server_asked s o t).1
adds_server_asked s o d (e, None) h = adds_became (service.Server s) d (server_ends e o) (adds_more d e (server_ends e o).1 h (adds_server_ends e o))
adds_server_asked s o d (e, Some f) h =
    let last : Option Outcome = option_or o (server_local s f).1 in
    adds_became (service.Server (server_local s f).0) d (server_ends e last) (adds_more d e (server_ends e last).1 h (adds_server_ends e last))

adds_server : (t : IcpTurn ServerState) (d : ServiceDeskState) → Adds d (server_asks t d).1
adds_server t d = adds_server_asked t.0 t.2 d (asks d t.1) (adds_asks t.1 d)

adds_user_ends : (d : ServiceDeskState) (o : Option Outcome) → Adds d (user_ends d o).1
adds_user_ends d None = adds_none d d refl refl
adds_user_ends d (Some (outcome.Failed f)) = adds_report (report.User (outcome.Failed f)) d
adds_user_ends d (Some (outcome.Done receive send)) =
    let done : ServiceDeskState = reporting (report.User (outcome.Done receive send)) d in
    adds_more d done (tries (typing_on (Some send) done) (first_requests receive)) (adds_report (report.User (outcome.Done receive send)) d)
    (adds_more done (typing_on (Some send) done) (tries (typing_on (Some send) done) (first_requests receive)) (adds_none done (typing_on (Some send) done) refl refl) (adds_tries (first_requests receive) (typing_on (Some send) done)))

adds_user_asked : (s : UserState) (o : Option Outcome) (d : ServiceDeskState) (t : ServiceDeskState × Option NcpFault) → Adds d t.0 → Adds d (user_asked s o t).1
adds_user_asked s o d (e, None) h = adds_became (service.User s) d (user_ends e o) (adds_more d e (user_ends e o).1 h (adds_user_ends e o))
adds_user_asked s o d (e, Some f) h =
    let last : Option Outcome = option_or o (user_local s f).1 in
    adds_became (service.User (user_local s f).0) d (user_ends e last) (adds_more d e (user_ends e last).1 h (adds_user_ends e last))

adds_user : (t : IcpTurn UserState) (d : ServiceDeskState) → Adds d (user_asks t d).1
adds_user t d = adds_user_asked t.0 t.2 d (asks d t.1) (adds_asks t.1 d)

adds_heard_by : (n : Notice) (s : Service) (d : ServiceDeskState) → Adds d (heard_by n s d).1
adds_heard_by n (service.Server s) d = adds_server (server_turn s n) d
adds_heard_by n (service.User s) d = adds_user (user_turn s n) d
adds_heard_by n (service.Echo s) d = adds_tries (echo_turn s n).1 d
adds_heard_by n (service.Terminal s) d =
    let asked : ServiceDeskState = tries d (terminal_turn s n).requests in
    adds_more d asked (lines_told asked (terminal_turn s n).lines) (adds_tries (terminal_turn s n).requests d) (adds_lines (terminal_turn s n).lines asked)

adds_heard : (n : Notice) (services : List Service) (d : ServiceDeskState) → Adds d (notice_heard n services d).1
adds_heard n [] d = adds_none d d refl refl
adds_heard n (s ∷ services) d = adds_more d (heard_by n s d).1 (notice_heard n services (heard_by n s d).1).1 (adds_heard_by n s d) (adds_heard n services (heard_by n s d).1)

-- ---- several notices

record Tells (d e : ServiceDeskState) (count : ℕ) : Type 0 where
  reports : List Reported
  is : e.reports ≡ d.reports ++ reports
  about : AreAbout d.notices (d.notices + count) reports

tells_all : (ns : List Notice) (services : List Service) (d : ServiceDeskState) → Tells d (all_heard ns services d).1 (length ns)
tells_all [] services d = record { reports = []; is = sym (append-nil d.reports); about = tt }
tells_all (n ∷ ns) services d =
    let t : List Service × ServiceDeskState = notice_heard n services (noticing d) in
    let h : Adds (noticing d) t.1 = adds_heard n services (noticing d) in
    let k : Tells t.1 (all_heard ns t.0 t.1).1 (length ns) = tells_all ns t.0 t.1 in
    record {
      reports = h.reports ++ k.reports;
      is = k.is ∙ ap (λ rs. rs ++ k.reports) h.is ∙ append_assoc d.reports h.reports k.reports;
      about = about_append d.notices (d.notices + length (n ∷ ns)) h.reports k.reports
          (h.about d.notices (d.notices + length (n ∷ ns)) (omega arith) (omega arith))
          (about_wider t.1.notices (t.1.notices + length ns) d.notices (d.notices + length (n ∷ ns)) k.reports (omega (arith, h.notices)) (omega (arith, h.notices)) k.about);
    }

-- services that are given new notices report only about these
pub told_about : (ns : List Notice) (s : ServicesState) (d : ServiceDeskState) → d.reports ≡ [] → AreAbout d.notices (d.notices + length ns) (services_told ns s d).1.reports
unfolding services_told
told_about ns s d none =
    let k : Tells (typing_on s.typing d) (all_heard ns s.running (typing_on s.typing d)).1 (length ns) = tells_all ns s.running (typing_on s.typing d) in
    subst (AreAbout d.notices (d.notices + length ns)) (sym (k.is ∙ ap (λ rs. rs ++ k.reports) none)) k.about
