-- What is kept of a world, but for what services report, is what its moments say.
use Rattle.net_sim.proofs.Common.{◌≡◌, Bool, true, false, if◌then◌else◌, List, [], ◌∷◌, refl, ap, sym, ◌∙◌, All-head, All-tail, Host, Crossing, Notice, NcpState, Request, MayAsk, Kept, all_asked, all_crossed, all_told, asked, book_told, crossed, Moment, Crossed, Asked, program, host_in, kept_by, kept_in, notices_by, without_reports}
use Rattle.std.proofs.Common.{All}
use Rattle.interface.specs.declared.crossing.Crossing.TheVariants as crossing
use Rattle.sockets.specs.Requests.{served_notices}
use Rattle.sockets.specs.declared.request.Request.TheVariants as request
use Rattle.host_services.specs.Named.{IsSilent}
use Rattle.net_sim.specs.Mixed.{crossed_only, mixed_kept}
use Rattle.net_sim.proofs.Hosts.Asks.{asks_of}
use Rattle.net_sim.proofs.Hosts.Seats.{AreTurns, with_crossings}

-- reports change nothing else
bare_told : (h : Host) (ns : List Notice) (k : Kept) → without_reports (all_told h ns k) ≡ all_told h ns (without_reports k)
bare_told h [] k = refl
bare_told h (n ∷ ns) k = bare_told h ns (book_told h n k)

bare_by : (x : Moment) (k : Kept) → without_reports (kept_by x k) ≡ kept_by x (without_reports k)
bare_by (Crossed c) k = refl
bare_by (Asked h r) k = refl

-- nothing is reported of a request that is silent
silent : (s : NcpState) (r : Request) → IsSilent r → served_notices s r ≡ []
unfolding served_notices
silent s (request.Contact peer) is = absurd is
silent s r is = refl

-- a choice between hosts that are strangers and others
pub if_plain : {A : Type 0} (b : Bool) (x y : A) → b ≡ false → (if b then x else y) ≡ y
if_plain true x y off = absurd (let no : true ≡ false = off in cc)
if_plain false x y off = refl

pub if_strange : {A : Type 0} (b : Bool) (x y : A) → b ≡ true → (if b then x else y) ≡ x
if_strange true x y on = refl
if_strange false x y on = absurd (let no : false ≡ true = on in cc)

if_either : {A : Type 0} (b : Bool) (x : A) → (if b then x else x) ≡ x
if_either true x = refl
if_either false x = refl

module _ (strange : Host → Bool) where
  -- one moment more of a host with a program, and what a user is notified of by it
  pub kept_more : (x : Moment) (h : Host) (ns : List Notice) (k : Kept) (moments : List Moment) → strange h ≡ false → host_in x ≡ h → ns ≡ notices_by x moments → without_reports k ≡ mixed_kept strange moments
      → without_reports (all_told h ns (kept_by x k)) ≡ mixed_kept strange (x ∷ moments)
  kept_more x h ns k moments plain host notices same =
      let before : Kept = mixed_kept strange moments in
      bare_told h ns (kept_by x k) ∙ ap (λ (y : Kept). all_told h ns y) (bare_by x k) ∙ ap (λ (y : Kept). all_told h ns (kept_by x y)) same
      ∙ ap (λ (ms : List Notice). all_told h ms (kept_by x before)) notices ∙ ap (λ (g : Host). all_told g (notices_by x moments) (kept_by x before)) (sym host)
      ∙ sym (if_plain (strange (host_in x)) (crossed_only x (mixed_kept strange moments)) (all_told (host_in x) (notices_by x moments) (kept_by x (mixed_kept strange moments))) (ap strange host ∙ plain))

  -- what services of a host asked for
  pub kept_asked : (h : Host) (rs : List Request) (k : Kept) (moments : List Moment) → strange h ≡ false → All MayAsk rs → without_reports k ≡ mixed_kept strange moments
      → without_reports (all_asked h rs k) ≡ mixed_kept strange (asks_of h rs moments)
  kept_asked h [] k moments plain each same = same
  kept_asked h (r ∷ rs) k moments plain each same =
      kept_asked h rs (asked h r k) (Asked h r ∷ moments) plain (All-tail MayAsk r rs each)
      (kept_more (Asked h r) h [] k moments plain refl (sym (silent (program h moments) r (All-head MayAsk r rs each).silent)) same)

  -- hosts that stop and start, strangers or not
  pub kept_turned : (cs : List Crossing) (k : Kept) (moments : List Moment) → AreTurns cs → without_reports k ≡ mixed_kept strange moments → without_reports (all_crossed cs k) ≡ mixed_kept strange (with_crossings cs moments)
  kept_turned [] k moments t same = same
  kept_turned (crossing.Down h ∷ cs) k moments t same =
      ap (λ (y : Kept). crossed (crossing.Down h) y) (kept_turned cs k moments t.1 same) ∙ sym (if_either (strange h) (crossed (crossing.Down h) (mixed_kept strange (with_crossings cs moments))))
  kept_turned (crossing.Up h ∷ cs) k moments t same =
      ap (λ (y : Kept). crossed (crossing.Up h) y) (kept_turned cs k moments t.1 same) ∙ sym (if_either (strange h) (crossed (crossing.Up h) (mixed_kept strange (with_crossings cs moments))))
  kept_turned (crossing.Out m ∷ cs) k moments t same = absurd t.0
  kept_turned (crossing.In m ∷ cs) k moments t same = absurd t.0
  kept_turned (crossing.Answer kind f ∷ cs) k moments t same = absurd t.0

  -- of what a stranger does only the crossing is kept
  pub kept_strange : (c : Crossing) (k : Kept) (moments : List Moment) → strange (host_in (Crossed c)) ≡ true → without_reports k ≡ mixed_kept strange moments → without_reports (crossed c k) ≡ mixed_kept strange (Crossed c ∷ moments)
  kept_strange c k moments on same =
      ap (λ (y : Kept). crossed c y) same
      ∙ sym (if_strange (strange (host_in (Crossed c))) (crossed c (mixed_kept strange moments)) (all_told (host_in (Crossed c)) (notices_by (Crossed c) moments) (crossed c (mixed_kept strange moments))) on)

-- without strangers all is kept
pub kept_nobody : (strange : Host → Bool) → ((h : Host) → strange h ≡ false) → (moments : List Moment) → mixed_kept strange moments ≡ kept_in moments
kept_nobody strange none [] = refl
kept_nobody strange none (x ∷ moments) =
    if_plain (strange (host_in x)) (crossed_only x (mixed_kept strange moments)) (all_told (host_in x) (notices_by x moments) (kept_by x (mixed_kept strange moments))) (none (host_in x))
    ∙ ap (λ (k : Kept). all_told (host_in x) (notices_by x moments) (kept_by x k)) (kept_nobody strange none moments)
