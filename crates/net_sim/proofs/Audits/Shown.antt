-- Where it shows what an audit says: what the searches find is what the definitions say.
use Rattle.net_sim.proofs.Common.{◌≡◌, ℕ, Bool, true, List, length, take, refl, subst, inr, arith, Option, Some, None, MatchOption, list_all, take_all, SafeMessages, Crossing, IsWellFormed, Says, Life, AreAtPeace, AreFed, AreStamped, HaveGranted, Shows, AreUnmatched, FoundTwo, messages_hold, partners_hold, is_stamped, has_granted, is_unmatched, may_both, some_fed, SafePartners, before}
use Rattle.std.proofs.Common.{reverse}
use Rattle.std.specs.List.{slice_get}
use Rattle.net_sim.specs.Findings.{ShowsCrossing, ShowsLife, ShowsMalformed, ShowsTwo, WithMatch, first_fed, first_granted}
use Rattle.net_sim.specs.Inside.Audit.{Found}
use Rattle.net_sim.specs.declared.auditing.findings.Finding.{Finding}
use Rattle.net_sim.specs.declared.auditing.findings.Finding.TheVariants as finding
use Rattle.net_sim.specs.declared.auditing.said.Audit.TheVariants as audit
use Rattle.net_sim.specs.declared.auditing.said.Part.TheVariants as part
use Rattle.net_sim.proofs.Audits.Elements.{contains_got}
use Rattle.net_sim.proofs.Audits.Searches.{ends_at}
use Rattle.net_sim.proofs.Audits.Grants.{granted_decides}
use Rattle.net_sim.proofs.Audits.Messages.{messages_at, messages_decide}
use Rattle.net_sim.proofs.Audits.Partners.{partners_at, peace_at}
use Rattle.net_sim.proofs.Audits.Stamps.{stamped_decides}
use Rattle.net_sim.proofs.Audits.Streams.{fed_decides, matched_at, safe_streams}

-- ---- what a search that finds nothing shows, and what one that finds something does

all_of : {X : Type 0} (xs : List X) (P : List X → Type 0) → P (take (length xs) xs) → P xs
all_of xs P h = subst P (take_all (length xs) xs (omega arith)) h

pub unstamped_none : (log : List Crossing) (lives : List Life) (handed : List (List Bool)) → length lives ≡ length handed → Found (λ n. list_all (is_stamped log) (take n lives)) (length lives) None → IsWellFormed log lives handed
unstamped_none log lives handed e h =
    record { counts = e; stamped = (stamped_decides log lives).0 (all_of lives (λ xs. list_all (is_stamped log) xs ≡ true) h) }

pub unstamped_some : (log : List Crossing) (lives : List Life) (handed : List (List Bool)) (place : ℕ) → length lives ≡ length handed
    → Found (λ n. list_all (is_stamped log) (take n lives)) (length lives) (Some place) → ShowsMalformed (finding.Life place) log lives handed
unstamped_some log lives handed place e h =
    inr (e, ends_at (λ n. list_all (is_stamped log) (take n lives)) (λ n. AreStamped log (take n lives)) place (λ n. stamped_decides log (take n lives)) h.1 h.2)

pub broken_none : (log : List Crossing) → Found (λ n. messages_hold (reverse (take n log))) (length log) None → SafeMessages (reverse log)
broken_none log h = (messages_decide (reverse log)).0 (all_of log (λ xs. messages_hold (reverse xs) ≡ true) h)

pub broken_some : (log : List Crossing) (place : ℕ) → Found (λ n. messages_hold (reverse (take n log))) (length log) (Some place) → ShowsCrossing (finding.Crossing place) (reverse log)
broken_some log place h = ends_at (λ n. messages_hold (reverse (take n log))) (λ n. SafeMessages (before n (reverse log))) place (λ n. messages_at log n) h.1 h.2

pub two_some : (log : List Crossing) (lives : List Life) (at : ℕ × ℕ) → AreStamped log lives → FoundTwo log lives (Some at) → ShowsTwo (finding.Lives at.0 at.1) log lives
two_some log lives at stamped h =
    let y : Life = h.1.0 in
    let there : slice_get lives at.1 ≡ Some y = h.1.1 in (
      ends_at (λ n. partners_hold log (take n lives)) (λ n. SafePartners log (take n lives)) at.1 (λ n. partners_at log lives stamped n) h.0.1 h.0.2,
      (
        y,
        there,
        h.1.2.0,
        ends_at (λ n. list_all (λ x. may_both log x y) (take n lives)) (λ n. AreAtPeace log (take n lives) y) at.0 (λ n. peace_at log lives y stamped (stamped y (contains_got lives at.1 y there)) n) h.1.2.1 h.1.2.2,
      ),
    )

pub with_none : (log : List Crossing) (lives : List Life) (place : ℕ) (x : Life) → slice_get lives place ≡ Some x → Found (λ n. list_all (is_unmatched log x) (take n lives)) (length lives) None
    → WithMatch (finding.Life place) place log lives
with_none log lives place x there h = (refl, (x, there, all_of lives (λ xs. AreUnmatched log xs x) ((matched_at log lives x (length lives)).0 h)))

pub with_some : (log : List Crossing) (lives : List Life) (place other : ℕ) (x : Life) → slice_get lives place ≡ Some x → Found (λ n. list_all (is_unmatched log x) (take n lives)) (length lives) (Some other)
    → WithMatch (finding.Lives place other) place log lives
with_some log lives place other x there h =
    (refl, (x, there, h.0, ends_at (λ n. list_all (is_unmatched log x) (take n lives)) (λ n. AreUnmatched log (take n lives) x) other (λ n. matched_at log lives x n) h.1 h.2))

pub unfed_none : (log : List Crossing) (lives : List Life) (handed : List (List Bool)) → length lives ≡ length handed → Found (some_fed log lives handed) (length lives) None → AreFed log lives lives handed
unfed_none log lives handed e h =
    let P : List Life → List (List Bool) → Type 0 = λ xs hs. AreFed log lives xs hs in
    let all : AreFed log lives (take (length lives) lives) (take (length lives) handed) = (fed_decides log lives (take (length lives) lives) (take (length lives) handed)).0 h in
    subst (λ (hs : List (List Bool)). P lives hs) (take_all (length lives) handed (omega (arith, e)))
    (subst (λ (xs : List Life). P xs (take (length lives) handed)) (take_all (length lives) lives (omega arith)) all)

pub unfed_some : (log : List Crossing) (lives : List Life) (handed : List (List Bool)) (place : ℕ) (found : Finding) → Found (some_fed log lives handed) (length lives) (Some place)
    → WithMatch found place log lives → ShowsLife (first_fed log lives handed) found log lives
unfed_some log lives handed place found h w = record {
  place = place;
  first = ends_at (some_fed log lives handed) (first_fed log lives handed) place (λ n. fed_decides log lives (take n lives) (take n handed)) h.1 h.2;
  at = w;
}

pub excess_none : (log : List Crossing) (lives : List Life) → Found (λ n. list_all (has_granted log lives) (take n lives)) (length lives) None → HaveGranted log lives lives
excess_none log lives h = (granted_decides log lives lives).0 (all_of lives (λ xs. list_all (has_granted log lives) xs ≡ true) h)

pub excess_some : (log : List Crossing) (lives : List Life) (place : ℕ) (found : Finding) → Found (λ n. list_all (has_granted log lives) (take n lives)) (length lives) (Some place)
    → WithMatch found place log lives → ShowsLife (first_granted log lives) found log lives
excess_some log lives place found h w = record {
  place = place;
  first = ends_at (λ n. list_all (has_granted log lives) (take n lives)) (first_granted log lives) place (λ n. granted_decides log lives (take n lives)) h.1 h.2;
  at = w;
}

-- ---- what is said, and where it shows

-- a receiving life has one sender, since the partners are safe
pub shown_streams : (log : List Crossing) (lives : List Life) (handed : List (List Bool)) (r : Option Finding) → Says (audit.Broken part.Streams) log lives handed
    → MatchOption r (AreFed log lives lives handed) (λ found. ShowsLife (first_fed log lives handed) found log lives)
    → MatchOption r (audit.Broken part.Streams ≡ audit.Kept) (λ found. Shows (audit.Broken part.Streams) found log lives handed)
shown_streams log lives handed None w h = absurd (w.2 (safe_streams log lives handed w.1.1 h))
shown_streams log lives handed (Some found) w h = h
