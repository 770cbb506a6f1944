-- The test of grants is true exactly where they are safe.
use Rattle.net_sim.proofs.Common.{◌≡◌, ℕ, ◌+◌, true, ◌&&◌, List, length, list_all, Contains, Crossing, and_true, Life, is_match, has_granted, grants_hold, HaveGranted, SafeGrants, IsGranted, receives}
use Rattle.std.specs.Prelude.{nat_le}
use Rattle.std.proofs.lemmas.Bool.{leb-true, le-leb}
use Rattle.net_sim.specs.Inside.Audit.{asked_at, is_granted, may_send}
use Rattle.std.proofs.lemmas.Bool.{and_from}
use Rattle.net_sim.proofs.Audits.Elements.{when_true, when_is, all_at, all_from}
use Rattle.net_sim.proofs.Audits.Streams.{match_true, match_is}

granted_true : (x : Life) (count size : ℕ) → is_granted x count size ≡ true → IsGranted x count size
granted_true x count size h =
    let t = and_true (nat_le (count + x.returned.messages) x.granted.messages) (nat_le (size + x.returned.bits) x.granted.bits) h in
    record { messages = leb-true (count + x.returned.messages) x.granted.messages t.0; bits = leb-true (size + x.returned.bits) x.granted.bits t.1 }

granted_is : (x : Life) (count size : ℕ) → IsGranted x count size → is_granted x count size ≡ true
granted_is x count size g =
    and_from (nat_le (count + x.returned.messages) x.granted.messages) (nat_le (size + x.returned.bits) x.granted.bits)
    (le-leb (count + x.returned.messages) x.granted.messages g.messages) (le-leb (size + x.returned.bits) x.granted.bits g.bits)

-- the two parts of what a receiving life granted
parts : (log : List Crossing) (lives some : List Life) → list_all (has_granted log lives) some ≡ true → (x : Life) → Contains some x → receives x ≡ true
    → (is_granted x x.messages (length x.bits) ≡ true) × (list_all (may_send log (asked_at log x) x) lives ≡ true)
parts log lives some h x c r =
    and_true (is_granted x x.messages (length x.bits)) (list_all (may_send log (asked_at log x) x) lives)
    (when_true (receives x) (is_granted x x.messages (length x.bits) && list_all (may_send log (asked_at log x) x) lives) (all_at (has_granted log lives) some h x c) r)

granted_from : (log : List Crossing) (lives some : List Life) → list_all (has_granted log lives) some ≡ true → HaveGranted log lives some
granted_from log lives some h = record {
  taken = λ x c r. granted_true x x.messages (length x.bits) (parts log lives some h x c r).0;
  sent = λ x y c d m.
      granted_true x y.messages (length y.bits)
      (when_true (is_match log (asked_at log x) x y) (is_granted x y.messages (length y.bits))
      (all_at (may_send log (asked_at log x) x) lives (parts log lives some h x c m.receiving).1 y d) (match_is log x y m));
}

granted_holds : (log : List Crossing) (lives some : List Life) → HaveGranted log lives some → list_all (has_granted log lives) some ≡ true
granted_holds log lives some s =
    all_from (has_granted log lives) some
    (λ x c.
    when_is (receives x) (is_granted x x.messages (length x.bits) && list_all (may_send log (asked_at log x) x) lives)
    (λ r.
    and_from (is_granted x x.messages (length x.bits)) (list_all (may_send log (asked_at log x) x) lives)
    (granted_is x x.messages (length x.bits) (s.taken x c r))
    (all_from (may_send log (asked_at log x) x) lives
    (λ y d.
    when_is (is_match log (asked_at log x) x y) (is_granted x y.messages (length y.bits))
    (λ m. granted_is x y.messages (length y.bits) (s.sent x y c d (match_true log x y m)))))))

-- the test of some lives is true exactly where what the grants promise of them holds
pub granted_decides : (log : List Crossing) (lives some : List Life)
    → (list_all (has_granted log lives) some ≡ true → HaveGranted log lives some) × (HaveGranted log lives some → list_all (has_granted log lives) some ≡ true)
granted_decides log lives some = (granted_from log lives some, granted_holds log lives some)

pub safe_grants : (log : List Crossing) (lives : List Life) → HaveGranted log lives lives → SafeGrants log lives
safe_grants log lives h = record { taken = h.taken; sent = h.sent }

-- the test of grants is true exactly where they are safe
pub grants_decide : (log : List Crossing) (lives : List Life) → (grants_hold log lives ≡ true → SafeGrants log lives) × (SafeGrants log lives → grants_hold log lives ≡ true)
grants_decide log lives = (
  λ h. safe_grants log lives (granted_from log lives lives h),
  λ s. granted_holds log lives lives (record { taken = s.taken; sent = s.sent }),
)
