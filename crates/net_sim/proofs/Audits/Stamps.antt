-- The test of stamps is true exactly where they name messages.
use Rattle.net_sim.proofs.Common.{◌≡◌, ℕ, ◌+◌, ◌<◌, ◌≤◌, Bool, true, false, ◌&&◌, ◌==◌, List, [], ◌∷◌, ◌++◌, length, take, drop, get_or, refl, ap, sym, subst, ◌∙◌, if◌then◌else◌, arith, inl, inr, Option, Some, None, eq-eqb, list_all, eqb-true, length-reverse, reverse-append, take-append-drop, drop_more, Flow, Crossing, and_true, same_flow-true, IsStamped, IsWellFormed, Life, AreStamped, CrossedAt, is_stamped, is_well_formed, control_flow}
use Rattle.std.proofs.Common.{reverse}
use Rattle.std.specs.Prelude.{IsSome}
use Rattle.std.proofs.lemmas.List.{length-take, length-append, append_assoc}
use Rattle.interface.specs.declared.crossing.Crossing.TheVariants as crossing
use Rattle.net_sim.specs.Audit.{Passes}
use Rattle.promise.specs.Formed.{going, coming}
use Rattle.net_sim.specs.Inside.Audit.{asked_at, is_there, crossed_at, is_out, is_in}
use Rattle.std.proofs.lemmas.Bool.{and_from, false_from_ne_true}
use Rattle.net_sim.proofs.Audits.Elements.{all_at, all_from}
use Rattle.net_sim.proofs.Audits.Messages.{same_yes}
use Rattle.net_sim.proofs.Audits.Requests.{crossed_below}

-- ---- what crossed at a place

crossed_true : (p : ℕ) (c d : Crossing) (log : List Crossing) → (b : Bool) → (p == length log) ≡ b → (if b then Some d else crossed_at p log) ≡ Some c
    → (crossed_at p log ≡ Some c → CrossedAt p c log) → CrossedAt p c (d ∷ log)
crossed_true p c d log true e h rec = inl ((let s : d ≡ c = cc in sym s), eqb-true p (length log) e)
crossed_true p c d log false e h rec = inr (rec h)

pub crossed_from : (p : ℕ) (c : Crossing) (log : List Crossing) → crossed_at p log ≡ Some c → CrossedAt p c log
crossed_from p c [] h = absurd (cc)
crossed_from p c (d ∷ log) h = crossed_true p c d log (p == length log) refl h (crossed_from p c log)

not_length : (p n : ℕ) → p < n → (p == n) ≡ false
not_length p n l = false_from_ne_true (p == n) (λ t. (let e : p ≡ n = eqb-true p n t in omega arith))

pub crossed_is : (p : ℕ) (c : Crossing) (log : List Crossing) → CrossedAt p c log → crossed_at p log ≡ Some c
crossed_is p c [] h = absurd h
crossed_is p c (d ∷ log) (inl h) = rw (eq-eqb p (length log) h.1) (ap (λ (x : Crossing). Some x) (sym h.0))
crossed_is p c (d ∷ log) (inr h) = rw (not_length p (length log) (crossed_below p c log h)) (crossed_is p c log h)

at_here : (newer older : List Crossing) (x : Crossing) (p : ℕ) → p ≡ length older → crossed_at p (newer ++ x ∷ older) ≡ Some x
at_here [] older x p e = rw (eq-eqb p (length older) e) refl
at_here (c ∷ newer) older x p e =
    let l : p < length (newer ++ x ∷ older) = omega (arith, length-append newer (x ∷ older)) in
    rw (not_length p (length (newer ++ x ∷ older)) l) (at_here newer older x p e)

pub at_past : (p : ℕ) (log : List Crossing) → length log ≤ p → crossed_at p log ≡ None
at_past p [] h = refl
at_past p (c ∷ log) h =
    let n : (p == length log) ≡ false = false_from_ne_true (p == length log) (λ t. (let e : p ≡ length log = eqb-true p (length log) t in omega arith)) in
    rw n (at_past p log (omega arith))

-- the crossing at a place of a list that is read from its end
pub at_reverse : (log : List Crossing) (p : ℕ) (x : Crossing) → p < length log → x ≡ get_or log p x → crossed_at p (reverse log) ≡ Some x
at_reverse log p x l e =
    let parts : log ≡ take p log ++ x ∷ drop (p + 1) log = sym (take-append-drop p log) ∙ ap (λ (zs : List Crossing). take p log ++ zs) (drop_more log p x l) ∙ ap (λ (z : Crossing). take p log ++ z ∷ drop (p + 1) log) (sym e) in
    let back : reverse (take p log ++ x ∷ drop (p + 1) log) ≡ reverse (x ∷ drop (p + 1) log) ++ reverse (take p log) = reverse-append (take p log) (x ∷ drop (p + 1) log) in
    let one : reverse (x ∷ drop (p + 1) log) ≡ reverse (drop (p + 1) log) ++ x ∷ [] = reverse-append (x ∷ []) (drop (p + 1) log) in
    let all : reverse log ≡ reverse (drop (p + 1) log) ++ x ∷ reverse (take p log) =
    ap (λ (zs : List Crossing). reverse zs) parts ∙ back ∙ ap (λ (zs : List Crossing). zs ++ reverse (take p log)) one ∙ append_assoc (reverse (drop (p + 1) log)) (x ∷ []) (reverse (take p log)) in
    let P : List Crossing → Type 0 = λ z. crossed_at p z ≡ Some x in
    subst P (sym all) (at_here (reverse (drop (p + 1) log)) (reverse (take p log)) x p (omega (arith, length-reverse (take p log), length-take p log)))

pub out_at : (f : Flow) (log : List Crossing) (p : ℕ) (x : Crossing) (r : Bool) → p < length log → x ≡ get_or log p x → r ≡ is_out f (Some x) → r ≡ is_out f (crossed_at p (reverse log))
out_at f log p x r l e h = h ∙ ap (λ (o : Option Crossing). is_out f o) (sym (at_reverse log p x l e))

pub in_at : (f : Flow) (log : List Crossing) (p : ℕ) (x : Crossing) (r : Bool) → p < length log → x ≡ get_or log p x → r ≡ is_in f (Some x) → r ≡ is_in f (crossed_at p (reverse log))
in_at f log p x r l e h = h ∙ ap (λ (o : Option Crossing). is_in f o) (sym (at_reverse log p x l e))

pub out_past : (f : Flow) (log : List Crossing) (p : ℕ) → length log ≤ p → false ≡ is_out f (crossed_at p (reverse log))
out_past f log p h = ap (λ (o : Option Crossing). is_out f o) (sym (at_past p (reverse log) (omega (arith, length-reverse log))))

pub in_past : (f : Flow) (log : List Crossing) (p : ℕ) → length log ≤ p → false ≡ is_in f (crossed_at p (reverse log))
in_past f log p h = ap (λ (o : Option Crossing). is_in f o) (sym (at_past p (reverse log) (omega (arith, length-reverse log))))

-- ---- messages at places

out_true : (f : Flow) (p : ℕ) (log : List Crossing) (o : Option Crossing) → crossed_at p log ≡ o → is_out f o ≡ true → Passes going f p log
out_true f p log None e h = absurd (cc)
out_true f p log (Some (crossing.Out m)) e h = (m, sym (same_flow-true f m.flow h), crossed_from p (crossing.Out m) log e)
out_true f p log (Some c) e h = absurd (cc)

in_true : (f : Flow) (p : ℕ) (log : List Crossing) (o : Option Crossing) → crossed_at p log ≡ o → is_in f o ≡ true → Passes coming f p log
in_true f p log None e h = absurd (cc)
in_true f p log (Some (crossing.In m)) e h = (m, sym (same_flow-true f m.flow h), crossed_from p (crossing.In m) log e)
in_true f p log (Some c) e h = absurd (cc)

out_is : (f : Flow) (p : ℕ) (log : List Crossing) → Passes going f p log → is_out f (crossed_at p log) ≡ true
out_is f p log (m, e, c) = rw (crossed_is p (crossing.Out m) log c) (same_yes f m.flow e)

in_is : (f : Flow) (p : ℕ) (log : List Crossing) → Passes coming f p log → is_in f (crossed_at p log) ≡ true
in_is f p log (m, e, c) = rw (crossed_is p (crossing.In m) log c) (same_yes f m.flow e)

-- ---- stamps

some_there : (a : Option ℕ) → IsSome a → is_there a ≡ true
some_there None h = absurd (cc)
some_there (Some p) h = refl

there_some : (a : Option ℕ) → is_there a ≡ true → IsSome a
there_some None h = absurd (cc)
there_some (Some p) h = refl

stamped_true : (log : List Crossing) (x : Life) → is_stamped log x ≡ true → IsStamped log x
stamped_true log x h =
    let t = and_true (is_out (control_flow x.host x.peer) (crossed_at x.own_stamp log) && is_in (control_flow x.peer x.host) (crossed_at x.partner_stamp log)) (is_there (asked_at log x)) h in
    let u = and_true (is_out (control_flow x.host x.peer) (crossed_at x.own_stamp log)) (is_in (control_flow x.peer x.host) (crossed_at x.partner_stamp log)) t.0 in
    record {
      own = out_true (control_flow x.host x.peer) x.own_stamp log (crossed_at x.own_stamp log) refl u.0;
      partner = in_true (control_flow x.peer x.host) x.partner_stamp log (crossed_at x.partner_stamp log) refl u.1;
      asked = there_some (asked_at log x) t.1;
    }

stamped_is : (log : List Crossing) (x : Life) → IsStamped log x → is_stamped log x ≡ true
stamped_is log x s =
    and_from (is_out (control_flow x.host x.peer) (crossed_at x.own_stamp log) && is_in (control_flow x.peer x.host) (crossed_at x.partner_stamp log)) (is_there (asked_at log x))
    (and_from (is_out (control_flow x.host x.peer) (crossed_at x.own_stamp log)) (is_in (control_flow x.peer x.host) (crossed_at x.partner_stamp log))
    (out_is (control_flow x.host x.peer) x.own_stamp log s.own) (in_is (control_flow x.peer x.host) x.partner_stamp log s.partner))
    (some_there (asked_at log x) s.asked)

formed : (log : List Crossing) (lives : List Life) (handed : List (List Bool)) → is_well_formed log lives handed ≡ true → IsWellFormed log lives handed
formed log lives handed h =
    let t = and_true (length lives == length handed) (list_all (is_stamped log) lives) h in
    record { counts = eqb-true (length lives) (length handed) t.0; stamped = λ x c. stamped_true log x (all_at (is_stamped log) lives t.1 x c) }

holds : (log : List Crossing) (lives : List Life) (handed : List (List Bool)) → IsWellFormed log lives handed → is_well_formed log lives handed ≡ true
holds log lives handed w =
    and_from (length lives == length handed) (list_all (is_stamped log) lives) (eq-eqb (length lives) (length handed) w.counts)
    (all_from (is_stamped log) lives (λ x c. stamped_is log x (w.stamped x c)))

-- the test of some lives is true exactly where their stamps name messages
pub stamped_decides : (log : List Crossing) (lives : List Life) → (list_all (is_stamped log) lives ≡ true → AreStamped log lives) × (AreStamped log lives → list_all (is_stamped log) lives ≡ true)
stamped_decides log lives = (
  λ h x c. stamped_true log x (all_at (is_stamped log) lives h x c),
  λ s. all_from (is_stamped log) lives (λ x c. stamped_is log x (s x c)),
)

-- the test of stamps is true exactly where a book is well-formed
pub stamps_decide : (log : List Crossing) (lives : List Life) (handed : List (List Bool))
    → (is_well_formed log lives handed ≡ true → IsWellFormed log lives handed) × (IsWellFormed log lives handed → is_well_formed log lives handed ≡ true)
stamps_decide log lives handed = (formed log lives handed, holds log lives handed)
