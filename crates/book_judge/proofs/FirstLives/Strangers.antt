-- Lives toward strangers, one after the other.
use Rattle.book_judge.proofs.Common.{Host, receives, sends, Life, eqb-true}
use Rattle.std.proofs.Common.{◌≡◌, ℕ, zero, suc, ◌+◌, ◌≤◌, Bool, true, false, List, [], ◌∷◌, length, take, MatchBool, Some, None, sym, subst, ◌∙◌, arith, slice_get, ◌%◌, ◌==◌}
use Rattle.book_judge.specs.Inside.Chains.{IsHanded, is_granted}
use Rattle.book_judge.specs.Toward.{AreToward, IsToward, UntowardAt}
use Rattle.std.proofs.lemmas.Option.{same_Some}
use Rattle.book_judge.proofs.Peace.{granted_is, granted_true}

-- ---- the first lives

pub toward_front : (strange : Host → Bool) (n : ℕ) (lives : List Life) (handed : List (List Bool))
    → AreToward strange lives handed → AreToward strange (take n lives) (take n handed)
toward_front strange zero lives handed h = tt
toward_front strange (suc n) [] handed h = tt
toward_front strange (suc n) (x ∷ lives) [] h = tt
toward_front strange (suc n) (x ∷ lives) (text ∷ handed) h = (h.0, toward_front strange n lives handed h.1)

-- one more, and it is so where all are
toward_next : (strange : Host → Bool) (n : ℕ) (lives : List Life) (handed : List (List Bool)) (x : Life)
    (text : List Bool) → slice_get lives n ≡ Some x → slice_get handed n ≡ Some text
    → AreToward strange (take n lives) (take n handed) → IsToward strange x text
    → AreToward strange (take (suc n) lives) (take (suc n) handed)
toward_next strange n [] handed x text p q h is = absurd (cc)
toward_next strange n (y ∷ lives) [] x text p q h is = absurd (cc)
toward_next strange zero (y ∷ lives) (t ∷ handed) x text p q h is = (
  subst (λ (z : Life). IsToward strange z t) (sym (same_Some y x p))
      (subst (λ (z : List Bool). IsToward strange x z) (sym (same_Some t text q)) is),
  tt,
)
toward_next strange (suc n) (y ∷ lives) (t ∷ handed) x text p q h is =
    (h.0, toward_next strange n lives handed x text p q h.1 is)

pub toward_more : (strange : Host → Bool) (n : ℕ) (lives : List Life) (handed : List (List Bool)) (x : Life)
    (text : List Bool) → slice_get lives n ≡ Some x → slice_get handed n ≡ Some text
    → AreToward strange (take n lives) (take n handed) → IsToward strange x text
    → AreToward strange (take (n + 1) lives) (take (n + 1) handed)
toward_more strange n lives handed x text p q h is =
    let on : suc n ≡ n + 1 = omega arith in
    subst (λ (k : ℕ). AreToward strange (take k lives) (take k handed)) on
    (toward_next strange n lives handed x text p q h is)

toward_last : (strange : Host → Bool) (n : ℕ) (lives : List Life) (handed : List (List Bool)) (x : Life)
    (text : List Bool) → slice_get lives n ≡ Some x → slice_get handed n ≡ Some text
    → AreToward strange (take (suc n) lives) (take (suc n) handed) → IsToward strange x text
toward_last strange n [] handed x text p q h = absurd (cc)
toward_last strange n (y ∷ lives) [] x text p q h = absurd (cc)
toward_last strange zero (y ∷ lives) (t ∷ handed) x text p q h =
    subst (λ (z : Life). IsToward strange z text) (same_Some y x p)
    (subst (λ (z : List Bool). IsToward strange y z) (same_Some t text q) h.0)
toward_last strange (suc n) (y ∷ lives) (t ∷ handed) x text p q h = toward_last strange n lives handed x text p q h.1

toward_here : (strange : Host → Bool) (n : ℕ) (lives : List Life) (handed : List (List Bool)) (x : Life)
    (text : List Bool) → slice_get lives n ≡ Some x → slice_get handed n ≡ Some text
    → AreToward strange (take (n + 1) lives) (take (n + 1) handed) → IsToward strange x text
toward_here strange n lives handed x text p q h =
    let on : n + 1 ≡ suc n = omega arith in
    toward_last strange n lives handed x text p q
    (subst (λ (k : ℕ). AreToward strange (take k lives) (take k handed)) on h)

pub untoward_here : (strange : Host → Bool) (n : ℕ) (lives : List Life) (handed : List (List Bool)) (x : Life)
    (text : List Bool) → slice_get lives n ≡ Some x → slice_get handed n ≡ Some text
    → AreToward strange (take n lives) (take n handed) → (IsToward strange x text → ⊥)
    → UntowardAt strange lives handed n
untoward_here strange n lives handed x text p q h not =
    (h, λ all. not (toward_here strange n lives handed x text p q all))

-- all of them, where one list is over
pub toward_lives : (strange : Host → Bool) (n : ℕ) (lives : List Life) (handed : List (List Bool)) → length lives ≤ n
    → AreToward strange (take n lives) (take n handed) → AreToward strange lives handed
toward_lives strange n [] handed few h = tt
toward_lives strange n (x ∷ lives) [] few h = tt
toward_lives strange zero (x ∷ lives) (t ∷ handed) few h = absurd (omega (arith, few))
toward_lives strange (suc n) (x ∷ lives) (t ∷ handed) few h =
    (h.0, toward_lives strange n lives handed (omega (arith, few)) h.1)

pub toward_lists : (strange : Host → Bool) (n : ℕ) (lives : List Life) (handed : List (List Bool))
    → slice_get handed n ≡ None → AreToward strange (take n lives) (take n handed) → AreToward strange lives handed
toward_lists strange n [] handed none h = tt
toward_lists strange n (x ∷ lives) [] none h = tt
toward_lists strange zero (x ∷ lives) (t ∷ handed) none h = absurd (cc)
toward_lists strange (suc n) (x ∷ lives) (t ∷ handed) none h = (h.0, toward_lists strange n lives handed none h.1)

-- ---- one life

pub of_stranger : (strange : Host → Bool) (x : Life) (text : List Bool) → strange x.host ≡ true
    → IsToward strange x text → ⊥
of_stranger strange x text e is = true_false (sym e ∙ is.owner)
  where
    true_false : true ≡ false → ⊥
    true_false f = cc

pub with_program : (strange : Host → Bool) (x : Life) (text : List Bool) → strange x.host ≡ false
    → strange x.peer ≡ false → IsToward strange x text
with_program strange x text own peer = record { owner = own; taken = λ e. absurd (false_true (sym peer ∙ e)); handed = λ e. absurd (false_true (sym peer ∙ e)) }
  where
    false_true : false ≡ true → ⊥
    false_true f = cc

no_kind : (n : ℕ) → (n == 0) ≡ true → (n == 1) ≡ true → ⊥
no_kind n p q = let none : n ≡ 0 = eqb-true n 0 p in let one : n ≡ 1 = eqb-true n 1 q in omega (arith, none, one)

-- one that receives doesn't send
pub one_kind : (x : Life) → receives x ≡ true → sends x ≡ true → ⊥
one_kind x comes goes = no_kind (x.socket % 2) comes goes

pub toward_taken : (strange : Host → Bool) (x : Life) (text : List Bool) (r : Bool) → strange x.host ≡ false
    → strange x.peer ≡ true → receives x ≡ true
    → r ≡ is_granted x x.messages (length x.bits) → MatchBool r (IsToward strange x text) (IsToward strange x text → ⊥)
toward_taken strange x text true own peer comes granted =
    record { owner = own; taken = λ e receiving. granted_true x x.messages (length x.bits) (sym granted); handed = λ e goes. absurd (one_kind x comes goes) }
toward_taken strange x text false own peer comes granted =
    λ is. true_false (sym (granted_is x x.messages (length x.bits) (is.taken peer comes)) ∙ sym granted)
  where
    true_false : true ≡ false → ⊥
    true_false f = cc

pub toward_sent : (strange : Host → Bool) (x : Life) (text : List Bool) (r : Bool) → strange x.host ≡ false
    → strange x.peer ≡ true → receives x ≡ false
    → MatchBool r (IsHanded x text) (IsHanded x text → ⊥)
    → MatchBool r (IsToward strange x text) (IsToward strange x text → ⊥)
toward_sent strange x text true own peer comes has =
    record { owner = own; taken = λ e receiving. absurd (false_true (sym comes ∙ receiving)); handed = λ e. has }
  where
    false_true : false ≡ true → ⊥
    false_true f = cc
toward_sent strange x text false own peer comes has = λ is. has (is.handed peer)
