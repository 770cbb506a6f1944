-- What searches find: how many of the first entries are well.
use Rattle.net_sim.proofs.Common.{◌≡◌, ℕ, ◌+◌, Bool, true, false, not, List, length, take, refl, sym, subst, ◌∙◌, arith, Option, Some, None, is_none, list_all, take_all}
use Rattle.std.specs.Prelude.{is_some}
use Rattle.net_sim.specs.Findings.{EndsAt}
use Rattle.net_sim.specs.Inside.Audit.{Found}
use Rattle.std.proofs.lemmas.Bool.{false_from_ne_true}
use Rattle.net_sim.proofs.Audits.Elements.{all_take, false_not}

-- ---- whether there is nothing to find

pub told_none : {X : Type 0} (o : Option X) (r : Bool) → is_some o ≡ not r → r ≡ is_none o
told_none None true e = refl
told_none None false e = absurd (cc)
told_none (Some x) true e = absurd (cc)
told_none (Some x) false e = refl

pub none_found : (hold : ℕ → Bool) (count : ℕ) (r : Option ℕ) (all : Bool) → Found hold count r → hold count ≡ all → ((n : ℕ) → all ≡ true → hold n ≡ true) → is_none r ≡ all
none_found hold count None all h e keeps = sym h ∙ e
none_found hold count (Some place) all h e keeps = sym (false_from_ne_true all (λ t. false_not (hold (place + 1)) h.2 (keeps (place + 1) t)))

pub none_of_list : {X : Type 0} (test : X → Bool) (xs : List X) (r : Option ℕ) → Found (λ n. list_all test (take n xs)) (length xs) r → is_none r ≡ list_all test xs
none_of_list {X} test xs r h =
    let whole : take (length xs) xs ≡ xs = take_all (length xs) xs (omega arith) in
    none_found (λ n. list_all test (take n xs)) (length xs) r (list_all test xs) h (subst (λ (zs : List X). list_all test (take (length xs) xs) ≡ list_all test zs) whole refl)
    (λ n t. all_take test n xs t)

-- ---- what is found

pub ends_at : (hold : ℕ → Bool) (AreWell : ℕ → Type 0) (place : ℕ) → ((n : ℕ) → (hold n ≡ true → AreWell n) × (AreWell n → hold n ≡ true)) → hold place ≡ true → hold (place + 1) ≡ false
    → EndsAt AreWell place
ends_at hold AreWell place decide h e = ((decide place).0 h, λ w. false_not (hold (place + 1)) e ((decide (place + 1)).1 w))
