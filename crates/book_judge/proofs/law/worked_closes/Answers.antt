use Rattle.book_judge.proofs.Common.{◌≡◌, ◌++◌, ◌∙◌, Bool, List, [], ◌∷◌, ap, refl, sym, inl, inr, arith, Contains, IsBeside, ClosesWhole, Fate, Life, gave, sent_log, took, contains_none}
use Rattle.promise.specs.Safe.{Match, AreHanded}
use Rattle.net_sim.specs.Worked.{eight, four}
use Rattle.promise.specs.declared.life.Fate.TheVariants as fate
use Rattle.book_judge.proofs.Elements.{place_contains}
use Rattle.book_judge.proofs.Identities.Named.{contains_cases}
use Rattle.world_keeps_lives.proofs.lemmas.{not_receiving, not_sending}
use Rattle.book_judge.proofs.law.worked_closes.Goals as goal

-- the one receives, and the other sends: so it is the first that matches the second
matched : Match sent_log took gave
matched = record { receiving = refl; sending = refl; peers = (refl, refl); sockets = (refl, refl); asked = refl; answered = refl }

taker_is : (x y : Life) (f a b : Fate) → IsBeside x f (took ∷ gave ∷ []) (a ∷ b ∷ []) → Match sent_log x y → (x ≡ took) × (f ≡ a)
taker_is x y f a b beside m = elim beside [
  | inl e ↦ e
  | inr more ↦ elim more [
    | inl e ↦ absurd (not_receiving x e.0 m.receiving)
    | inr none ↦ absurd none
  ]
]

giver_is : (x y : Life) (t s : List Bool) → IsBeside y t (took ∷ gave ∷ []) ([] ∷ s ∷ []) → Match sent_log x y → (y ≡ gave) × (t ≡ s)
giver_is x y t s beside m = elim beside [
  | inl e ↦ absurd (not_sending y e.0 m.sending)
  | inr more ↦ elim more [
    | inl e ↦ e
    | inr none ↦ absurd none
  ]
]

sender_is : (x y : Life) → Contains (took ∷ gave ∷ []) y → Match sent_log x y → y ≡ gave
sender_is x y there m = elim (contains_cases took (gave ∷ []) y there) [
  | inl e ↦ absurd (not_sending y (sym e) m.sending)
  | inr more ↦ elim (contains_cases gave [] y more) [
    | inl e ↦ sym e
    | inr none ↦ absurd (contains_none y none)
  ]
]

other_fate : fate.Ended ≡ fate.Closed → ⊥
other_fate e = absurd (cc)

not_twelve : eight ≡ eight ++ four → ⊥
not_twelve e = absurd (cc)

-- twelve bits were handed over, and eight were taken
lost : ClosesWhole sent_log (took ∷ gave ∷ []) ([] ∷ (eight ++ four) ∷ []) (fate.Ended ∷ []) → ⊥
lost w = not_twelve (w.took_handed took gave (eight ++ four) (inl (refl, refl)) (inr (inl (refl, refl))) matched)

-- eight bits aren't a prefix of none
none_given : AreHanded (took ∷ gave ∷ []) ([] ∷ [] ∷ []) → ⊥
none_given h = let bad : eight ++ (h.1.0 refl).0 ≡ [] = (h.1.0 refl).1 in cc

pub returns-clause-closes : goal.returns-clause-closes
returns-clause-closes c = λ b. lost b.closes

pub returns-clause-streams : goal.returns-clause-streams
returns-clause-streams c = λ b. none_given b.streams.sent

pub returns-clause-whole : goal.returns-clause-whole
returns-clause-whole c = record {
  took_sent = λ x y beside there m.
      (let p = taker_is x y fate.Ended fate.Ended fate.Open beside m in
      let q = sender_is x y there m in
      (ap (λ (z : Life). z.bits) (p.0 ∙ refl) ∙ sym (ap (λ (z : Life). z.bits) q), ap (λ (z : Life). z.messages) p.0 ∙ sym (ap (λ (z : Life). z.messages) q)));
  took_handed = λ x y text beside given m.
      (let p = taker_is x y fate.Ended fate.Ended fate.Open beside m in
      let q = giver_is x y text eight given m in
      ap (λ (z : Life). z.bits) p.0 ∙ sym q.1);
}

pub returns-clause-closed : goal.returns-clause-closed
returns-clause-closed c = record {
  took_sent = λ x y beside there m. absurd (other_fate (taker_is x y fate.Ended fate.Closed fate.Ended beside m).1);
  took_handed = λ x y text beside given m. absurd (other_fate (taker_is x y fate.Ended fate.Closed fate.Ended beside m).1);
}

pub returns-clause-lost : goal.returns-clause-lost
returns-clause-lost c = record {
  place = 0;
  first = (
    record { took_sent = λ x y beside there m. absurd beside; took_handed = λ x y text beside given m. absurd beside },
    lost,
  );
  at = (
    refl,
    (
      took,
      refl,
      omega arith,
      (
        λ y there m. elim (contains_cases took [] y there) [
          | inl e ↦ not_sending y (sym e) m.sending
          | inr none ↦ contains_none y none
        ],
        λ none. none gave (place_contains (took ∷ gave ∷ []) 1 gave refl) matched,
      ),
    ),
  );
}
