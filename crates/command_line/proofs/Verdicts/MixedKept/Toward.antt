-- What a world with strangers keeps is what may be asked of the lives in its log toward these.
use Rattle.command_line.proofs.Common.{Host, Life, Fate, Contains, AreToward, logged_fate, contains_head, contains_tail, beside_among, is_among, IsBeside}
use Rattle.std.proofs.Common.{◌≡◌, Bool, true, false, List, [], ◌∷◌, map, refl, ap, inl, inr, length}
use Rattle.promise.specs.Safe.{IsGranted, IsPrefix, receives, sends}

pub toward_each : (strange : Host → Bool) (lives : List Life) (handed : List (List Bool))
    → ((x : Life) → Contains lives x → strange x.host ≡ false)
    → ((x : Life) → Contains lives x → receives x ≡ true → IsGranted x x.messages (length x.bits))
    → ((x : Life) (text : List Bool) → IsBeside x text lives handed → sends x ≡ true → IsPrefix x.bits text)
    → AreToward strange lives handed
toward_each strange [] handed owner taken given = tt
toward_each strange (x ∷ lives) [] owner taken given = tt
toward_each strange (x ∷ lives) (text ∷ handed) owner taken given = (
  record {
    owner = owner x (contains_head x lives);
    taken = λ peer receiving. taken x (contains_head x lives) receiving;
    handed = λ peer sending. given x text (inl (refl, refl)) sending;
  },
  toward_each strange lives handed
      (λ y there. owner y (contains_tail x lives y there))
      (λ y there. taken y (contains_tail x lives y there))
      (λ y bits beside. given y bits (inr beside)),
)

-- the fates that a log has of the lives among hosts with programs
pub fates_logged : (strange : Host → Bool) (lives : List Life) (fates : List Fate)
    → beside_among strange lives (map logged_fate fates) ≡ map logged_fate (beside_among strange lives fates)
fates_logged strange [] fates = refl
fates_logged strange (x ∷ lives) [] = refl
fates_logged strange (x ∷ lives) (f ∷ fates) = by (is_among strange x) refl (fates_logged strange lives fates)
  where
    by : (b : Bool) → is_among strange x ≡ b
        → beside_among strange lives (map logged_fate fates) ≡ map logged_fate (beside_among strange lives fates)
        → beside_among strange (x ∷ lives) (map logged_fate (f ∷ fates))
        ≡ map logged_fate (beside_among strange (x ∷ lives) (f ∷ fates))
    by true e rest = rw e (ap (λ (fs : List Fate). logged_fate f ∷ fs) rest)
    by false e rest = rw e rest
