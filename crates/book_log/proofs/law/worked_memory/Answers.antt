use Rattle.book_log.proofs.Common.{◌≡◌, ℕ, true, List, [], ◌∷◌, ◌++◌, codes, inl, inr, refl, subst, ended_line, false≢true}
use Rattle.book_log.specs.Log.{HasOctets, RanOut, is_of_octets}
use Rattle.book_log.proofs.law.worked_memory.Goals as goal

pub returns-clause-handed : goal.returns-clause-handed
returns-clause-handed c = record { first = codes "handed"; others = codes "0" ∷ codes "-" ∷ []; words = refl; octets = refl }

-- of one line it is the first word
not_first : (word : List ℕ) (others : List (List ℕ)) (h : HasOctets (codes "up 0/1")) → word ∷ others ≡ h.first ∷ h.others → is_of_octets word ≡ true
not_first word others h e =
    let same : h.first ≡ word = cc in
    subst (λ (w : List ℕ). is_of_octets w ≡ true) same h.octets

pub returns-clause-none : goal.returns-clause-none
returns-clause-none c = λ h. false≢true (not_first (codes "up") (codes "0/1" ∷ []) h h.words)

-- a text of one line has this line
only_line : (line rest : List ℕ) → codes "up\n" ≡ ended_line line ++ rest → line ≡ codes "up"
only_line [] rest e = absurd (cc)
only_line (a ∷ []) rest e = absurd (cc)
only_line (a ∷ b ∷ []) rest e = cc
only_line (a ∷ b ∷ d ∷ []) rest e = absurd (cc)
only_line (a ∷ b ∷ d ∷ f ∷ line) rest e = absurd (cc)

bare : HasOctets (codes "up") → ⊥
bare h =
    let same : h.first ≡ codes "up" = let words : codes "up" ∷ [] ≡ h.first ∷ h.others = h.words in cc in
    false≢true (subst (λ (w : List ℕ). is_of_octets w ≡ true) same h.octets)

pub returns-clause-unwanted : goal.returns-clause-unwanted
returns-clause-unwanted c = λ ran. elim ran.wants [
  | inl octets ↦ bare (subst (λ (line : List ℕ). HasOctets line) (only_line ran.line ran.rest (rw ran.begins at ran.parted)) octets)
  | inr begins ↦ absurd (cc)
]

pub returns-clause-begun : goal.returns-clause-begun
returns-clause-begun c = λ octets ran. ran.begins
