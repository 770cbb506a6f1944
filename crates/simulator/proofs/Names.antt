-- Words: which name the input, and which are left when it is taken out.
use Rattle.std.proofs.Common.{◌≡◌, ◌∙◌, ℕ, ◌+◌, ◌<◌, Bool, true, false, not, List, [], ◌∷◌, ◌++◌, Some, None, cond, length, map, take, drop, ap, refl, subst, sym, String, string_bytes, slice_index_or}
use Rattle.std.specs.List.{filter}
use Rattle.std.proofs.lemmas.List.{drop_more, get_or_default, map-append, take-append-drop}
use Rattle.std.proofs.lemmas.List.Elements.{filter-append}
use Rattle.simulator.specs.Named.{IsNamePlace, input_of, names_input, only_name, others_of}

-- words of which none names the input are all others
pub all_others : (words : List (List ℕ)) → filter names_input words ≡ [] → others_of words ≡ words
all_others [] none = refl
all_others (word ∷ words) none = by_case (names_input word) none (all_others words) where
  by_case : (b : Bool) → cond b (word ∷ filter names_input words) (filter names_input words) ≡ [] → (filter names_input words ≡ [] → others_of words ≡ words) → cond (not b) (word ∷ others_of words) (others_of words) ≡ word ∷ words
  by_case true none rest = absurd (cc)
  by_case false none rest = ap (λ l. word ∷ l) (rest none)

-- a word at a place, and what is before and after it
pub parted : {A : Type 0} (words : List A) (i : ℕ) (word : A) → i < length words → word ≡ slice_index_or words i word → words ≡ take i words ++ word ∷ drop (i + 1) words
parted words i word within is = sym (ap (λ w. take i words ++ w ∷ drop (i + 1) words) is ∙ ap (λ l. take i words ++ l) (sym (drop_more words i word within)) ∙ take-append-drop i words)

-- the first word that names the input, and those that do after it
pub named_first : (before : List (List ℕ)) (word : List ℕ) (after : List (List ℕ)) → filter names_input before ≡ [] → names_input word ≡ true → filter names_input (before ++ word ∷ after) ≡ word ∷ filter names_input after
named_first before word after none names =
    filter-append names_input before (word ∷ after)
    ∙ ap (λ l. l ++ filter names_input (word ∷ after)) none
    ∙ ap (λ b. cond b (word ∷ filter names_input after) (filter names_input after)) names

-- without it, the others are the same
pub others_without : (before : List (List ℕ)) (word : List ℕ) (after : List (List ℕ)) → names_input word ≡ true → others_of (before ++ word ∷ after) ≡ others_of (before ++ after)
others_without before word after names =
    filter-append (λ w. not (names_input w)) before (word ∷ after)
    ∙ ap (λ b. others_of before ++ cond (not b) (word ∷ others_of after) (others_of after)) names
    ∙ sym (filter-append (λ w. not (names_input w)) before after)

-- the first word that names the input was taken out: without it those name it that did beside it, and the others are the same
pub record IsTaken {A : Type 0} (bytes : A → List ℕ) (words rest : List A) (word : A) : Type 0 where
  pub named : filter names_input (map bytes words) ≡ bytes word ∷ filter names_input (map bytes rest)
  pub others : others_of (map bytes words) ≡ others_of (map bytes rest)

pub taken : {A : Type 0} (bytes : A → List ℕ) (words : List A) (i : ℕ) (word : A) → i < length words → word ≡ slice_index_or words i word → filter names_input (map bytes (take i words)) ≡ [] → names_input (bytes word) ≡ true → IsTaken bytes words (take i words ++ drop (i + 1) words) word
taken bytes words i word within is none names =
    let before : List (List ℕ) = map bytes (take i words) in
    let after : List (List ℕ) = map bytes (drop (i + 1) words) in
    let parts : map bytes words ≡ before ++ bytes word ∷ after = ap (map bytes) (parted words i word within is) ∙ map-append bytes (take i words) (word ∷ drop (i + 1) words) in
    let rest : map bytes (take i words ++ drop (i + 1) words) ≡ before ++ after = map-append bytes (take i words) (drop (i + 1) words) in
    record {
      named =
          ap (filter names_input) parts ∙ named_first before (bytes word) after none names
          ∙ ap (λ l. bytes word ∷ l) (sym (ap (filter names_input) rest ∙ filter-append names_input before after ∙ ap (λ l. l ++ filter names_input after) none));
      others = ap others_of parts ∙ others_without before (bytes word) after names ∙ ap others_of (sym rest);
    }

-- where no other word names it, it is the name of the input
pub name_alone : {A : Type 0} {bytes : A → List ℕ} {words rest : List A} {word : A} → IsTaken bytes words rest word → filter names_input (map bytes rest) ≡ [] → input_of (map bytes words) ≡ Some (bytes word)
name_alone {bytes = bytes} {word = word} t none = ap only_name (t.named ∙ ap (λ l. bytes word ∷ l) none)

-- and where another one does, the words name two
pub name_again : {A : Type 0} {bytes : A → List ℕ} {words rest : List A} {word : A} → IsTaken bytes words rest word → (i : ℕ) → i < length rest → filter names_input (map bytes (take i rest)) ≡ [] → ((other : A) → other ≡ slice_index_or rest i other → names_input (bytes other) ≡ true) → input_of (map bytes words) ≡ None
name_again {A} {bytes = bytes} {rest = rest} {word = word} t i within none names =
    let other : A = slice_index_or rest i word in
    let is : other ≡ slice_index_or rest i other = get_or_default rest i word other within in
    ap only_name (t.named ∙ ap (λ l. bytes word ∷ l) (taken bytes rest i other within is none (names other is)).named)

-- so it is of the words of a command line, of which `found` has the texts
pub taken_out : {Z : Type 0} (words rest found : List (String Z)) (i : ℕ) (word : String Z) → found ≡ words → IsNamePlace found (Some i) → word ≡ slice_index_or words i word → rest ≡ take i words ++ drop (i + 1) words → IsTaken string_bytes words rest word
taken_out words rest found i word same place is left =
    let at : IsNamePlace words (Some i) = subst (λ l. IsNamePlace l (Some i)) same place in
    subst (λ l. IsTaken string_bytes words l word) (sym left) (taken string_bytes words i word at.0 is at.1 (at.2 word is))
