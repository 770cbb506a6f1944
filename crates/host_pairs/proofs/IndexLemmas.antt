-- Ends that have numbers, and are found by their sockets under them.
use Rattle.std.proofs.Common.{◌≡◌, ℕ, ◌<◌, ◌≤◌, ◌++◌, Bool, true, false, not, cond, List, [], ◌∷◌, length, map, Option, Some, None, slice_set, slice_index_or, zero, suc, refl, sym, ap, subst, ◌∙◌, arith}
use Rattle.std.specs.List.{list_any, remove}
use Rattle.std.specs.Ordering.{nat_cmp, is_eq}
use Rattle.std.specs.declared.cmp.Ordering.{Ordering}
use Rattle.std.specs.declared.cmp.Ordering.TheVariants.{Less, Equal, Greater}
use Rattle.std.proofs.lemmas.Bool.{eqb-true, not_from_false}
use Rattle.std.proofs.lemmas.Option.{same_Some}
use Rattle.host_pairs.specs.Entries.{changed_first, is_at}
use Rattle.host_pairs.specs.Inside.Held.{none_but}
use Rattle.host_pairs.specs.Inside.Index.{Ascend, AreFound, AreIndexed, AreKept, AscendFrom, end_key, key_of, number_in}
use Rattle.host_pairs.specs.declared.index.Places.{Places}
use Rattle.host_pairs.specs.declared.index.Places.TheVariants as places
use Rattle.host_pairs.specs.declared.entry.Entry.{Entry}
use Rattle.host_pairs.specs.declared.index.Index.{Index}
use Rattle.host_pairs.proofs.OpeningLemmas.{both}
use Rattle.interface.proofs.lemmas.{is_equal}

-- ---- numbers as a map compares them

equal_by : (b c : Bool) → cond b Less (cond c Equal Greater) ≡ Equal → c ≡ true
equal_by true c h = absurd (cc)
equal_by false true h = refl
equal_by false false h = absurd (cc)

pub equals : (x y : ℕ) → nat_cmp x y ≡ Equal → x ≡ y
equals x y h = eqb-true x y (equal_by _ _ h)

apart_by : (k q : ℕ) → (k ≡ q → ⊥) → (b : Bool) → is_eq (nat_cmp k q) ≡ b → b ≡ false
apart_by k q differ true h = absurd (differ (equals k q (is_equal _ h)))
apart_by k q differ false h = refl

apart : (k q : ℕ) → (k ≡ q → ⊥) → is_eq (nat_cmp k q) ≡ false
apart k q differ = apart_by k q differ (is_eq (nat_cmp k q)) refl

-- ---- an end of two sockets has their number

pub at_key : (own foreign : ℕ) (e : Entry) → is_at own foreign e ≡ true → end_key e ≡ key_of own foreign
at_key own foreign e h =
    let first : e.own ≡ own = eqb-true e.own own (both _ _ h).0 in
    let second : e.foreign ≡ foreign = eqb-true e.foreign foreign (both _ _ h).1 in
    ap (λ (n : ℕ). key_of n e.foreign) first ∙ ap (λ (n : ℕ). key_of own n) second

not_at_by : (own foreign : ℕ) (e : Entry) → (end_key e ≡ key_of own foreign → ⊥) → (b : Bool) → is_at own foreign e ≡ b → b ≡ false
not_at_by own foreign e differ true h = absurd (differ (at_key own foreign e h))
not_at_by own foreign e differ false h = refl

pub not_at : (own foreign : ℕ) (e : Entry) → (end_key e ≡ key_of own foreign → ⊥) → is_at own foreign e ≡ false
not_at own foreign e differ = not_at_by own foreign e differ (is_at own foreign e) refl

-- ---- numbers that ascend

weaker : (low more : ℕ) (ns : List ℕ) (next : ℕ) → low ≤ more → Ascend more ns next → Ascend low ns next
weaker low more [] next le h = omega (arith, le, h)
weaker low more (n ∷ ns) next le h = (omega (arith, le, h.0), h.1)

from_low : (low : ℕ) (ns : List ℕ) (next i d : ℕ) → Ascend low ns next → i < length ns → low ≤ slice_index_or ns i d
from_low low [] next i d h lt = absurd (omega (arith, lt))
from_low low (n ∷ ns) next zero d h lt = h.0
from_low low (n ∷ ns) next (suc i) d h lt =
    let rest : suc n ≤ slice_index_or ns i d = from_low (suc n) ns next i d h.1 (omega (arith, lt)) in
    omega (arith, rest, h.0)

ascend_more : (low : ℕ) (ns : List ℕ) (next more : ℕ) → more ≡ suc next → Ascend low ns next → Ascend low (ns ++ next ∷ []) more
ascend_more low [] next more is h = (h, omega (arith, is))
ascend_more low (n ∷ ns) next more is h = (h.0, ascend_more (suc n) ns next more is h.1)

ascend_removed : (low : ℕ) (ns : List ℕ) (next at : ℕ) → Ascend low ns next → Ascend low (remove ns at) next
ascend_removed low [] next zero h = h
ascend_removed low [] next (suc at) h = h
ascend_removed low (n ∷ ns) next zero h = weaker low (suc n) ns next (omega (arith, h.0)) h.1
ascend_removed low (n ∷ ns) next (suc at) h = (h.0, ascend_removed (suc n) ns next at h.1)

-- ---- ends that are found

pub same_length : (found : ℕ → Option ℕ) (ns : List ℕ) (es : List Entry) → AreFound found ns es → length ns ≡ length es
same_length found [] [] h = refl
same_length found [] (e ∷ es) h = absurd (h)
same_length found (n ∷ ns) [] h = absurd (h)
same_length found (n ∷ ns) (e ∷ es) h = ap (λ (k : ℕ). suc k) (same_length found ns es h.1)

-- none of them has sockets without a number
absent : (found : ℕ → Option ℕ) (own foreign : ℕ) (ns : List ℕ) (es : List Entry) → found (key_of own foreign) ≡ None → AreFound found ns es → list_any (is_at own foreign) es ≡ false
absent found own foreign [] [] none h = refl
absent found own foreign [] (e ∷ es) none h = absurd (h)
absent found own foreign (n ∷ ns) [] none h = absurd (h)
absent found own foreign (n ∷ ns) (e ∷ es) none h =
    let first : is_at own foreign e ≡ false = not_at own foreign e (λ is. absurd (let e : Some n ≡ None = sym h.0 ∙ ap found is ∙ none in cc)) in
    rw first (absent found own foreign ns es none h.1)

-- none of those with greater numbers has the sockets of a number
later : (found : ℕ → Option ℕ) (own foreign n low next : ℕ) (ns : List ℕ) (es : List Entry) → found (key_of own foreign) ≡ Some n → n < low → Ascend low ns next → AreFound found ns es
    → list_any (is_at own foreign) es ≡ false
later found own foreign n low next [] [] is lt up h = refl
later found own foreign n low next [] (e ∷ es) is lt up h = absurd (h)
later found own foreign n low next (m ∷ ns) [] is lt up h = absurd (h)
later found own foreign n low next (m ∷ ns) (e ∷ es) is lt up h =
    let first : is_at own foreign e ≡ false = not_at own foreign e (λ same. absurd (let e : m ≡ n = same_Some m n (sym h.0 ∙ ap found same ∙ is) in omega (arith, e, lt, up.0))) in
    rw first (later found own foreign n (suc m) next ns es is (omega (arith, lt, up.0)) up.1 h.1)

only_at : (found : ℕ → Option ℕ) (own foreign n low next at d : ℕ) (ns : List ℕ) (es : List Entry) → found (key_of own foreign) ≡ Some n → at < length ns → slice_index_or ns at d ≡ n → Ascend low ns next
    → AreFound found ns es → none_but (is_at own foreign) at es ≡ true
only_at found own foreign n low next at d [] [] is lt read up h = refl
only_at found own foreign n low next at d [] (e ∷ es) is lt read up h = absurd (h)
only_at found own foreign n low next at d (m ∷ ns) [] is lt read up h = absurd (h)
only_at found own foreign n low next zero d (m ∷ ns) (e ∷ es) is lt read up h =
    not_from_false _ (later found own foreign n (suc m) next ns es is (omega (arith, read)) up.1 h.1)
only_at found own foreign n low next (suc at) d (m ∷ ns) (e ∷ es) is lt read up h =
    let above : suc m ≤ slice_index_or ns at d = from_low (suc m) ns next at d up.1 (omega (arith, lt)) in
    let first : is_at own foreign e ≡ false = not_at own foreign e (λ same. absurd (let e : m ≡ n = same_Some m n (sym h.0 ∙ ap found same ∙ is) in omega (arith, e, above, read))) in
    rw first (only_at found own foreign n (suc m) next at d ns es is (omega (arith, lt)) read up.1 h.1)

-- ---- what the index answers

pub nowhere : (x : Index) (own foreign : ℕ) (es : List Entry) → number_in x (key_of own foreign) ≡ None → AreIndexed x es → not (list_any (is_at own foreign) es) ≡ true
nowhere x own foreign es none h = not_from_false _ (absent (number_in x) own foreign _ es none h.found)

pub only_there : (x : Index) (own foreign n at : ℕ) (es : List Entry) → number_in x (key_of own foreign) ≡ Some n → at < length x.numbers.items → slice_index_or x.numbers.items at 0 ≡ n → AreIndexed x es
    → none_but (is_at own foreign) at es ≡ true
only_there x own foreign n at es is lt same h =
    only_at (number_in x) own foreign n 0 _ at 0 x.numbers.items es is lt same h.ascending h.found

-- ---- an end that joins

kept_by : (found more : ℕ → Option ℕ) (key : ℕ) (ns : List ℕ) (es : List Entry) → found key ≡ None → ((q : ℕ) → is_eq (nat_cmp key q) ≡ false → more q ≡ found q) → AreFound found ns es → AreFound more ns es
kept_by found more key [] [] none rest h = h
kept_by found more key [] (e ∷ es) none rest h = absurd (h)
kept_by found more key (n ∷ ns) [] none rest h = absurd (h)
kept_by found more key (n ∷ ns) (e ∷ es) none rest h =
    (rest (end_key e) (apart key (end_key e) (λ same. absurd (let e : Some n ≡ None = sym h.0 ∙ ap found (sym same) ∙ none in cc))) ∙ h.0, kept_by found more key ns es none rest h.1)

one_found : (more : ℕ → Option ℕ) (n : ℕ) (ns : List ℕ) (e : Entry) (es : List Entry) → more (end_key e) ≡ Some n → AreFound more ns es → AreFound more (ns ++ n ∷ []) (es ++ e ∷ [])
one_found more n [] e [] is h = (is, tt)
one_found more n [] e (f ∷ es) is h = absurd (h)
one_found more n (m ∷ ns) e [] is h = absurd (h)
one_found more n (m ∷ ns) e (f ∷ es) is h = (h.0, one_found more n ns e es is h.1)

pub end_key_is : (own foreign : ℕ) (e : Entry) → e.own ≡ own → e.foreign ≡ foreign → end_key e ≡ key_of own foreign
end_key_is own foreign e first second = ap (λ (n : ℕ). key_of n e.foreign) first ∙ ap (λ (n : ℕ). key_of own n) second

pub added : (old new : Index) (own foreign : ℕ) (e : Entry) (es : List Entry) → number_in old (key_of own foreign) ≡ None
    → ((q : ℕ) → is_eq (nat_cmp (key_of own foreign) q) ≡ false → number_in new q ≡ number_in old q) → number_in new (key_of own foreign) ≡ Some old.next
    → new.numbers.items ≡ old.numbers.items ++ old.next ∷ [] → new.next ≡ suc old.next → e.own ≡ own → e.foreign ≡ foreign → AreIndexed old es → AreIndexed new (es ++ e ∷ [])
added old new own foreign e es none rest is numbers next first second h = record {
  ascending = subst (λ (ns : List ℕ). Ascend 0 ns new.next) (sym numbers) (ascend_more 0 old.numbers.items old.next new.next next h.ascending);
  found = subst (λ (ns : List ℕ). AreFound (number_in new) ns (es ++ e ∷ [])) (sym numbers)
      (one_found (number_in new) old.next old.numbers.items e es (ap (number_in new) (end_key_is own foreign e first second) ∙ is)
      (kept_by (number_in old) (number_in new) (key_of own foreign) old.numbers.items es none rest h.found));
}

-- ---- an end that goes

kept_without : (found fewer : ℕ → Option ℕ) (key n low next : ℕ) (ns : List ℕ) (es : List Entry) → found key ≡ Some n → n < low → ((q : ℕ) → is_eq (nat_cmp key q) ≡ false → fewer q ≡ found q)
    → Ascend low ns next → AreFound found ns es → AreFound fewer ns es
kept_without found fewer key n low next [] [] is lt rest up h = h
kept_without found fewer key n low next [] (e ∷ es) is lt rest up h = absurd (h)
kept_without found fewer key n low next (m ∷ ns) [] is lt rest up h = absurd (h)
kept_without found fewer key n low next (m ∷ ns) (e ∷ es) is lt rest up h = (
  rest (end_key e) (apart key (end_key e) (λ same. absurd (let e : n ≡ m = same_Some n m (sym is ∙ ap found same ∙ h.0) in omega (arith, e, lt, up.0)))) ∙ h.0,
  kept_without found fewer key n (suc m) next ns es is (omega (arith, lt, up.0)) rest up.1 h.1,
)

-- the number of the end at a place is the one at that place
number_at : (found : ℕ → Option ℕ) (at d : ℕ) (f : Entry) (ns : List ℕ) (es : List Entry) → at < length es → AreFound found ns es → found (end_key (slice_index_or es at f)) ≡ Some (slice_index_or ns at d)
number_at found at d f [] [] lt h = absurd (omega (arith, lt))
number_at found at d f [] (e ∷ es) lt h = absurd (h)
number_at found at d f (n ∷ ns) [] lt h = absurd (h)
number_at found zero d f (n ∷ ns) (e ∷ es) lt h = h.0
number_at found (suc at) d f (n ∷ ns) (e ∷ es) lt h = number_at found at d f ns es (omega (arith, lt)) h.1

found_removed : (found fewer : ℕ → Option ℕ) (key low next at d : ℕ) (ns : List ℕ) (es : List Entry) → found key ≡ Some (slice_index_or ns at d) → ((q : ℕ) → is_eq (nat_cmp key q) ≡ false → fewer q ≡ found q)
    → at < length ns → Ascend low ns next → AreFound found ns es → AreFound fewer (remove ns at) (remove es at)
found_removed found fewer key low next at d [] [] is rest lt up h = absurd (omega (arith, lt))
found_removed found fewer key low next at d [] (e ∷ es) is rest lt up h = absurd (h)
found_removed found fewer key low next at d (n ∷ ns) [] is rest lt up h = absurd (h)
found_removed found fewer key low next zero d (n ∷ ns) (e ∷ es) is rest lt up h = kept_without found fewer key n (suc n) next ns es is (omega arith) rest up.1 h.1
found_removed found fewer key low next (suc at) d (n ∷ ns) (e ∷ es) is rest lt up h =
    let above : suc n ≤ slice_index_or ns at d = from_low (suc n) ns next at d up.1 (omega (arith, lt)) in (
      rest (end_key e) (apart key (end_key e) (λ same. absurd (let e : slice_index_or ns at d ≡ n = same_Some (slice_index_or ns at d) n (sym is ∙ ap found same ∙ h.0) in omega (arith, e, above)))) ∙ h.0,
      found_removed found fewer key (suc n) next at d ns es is rest (omega (arith, lt)) up.1 h.1,
    )

pub removed : (old new : Index) (own foreign at : ℕ) (e : Entry) (es : List Entry) → ((q : ℕ) → is_eq (nat_cmp (key_of own foreign) q) ≡ false → number_in new q ≡ number_in old q)
    → (at < length old.numbers.items → new.numbers.items ≡ remove old.numbers.items at) → new.next ≡ old.next → at < length es → e ≡ slice_index_or es at e → e.own ≡ own → e.foreign ≡ foreign
    → AreIndexed old es → AreIndexed new (remove es at)
removed old new own foreign at e es rest numbers next lt read first second h =
    let same : length old.numbers.items ≡ length es = same_length (number_in old) old.numbers.items es h.found in
    let there : at < length old.numbers.items = omega (arith, lt, same) in
    let is : number_in old (key_of own foreign) ≡ Some (slice_index_or old.numbers.items at 0) =
    ap (number_in old) (sym (end_key_is own foreign e first second)) ∙ ap (λ (x : Entry). number_in old (end_key x)) read ∙ number_at (number_in old) at 0 e old.numbers.items es lt h.found in
    record {
      ascending = subst (λ (ns : List ℕ). Ascend 0 ns new.next) (sym (numbers there)) (rw next (ascend_removed 0 old.numbers.items old.next at h.ascending));
      found = subst (λ (ns : List ℕ). AreFound (number_in new) ns (remove es at)) (sym (numbers there)) (found_removed (number_in old) (number_in new) (key_of own foreign) 0 old.next at 0 old.numbers.items es is rest there h.ascending h.found);
    }

-- ---- ends whose sockets stay

-- a change leaves the sockets
abbrev pub KeepsKey : (Entry → Entry) → Type 0
KeepsKey change = (e : Entry) → end_key (change e) ≡ end_key e

found_set : (found : ℕ → Option ℕ) (at : ℕ) (e y : Entry) (ns : List ℕ) (es : List Entry) → slice_index_or es at e ≡ e → end_key y ≡ end_key e → AreFound found ns es → AreFound found ns (slice_set es at y)
found_set found at e y [] (f ∷ es) read same h = absurd (h)
found_set found at e y (n ∷ ns) [] read same h = absurd (h)
found_set found zero e y [] [] read same h = h
found_set found (suc at) e y [] [] read same h = h
found_set found zero e y (n ∷ ns) (f ∷ es) read same h = (ap found (same ∙ ap end_key (sym read)) ∙ h.0, h.1)
found_set found (suc at) e y (n ∷ ns) (f ∷ es) read same h = (h.0, found_set found at e y ns es read same h.1)

order_set : (low at : ℕ) (e y : Entry) (es : List Entry) → slice_index_or es at e ≡ e → end_key y ≡ end_key e → AscendFrom low es → AscendFrom low (slice_set es at y)
order_set low zero e y [] read same h = h
order_set low (suc at) e y [] read same h = h
order_set low zero e y (f ∷ es) read same h =
    let key : end_key y ≡ end_key f = same ∙ ap end_key (sym read) in
    rw key h
order_set low (suc at) e y (f ∷ es) read same h = (h.0, order_set (suc (end_key f)) at e y es read same h.1)

pub kept_set : (index : Places) (at : ℕ) (e y : Entry) (es : List Entry) → slice_index_or es at e ≡ e → end_key y ≡ end_key e → AreKept index es → AreKept index (slice_set es at y)
kept_set places.Unknown at e y es read same h = tt
kept_set places.InOrder at e y es read same h = order_set 0 at e y es read same h
kept_set (places.Indexed x) at e y es read same h = record { ascending = h.ascending; found = found_set (number_in x.value) at e y _ es read same h.found }

found_by : (found : ℕ → Option ℕ) (test : Entry → Bool) (change : Entry → Entry) (n : ℕ) (ns : List ℕ) (e : Entry) (es : List Entry) → KeepsKey change → AreFound found ns (changed_first test change es) → (b : Bool) → test e ≡ b
    → AreFound found (n ∷ ns) (e ∷ es) → AreFound found (n ∷ ns) (changed_first test change (e ∷ es))
found_by found test change n ns e es keeps rest true is h = rw is (ap found (keeps e) ∙ h.0, h.1)
found_by found test change n ns e es keeps rest false is h = rw is (h.0, rest)

found_changed : (found : ℕ → Option ℕ) (test : Entry → Bool) (change : Entry → Entry) (ns : List ℕ) (es : List Entry) → KeepsKey change → AreFound found ns es → AreFound found ns (changed_first test change es)
found_changed found test change [] [] keeps h = h
found_changed found test change [] (e ∷ es) keeps h = absurd (h)
found_changed found test change (n ∷ ns) [] keeps h = absurd (h)
found_changed found test change (n ∷ ns) (e ∷ es) keeps h = found_by found test change n ns e es keeps (found_changed found test change ns es keeps h.1) (test e) refl h

order_by : (low : ℕ) (test : Entry → Bool) (change : Entry → Entry) (e : Entry) (es : List Entry) → KeepsKey change → AscendFrom (suc (end_key e)) (changed_first test change es) → (b : Bool) → test e ≡ b
    → AscendFrom low (e ∷ es) → AscendFrom low (changed_first test change (e ∷ es))
order_by low test change e es keeps rest true is h = rw is (rw (keeps e) h)
order_by low test change e es keeps rest false is h = rw is (h.0, rest)

order_changed : (low : ℕ) (test : Entry → Bool) (change : Entry → Entry) (es : List Entry) → KeepsKey change → AscendFrom low es → AscendFrom low (changed_first test change es)
order_changed low test change [] keeps h = h
order_changed low test change (e ∷ es) keeps h = order_by low test change e es keeps (order_changed (suc (end_key e)) test change es keeps h.1) (test e) refl h

pub kept_changed : (index : Places) (test : Entry → Bool) (change : Entry → Entry) (es : List Entry) → KeepsKey change → AreKept index es → AreKept index (changed_first test change es)
kept_changed places.Unknown test change es keeps h = tt
kept_changed places.InOrder test change es keeps h = order_changed 0 test change es keeps h
kept_changed (places.Indexed x) test change es keeps h = record { ascending = h.ascending; found = found_changed (number_in x.value) test change _ es keeps h.found }

found_mapped : (found : ℕ → Option ℕ) (change : Entry → Entry) (ns : List ℕ) (es : List Entry) → KeepsKey change → AreFound found ns es → AreFound found ns (map change es)
found_mapped found change [] [] keeps h = h
found_mapped found change [] (e ∷ es) keeps h = absurd (h)
found_mapped found change (n ∷ ns) [] keeps h = absurd (h)
found_mapped found change (n ∷ ns) (e ∷ es) keeps h = (ap found (keeps e) ∙ h.0, found_mapped found change ns es keeps h.1)

order_mapped : (low : ℕ) (change : Entry → Entry) (es : List Entry) → KeepsKey change → AscendFrom low es → AscendFrom low (map change es)
order_mapped low change [] keeps h = h
order_mapped low change (e ∷ es) keeps h =
    let rest : AscendFrom (suc (end_key e)) (map change es) = order_mapped (suc (end_key e)) change es keeps h.1 in
    rw (keeps e) (h.0, rest)

pub kept_mapped : (index : Places) (change : Entry → Entry) (es : List Entry) → KeepsKey change → AreKept index es → AreKept index (map change es)
kept_mapped places.Unknown change es keeps h = tt
kept_mapped places.InOrder change es keeps h = order_mapped 0 change es keeps h
kept_mapped (places.Indexed x) change es keeps h = record { ascending = h.ascending; found = found_mapped (number_in x.value) change _ es keeps h.found }
