-- What is known of contacts while lives are gone through, and the first life whose fate isn't left to it.
use Rattle.book_judge.proofs.Common.{length-reverse, false≢true, ltb-false, ltb-true, get-empty, Crossing, course, stage, Asking, Going, Over, Stage, Course, IsBeside, Fate, Life, Key, key_cmp, same_key, after, begun_by, begun_of, deeds_in, opening, pace_of, suits_after, Said}
use Rattle.std.proofs.Common.{◌≡◌, inl, inr, ℕ, ◌+◌, ◌<◌, ◌≤◌, Bool, true, false, not, ◌&&◌, if◌then◌else◌, List, [], take, length, reverse, Option, Some, refl, ap, arith, sym, subst, ◌∙◌, None, nat_lt}
use Rattle.book_judge.specs.Fates.{AreSuited, is_begun, Outlasts, UnsuitedAt, cut_at, over_at, was_contacted}
use Rattle.std.specs.FinMap as map
use Rattle.promise.specs.declared.life.Fate.TheVariants as fate
use Rattle.book_judge.specs.Inside.Begins.{key}
use Rattle.book_judge.specs.Inside.Contacts.{AreNoted, Bounds, IsEnd, agrees, ends_key, is_apart, is_reset, kept_end, noted, said_after, said_at, said_begun, said_in}
use Rattle.book_judge.proofs.Ends.Keys.{get_set_key, same_key-refl, same_key-true}
use Rattle.book_judge.proofs.Ends.Reached.{all_crossings}
use Rattle.book_judge.proofs.Ends.Suited.{EachSuits, IsAt, at_here, at_last, at_older, each_fails, each_more}
use Rattle.book_judge.proofs.Ends.Unclosed.{cut_is}

-- ---- what is said of a life

said_is : (x : Life) (log : List Crossing) (f : Fate)
    → said_after (length log) (deeds_in log) x (Some f) ≡ said_in log x f
said_is x log f =
    ap (λ (n : ℕ). said_begun (length log) n (begun_of (pace_of (after x (deeds_in log) opening))) (Some f))
    (cut_is (length log) x log)
    ∙ ap (λ (k : Course). said_begun (length log) (cut_at log x) (begun_of (pace_of k)) (Some f)) (all_crossings x log)

pub said_turned : (log : List Crossing) (x : Life) (o : Option Fate) (said : Option Said)
    → said ≡ said_after (length log) (deeds_in (reverse log)) x o
    → said_after (length (reverse log)) (deeds_in (reverse log)) x o ≡ said
said_turned log x o said e =
    ap (λ (n : ℕ). said_after n (deeds_in (reverse log)) x o) (length-reverse log) ∙ sym e

abbrev said_of : ℕ → ℕ → Stage → Fate → Said
said_of all cut s f = record { reset = is_reset f; cut = cut; end = over_at all s }

-- it has begun, and a contact has reset it if it is `reset`
record IsSaid (all cut : ℕ) (s : Stage) (f : Fate) (said : Said) : Type 0 where
  begun : is_begun s ≡ true
  contact : is_reset f ≡ true → was_contacted s ≡ true
  is : said ≡ said_of all cut s f

said_at_back : (all cut : ℕ) (s : Stage) (f : Fate) (said : Said) → is_begun s ≡ true
    → said_at all cut s f ≡ Some said → IsSaid all cut s f said
said_at_back all cut s f said b e = by (is_reset f) (was_contacted s) refl refl e where
  by : (v w : Bool) → is_reset f ≡ v → was_contacted s ≡ w
      → (if v && not w then None else Some (said_of all cut s f)) ≡ Some said → IsSaid all cut s f said
  by true true g h i = record { begun = b; contact = λ r. h; is = (let t : said ≡ said_of all cut s f = cc in t) }
  by true false g h i = absurd (cc)
  by false w g h i = record {
    begun = b;
    contact = λ r. absurd (false≢true (sym g ∙ r));
    is = (let t : said ≡ said_of all cut s f = cc in t);
  }

said_back : (all cut : ℕ) (early : Bool) (s : Stage) (f : Fate) (said : Said)
    → said_begun all cut (begun_by early s) (Some f) ≡ Some said → IsSaid all cut s f said
said_back all cut early (Asking o p) f said e = absurd (cc)
said_back all cut early (Going o p) f said e = said_at_back all cut (Going o p) f said refl e
said_back all cut early (Over c n) f said e = said_at_back all cut (Over c n) f said refl e

said_at_forth : (all cut : ℕ) (s : Stage) (f : Fate) → (is_reset f ≡ true → was_contacted s ≡ true)
    → said_at all cut s f ≡ Some (said_of all cut s f)
said_at_forth all cut s f h = by (is_reset f) (was_contacted s) h where
  by : (v w : Bool) → (v ≡ true → w ≡ true)
      → (if v && not w then None else Some (said_of all cut s f)) ≡ Some (said_of all cut s f)
  by true true g = refl
  by true false g = absurd (false≢true (g refl))
  by false w g = refl

said_forth : (all cut : ℕ) (early : Bool) (s : Stage) (f : Fate) → is_begun s ≡ true
    → (is_reset f ≡ true → was_contacted s ≡ true)
    → said_begun all cut (begun_by early s) (Some f) ≡ Some (said_of all cut s f)
said_forth all cut early (Asking o p) f b h = absurd (false≢true b)
said_forth all cut early (Going o p) f b h = said_at_forth all cut (Going o p) f h
said_forth all cut early (Over c n) f b h = said_at_forth all cut (Over c n) f h

contacted_begun : (s : Stage) → was_contacted s ≡ true → is_begun s ≡ true
contacted_begun (Asking o p) e = absurd (false≢true e)
contacted_begun (Going o p) e = refl
contacted_begun (Over c n) e = refl

reset_true : (f : Fate) → is_reset f ≡ true → f ≡ fate.Reset
reset_true fate.Open e = absurd (false≢true e)
reset_true fate.Closing e = absurd (false≢true e)
reset_true fate.Closed e = absurd (false≢true e)
reset_true fate.Ended e = absurd (false≢true e)
reset_true fate.Reset e = refl
reset_true fate.Stopped e = absurd (false≢true e)

-- ---- what is kept

kept_new : (r : Bool) (o : Option ℕ) (end : ℕ) → Bounds r (kept_end r o end) end
kept_new true None end = omega arith
kept_new false None end = omega arith
kept_new true (Some n) end = by (nat_lt end n) refl where
  by : (b : Bool) → nat_lt end n ≡ b → (if b then end else n) ≤ end
  by true e = omega arith
  by false e = ltb-false end n e
kept_new false (Some n) end = by (nat_lt n end) refl where
  by : (b : Bool) → nat_lt n end ≡ b → end ≤ (if b then end else n)
  by true e = omega arith
  by false e = ltb-false n end e

kept_old : (r : Bool) (n end old : ℕ) → Bounds r n old → Bounds r (kept_end r (Some n) end) old
kept_old true n end old h = by (nat_lt end n) refl where
  by : (b : Bool) → nat_lt end n ≡ b → (if b then end else n) ≤ old
  by true e = (let less = ltb-true end n e in let bound : n ≤ old = h in omega (arith, less, bound))
  by false e = h
kept_old false n end old h = by (nat_lt n end) refl where
  by : (b : Bool) → nat_lt n end ≡ b → old ≤ (if b then end else n)
  by true e = (let less = ltb-true n end e in let bound : old ≤ n = h in omega (arith, less, bound))
  by false e = h

-- it is the new one, or the one that was known
kept_one : (r : Bool) (o : Option ℕ) (end : ℕ) (P : ℕ → Type 0) → P end → ((n : ℕ) → o ≡ Some n → P n)
    → P (kept_end r o end)
kept_one r None end P new old = new
kept_one true (Some n) end P new old = by (nat_lt end n) where
  by : (b : Bool) → P (if b then end else n)
  by true = new
  by false = old n refl
kept_one false (Some n) end P new old = by (nat_lt n end) where
  by : (b : Bool) → P (if b then end else n)
  by true = new
  by false = old n refl

-- whether it is apart from what is known of the others
apart_last : (o : Option ℕ) (end last : ℕ) → is_apart true o end ≡ true → o ≡ Some last → last < end
apart_last None end last e is = absurd (cc)
apart_last (Some n) end last e is = let same : n ≡ last = cc in subst (λ (k : ℕ). k < end) same (ltb-true n end e)

apart_first : (o : Option ℕ) (end first : ℕ) → is_apart false o end ≡ true → o ≡ Some first → end < first
apart_first None end first e is = absurd (cc)
apart_first (Some n) end first e is = let same : n ≡ first = cc in subst (λ (k : ℕ). end < k) same (ltb-true end n e)

record NotApart (r : Bool) (o : Option ℕ) (end : ℕ) : Type 0 where
  known : ℕ
  is : o ≡ Some known
  bounds : Bounds (not r) known end

not_apart : (r : Bool) (o : Option ℕ) (end : ℕ) → is_apart r o end ≡ false → NotApart r o end
not_apart r None end e = absurd (false≢true (sym e))
not_apart true (Some n) end e = record { known = n; is = refl; bounds = ltb-false n end e }
not_apart false (Some n) end e = record { known = n; is = refl; bounds = ltb-false end n e }

-- ---- of the first lives

-- each of the first lives suits what crossed, and what is known of contacts is what they say
abbrev pub AreSeen : List Crossing → List Life → List Fate → map.FinMap key_cmp ℕ → Type 0
AreSeen log lives fates ends = EachSuits log lives fates × AreNoted log lives fates ends

pub seen_none : (log : List Crossing) (fates : List Fate) (ends : map.FinMap key_cmp ℕ) → ends ≡ map.empty
    → AreSeen log [] fates ends
seen_none log fates ends e = (
  λ x f b. absurd b,
  record {
    all = λ k end it. absurd it.beside;
    some = λ k known is. absurd (none k known is);
    apart = λ place x first last is other. absurd (none (ends_key x true place) first is);
  },
) where
  none : (k : Key) (n : ℕ) → map.get ends k ≡ Some n → ⊥
  none k n is =
      let no : None ≡ Some n =
      sym (get-empty key_cmp k) ∙ ap (λ (m : map.FinMap key_cmp ℕ). map.get m k) (sym e) ∙ is in
      cc

module _ (log : List Crossing) (lives : List Life) (fates : List Fate) where
  -- how the life is found
  end_of : (x : Life) (f : Fate) → IsBeside x f lives fates → is_begun (stage [] x log) ≡ true
      → (is_reset f ≡ true → was_contacted (stage [] x log) ≡ true) → (k : Key)
      → ends_key x (is_reset f) (cut_at log x) ≡ k → IsEnd log lives fates k (over_at (length log) (stage [] x log))
  end_of x f b begun contact k found = record {
    life = x;
    fate_of = f;
    said = said_of (length log) (cut_at log x) (stage [] x log) f;
    beside = b;
    is = said_forth (length log) (cut_at log x) (course [] x log).early (stage [] x log) f begun contact;
    found = found;
    at = refl;
  }

  noted_contact : (ends : map.FinMap key_cmp ℕ) → AreNoted log lives fates ends → (x y : Life) (f : Fate)
      → IsBeside x fate.Reset lives fates → IsBeside y f lives fates → Outlasts log x y → f ≡ fate.Reset
  noted_contact ends are x y f b c both = by (is_reset f) refl where
    by : (v : Bool) → is_reset f ≡ v → f ≡ fate.Reset
    by true e = reset_true f e
    by false e =
        let found : ends_key y (is_reset f) (cut_at log y) ≡ ends_key x false (cut_at log x) =
        (λ i. key (sym both.stretch i) (sym both.host i) (sym both.peer i) (e i) 0 0) in
        let one =
        are.all (ends_key x true (cut_at log x)) (over_at (length log) (stage [] x log))
        (end_of x fate.Reset b (contacted_begun (stage [] x log) both.contact) (λ r. both.contact)
        (ends_key x true (cut_at log x)) refl) in
        let other =
        are.all (ends_key x false (cut_at log x)) (over_at (length log) (stage [] y log))
        (end_of y f c both.begun (λ r. absurd (false≢true (sym e ∙ r))) (ends_key x false (cut_at log x)) found) in
        let less : other.0 < one.0 = are.apart (cut_at log x) x one.0 other.0 one.1 other.1 in
        let first : one.0 ≤ over_at (length log) (stage [] x log) = one.2 in
        let last : over_at (length log) (stage [] y log) ≤ other.0 = other.2 in
        let later : over_at (length log) (stage [] x log) ≤ over_at (length log) (stage [] y log) = both.later in
        absurd (omega (arith, less, first, last, later))

pub seen_suit : (log : List Crossing) (lives : List Life) (fates : List Fate) (ends : map.FinMap key_cmp ℕ)
    → AreSeen log lives fates ends → AreSuited log lives fates
seen_suit log lives fates ends seen =
    record { each = seen.0; contact = noted_contact log lives fates ends seen.1 }

-- ---- one life more

module _ (log : List Crossing) (lives : List Life) (fates : List Fate) (place : ℕ) (x : Life) (o : Option Fate)
    (h : IsAt lives fates place x o) where
  abbrev said : Option Said
  said = said_after (length log) (deeds_in log) x o

  abbrev first : List Life
  first = take place lives

  abbrev more : List Life
  more = take (place + 1) lives

  older : (k : Key) (end : ℕ) → IsEnd log first fates k end → IsEnd log more fates k end
  older k end it = record {
    life = it.life;
    fate_of = it.fate_of;
    said = it.said;
    beside = at_older lives fates place x o h it.life it.fate_of it.beside;
    is = it.is;
    found = it.found;
    at = it.at;
  }

  -- what is said of the new one, by its fate
  record IsNew (s : Said) : Type 0 where
    fate_of : Fate
    has : o ≡ Some fate_of
    is : said_in log x fate_of ≡ Some s

  is_new : (s : Said) → said ≡ Some s → IsNew s
  is_new s e = by o refl where
    by : (p : Option Fate) → o ≡ p → IsNew s
    by None is = absurd
        (let none : None ≡ Some s = ap (said_after (length log) (deeds_in log) x) (sym is) ∙ e in cc)
    by (Some f) is = record {
      fate_of = f;
      has = is;
      is = sym (said_is x log f) ∙ ap (said_after (length log) (deeds_in log) x) (sym is) ∙ e;
    }

  module _ (ends : map.FinMap key_cmp ℕ) (are : AreNoted log first fates ends) where
    module _ (s : Said) (e : said ≡ Some s) where
      abbrev at : Key
      at = ends_key x s.reset s.cut

      abbrev kept : ℕ
      kept = kept_end s.reset (map.get ends at) s.end

      abbrev next : map.FinMap key_cmp ℕ
      next = map.insert ends at kept

      new : IsEnd log more fates at s.end
      new = let it = is_new s e in record {
        life = x;
        fate_of = it.fate_of;
        said = s;
        beside = at_here lives fates place x o h it.fate_of it.has;
        is = it.is;
        found = refl;
        at = refl;
      }

      get_here : map.get next at ≡ Some kept
      get_here =
          get_set_key ends at kept at
          ∙ ap (λ (b : Bool). if b then Some kept else map.get ends at) (same_key-refl at)

      abbrev IsKnown : Key → ℕ → Type 0
      IsKnown k end = (known : ℕ) × (map.get next k ≡ Some known) × Bounds k.comes known end

      known_new : (k : Key) (end : ℕ) → at ≡ k → s.end ≡ end → IsKnown k end
      known_new k end same there =
          subst (λ (q : Key). IsKnown q end) same
          (subst (IsKnown at) there (kept, get_here, kept_new s.reset (map.get ends at) s.end))

      known_old : (k : Key) (end known : ℕ) → map.get ends k ≡ Some known → Bounds k.comes known end → IsKnown k end
      known_old k end known is bounds = by (same_key k at) refl (get_set_key ends at kept k) where
        by : (b : Bool) → same_key k at ≡ b → map.get next k ≡ (if b then Some kept else map.get ends k)
            → IsKnown k end
        by true g there =
            let same : k ≡ at = same_key-true k at g in
            let was : map.get ends at ≡ Some known = ap (λ (q : Key). map.get ends q) (sym same) ∙ is in
            let old : Bounds s.reset known end = ap_comes same bounds in (
              kept,
              there,
              ap_back same
                  (subst (λ (w : Option ℕ). Bounds s.reset (kept_end s.reset w s.end) end) (sym was)
                  (kept_old s.reset known s.end end old)),
            ) where
              ap_comes : k ≡ at → Bounds k.comes known end → Bounds s.reset known end
              ap_comes p b = subst (λ (q : Key). Bounds q.comes known end) p b

              ap_back : k ≡ at → Bounds s.reset kept end → Bounds k.comes kept end
              ap_back p b = subst (λ (q : Key). Bounds q.comes kept end) (sym p) b
        by false g there = (known, there ∙ is, bounds)

      all_next : (k : Key) (end : ℕ) → IsEnd log more fates k end → IsKnown k end
      all_next k end it = elim (at_last lives fates place x o h it.life it.fate_of it.beside) [
        | inl same ↦ (let said_it : Some s ≡ Some it.said =
            sym e ∙ ap (said_after (length log) (deeds_in log) x) same.1 ∙ said_is x log it.fate_of
            ∙ ap (λ (y : Life). said_in log y it.fate_of) (sym same.0) ∙ it.is in
            let one : s ≡ it.said = cc in
            known_new k end
            ((λ i. ends_key (sym same.0 i) (one i).reset (one i).cut) ∙ it.found)
            (ap (λ (t : Said). t.end) one ∙ it.at))
        | inr b ↦ (let old =
            are.all k end (record {
              life = it.life;
              fate_of = it.fate_of;
              said = it.said;
              beside = b;
              is = it.is;
              found = it.found;
              at = it.at;
            }) in
            known_old k end old.0 old.1 old.2)
      ]

      some_next : (k : Key) (known : ℕ) → map.get next k ≡ Some known → IsEnd log more fates k known
      some_next k known is = by (same_key k at) refl (sym (get_set_key ends at kept k) ∙ is) where
        by : (b : Bool) → same_key k at ≡ b → (if b then Some kept else map.get ends k) ≡ Some known
            → IsEnd log more fates k known
        by true g there =
            let same : kept ≡ known = cc in
            subst (λ (q : Key). IsEnd log more fates q known) (sym (same_key-true k at g))
            (subst (IsEnd log more fates at) same
            (kept_one s.reset (map.get ends at) s.end (IsEnd log more fates at) new
            (λ n was. older at n (are.some at n was))))
        by false g there = older k known (are.some k known there)

      -- those that a contact reset end after the others, where the new one does
      module _ (agree : is_apart s.reset (map.get ends (ends_key x (not s.reset) s.cut)) s.end ≡ true) where
        other_way : (z : Life) (p : ℕ) (v : Bool) → ends_key z v p ≡ at → (w : Bool) → v ≡ s.reset → w ≡ not s.reset
            → ends_key z w p ≡ ends_key x (not s.reset) s.cut
        other_way z p v same w is flip =
            (λ i. key (same i).place (same i).host (same i).peer (flip i) 0 0)

        unlike : (z : Life) (p : ℕ) (v : Bool) → v ≡ not s.reset → same_key (ends_key z v p) at ≡ false
        unlike z p v flip = by s.reset v flip where
          by : (r w : Bool) → w ≡ not r → same_key (ends_key z w p) (ends_key x r s.cut) ≡ false
          by true true q = absurd (false≢true (sym q))
          by true false q = refl
          by false true q = refl
          by false false q = absurd (false≢true q)

        -- of the other way nothing is new
        get_other : (z : Life) (p : ℕ) (v : Bool) (n : ℕ) → v ≡ not s.reset
            → map.get next (ends_key z v p) ≡ Some n → map.get ends (ends_key z v p) ≡ Some n
        get_other z p v n flip is =
            sym (get_set_key ends at kept (ends_key z v p)
            ∙ ap (λ (b : Bool). if b then Some kept else map.get ends (ends_key z v p)) (unlike z p v flip)) ∙ is

        apart_next : (p : ℕ) (z : Life) (first last : ℕ) → map.get next (ends_key z true p) ≡ Some first
            → map.get next (ends_key z false p) ≡ Some last → last < first
        apart_next p z first last is other = by s.reset refl where
          by : (r : Bool) → s.reset ≡ r → last < first
          by true r = here (same_key (ends_key z true p) at) refl
              (sym (get_set_key ends at kept (ends_key z true p)) ∙ is) where
                was : map.get ends (ends_key z false p) ≡ Some last
                was = get_other z p false last (ap not (sym r)) other

                here : (b : Bool) → same_key (ends_key z true p) at ≡ b
                    → (if b then Some kept else map.get ends (ends_key z true p)) ≡ Some first → last < first
                here true g there =
                    let same : ends_key z true p ≡ at = same_key-true (ends_key z true p) at g in
                    let turned : ends_key z false p ≡ ends_key x (not s.reset) s.cut =
                    other_way z p true same false (sym r) (ap not (sym r)) in
                    let known : map.get ends (ends_key x (not s.reset) s.cut) ≡ Some last =
                    ap (λ (q : Key). map.get ends q) (sym turned) ∙ was in
                    let is_kept : kept ≡ first = cc in
                    subst (λ (n : ℕ). last < n) is_kept
                    (kept_one s.reset (map.get ends at) s.end (λ n. last < n)
                    (apart_last (map.get ends (ends_key x (not s.reset) s.cut)) s.end last
                    (ap (λ (v : Bool). is_apart v (map.get ends (ends_key x (not s.reset) s.cut)) s.end) (sym r) ∙ agree)
                    known)
                    (λ n old. are.apart p z n last (ap (λ (q : Key). map.get ends q) same ∙ old) was))
                here false g there = are.apart p z first last there was
          by false r = here (same_key (ends_key z false p) at) refl
              (sym (get_set_key ends at kept (ends_key z false p)) ∙ other) where
                was : map.get ends (ends_key z true p) ≡ Some first
                was = get_other z p true first (ap not (sym r)) is

                here : (b : Bool) → same_key (ends_key z false p) at ≡ b
                    → (if b then Some kept else map.get ends (ends_key z false p)) ≡ Some last → last < first
                here true g there =
                    let same : ends_key z false p ≡ at = same_key-true (ends_key z false p) at g in
                    let turned : ends_key z true p ≡ ends_key x (not s.reset) s.cut =
                    other_way z p false same true (sym r) (ap not (sym r)) in
                    let known : map.get ends (ends_key x (not s.reset) s.cut) ≡ Some first =
                    ap (λ (q : Key). map.get ends q) (sym turned) ∙ was in
                    let is_kept : kept ≡ last = cc in
                    subst (λ (n : ℕ). n < first) is_kept
                    (kept_one s.reset (map.get ends at) s.end (λ n. n < first)
                    (apart_first (map.get ends (ends_key x (not s.reset) s.cut)) s.end first
                    (ap (λ (v : Bool). is_apart v (map.get ends (ends_key x (not s.reset) s.cut)) s.end) (sym r) ∙ agree)
                    known)
                    (λ n old. are.apart p z first n was (ap (λ (q : Key). map.get ends q) same ∙ old)))
                here false g there = are.apart p z first last was there

      -- else it disagrees with an earlier one: a contact reset one, and the other isn't `reset`
      outlasts : (y z : Life) (f g : Fate) (t u : Said) → said_in log y f ≡ Some t → said_in log z g ≡ Some u
          → is_reset f ≡ true → y.host ≡ z.host → y.peer ≡ z.peer → t.cut ≡ u.cut → t.end ≤ u.end → Outlasts log y z
      outlasts y z f g t u is other reset host peer cuts later =
          let a = said_back (length log) (cut_at log y) (course [] y log).early (stage [] y log) f t is in
          let b = said_back (length log) (cut_at log z) (course [] z log).early (stage [] z log) g u other in
          record {
            host = host;
            peer = peer;
            stretch = sym (ap (λ (r : Said). r.cut) a.is) ∙ cuts ∙ ap (λ (r : Said). r.cut) b.is;
            contact = a.contact reset;
            begun = b.begun;
            later =
                subst (λ (n : ℕ). n ≤ over_at (length log) (stage [] z log)) (ap (λ (r : Said). r.end) a.is)
                (subst (λ (n : ℕ). t.end ≤ n) (ap (λ (r : Said). r.end) b.is) later);
          }

      reset_is : (y : Life) (f : Fate) (t : Said) → said_in log y f ≡ Some t → is_reset f ≡ t.reset
      reset_is y f t is =
          ap (λ (r : Said). r.reset)
          (sym (said_back (length log) (cut_at log y) (course [] y log).early (stage [] y log) f t is).is)

      fails : is_apart s.reset (map.get ends (ends_key x (not s.reset) s.cut)) s.end ≡ false
          → AreSuited log more fates → ⊥
      fails agree all = by s.reset refl no.bounds where
        no : NotApart s.reset (map.get ends (ends_key x (not s.reset) s.cut)) s.end
        no = not_apart s.reset (map.get ends (ends_key x (not s.reset) s.cut)) s.end agree

        old : IsEnd log first fates (ends_key x (not s.reset) s.cut) no.known
        old = are.some (ends_key x (not s.reset) s.cut) no.known no.is

        it : IsNew s
        it = is_new s e

        mine : IsBeside x it.fate_of more fates
        mine = at_here lives fates place x o h it.fate_of it.has

        other : IsBeside old.life old.fate_of more fates
        other = at_older lives fates place x o h old.life old.fate_of old.beside

        host : old.life.host ≡ x.host
        host = ap (λ (k : Key). k.host) old.found

        peer : old.life.peer ≡ x.peer
        peer = ap (λ (k : Key). k.peer) old.found

        cuts : old.said.cut ≡ s.cut
        cuts = ap (λ (k : Key). k.place) old.found

        his : is_reset old.fate_of ≡ not s.reset
        his = reset_is old.life old.fate_of old.said old.is ∙ ap (λ (k : Key). k.comes) old.found

        own : is_reset it.fate_of ≡ s.reset
        own = reset_is x it.fate_of s it.is

        by : (r : Bool) → s.reset ≡ r → Bounds (not r) no.known s.end → ⊥
        by true r bounds =
            let reset : it.fate_of ≡ fate.Reset = reset_true it.fate_of (own ∙ r) in
            let end : old.said.end ≡ no.known = old.at in
            let most : s.end ≤ no.known = bounds in
            let later : s.end ≤ old.said.end = omega (arith, most, end) in
            let so : old.fate_of ≡ fate.Reset =
            all.contact x old.life old.fate_of (subst (λ (f : Fate). IsBeside x f more fates) reset mine) other
            (outlasts x old.life it.fate_of old.fate_of s old.said it.is old.is (own ∙ r) (sym host) (sym peer)
            (sym cuts) later) in
            false≢true (sym (his ∙ ap not r) ∙ ap is_reset so)
        by false r bounds =
            let reset : old.fate_of ≡ fate.Reset = reset_true old.fate_of (his ∙ ap not r) in
            let end : old.said.end ≡ no.known = old.at in
            let least : no.known ≤ s.end = bounds in
            let later : old.said.end ≤ s.end = omega (arith, least, end) in
            let so : it.fate_of ≡ fate.Reset =
            all.contact old.life x it.fate_of
            (subst (λ (f : Fate). IsBeside old.life f more fates) reset other) mine
            (outlasts old.life x old.fate_of it.fate_of old.said s old.is it.is (his ∙ ap not r) host peer cuts later) in
            false≢true (sym (own ∙ r) ∙ ap is_reset so)

    -- of one of which nothing is said, nothing is known
    silent : said ≡ None → (k : Key) (end : ℕ) → IsEnd log more fates k end → IsEnd log first fates k end
    silent none k end it = elim (at_last lives fates place x o h it.life it.fate_of it.beside) [
      | inl same ↦ (let no : None ≡ Some it.said =
          sym none ∙ ap (said_after (length log) (deeds_in log) x) same.1 ∙ said_is x log it.fate_of
          ∙ ap (λ (y : Life). said_in log y it.fate_of) (sym same.0) ∙ it.is in
          absurd (cc))
      | inr b ↦ record {
        life = it.life;
        fate_of = it.fate_of;
        said = it.said;
        beside = b;
        is = it.is;
        found = it.found;
        at = it.at;
      }
    ]

    noted_next : agrees ends x said ≡ true → AreNoted log more fates (noted x said ends)
    noted_next agree = by said refl where
      by : (w : Option Said) → said ≡ w → AreNoted log more fates (noted x w ends)
      by None e = record {
        all = λ k end it. are.all k end (silent e k end it);
        some = λ k known is. older k known (are.some k known is);
        apart = are.apart;
      }
      by (Some s) e = record {
        all = all_next s e;
        some = some_next s e;
        apart = apart_next s e (ap (agrees ends x) (sym e) ∙ agree);
      }

    noted_fails : agrees ends x said ≡ false → AreSuited log more fates → ⊥
    noted_fails agree = by said refl where
      by : (w : Option Said) → said ≡ w → AreSuited log more fates → ⊥
      by None e = absurd (false≢true (sym agree ∙ ap (agrees ends x) e))
      by (Some s) e = fails s e (ap (agrees ends x) (sym e) ∙ agree)

  pub seen_more : (ends later : map.FinMap key_cmp ℕ) → suits_after (deeds_in log) x o ≡ true
      → agrees ends x said ≡ true → later ≡ noted x said ends → AreSeen log first fates ends
      → AreSeen log more fates later
  seen_more ends later s agree e seen = (
    each_more log lives fates place x o h s seen.0,
    subst (λ (m : map.FinMap key_cmp ℕ). AreNoted log more fates m) (sym e) (noted_next ends seen.1 agree),
  )

  pub unsuited_by : (ends : map.FinMap key_cmp ℕ) → suits_after (deeds_in log) x o ≡ false
      → AreSeen log first fates ends → UnsuitedAt log lives fates place
  unsuited_by ends s seen =
      (seen_suit log first fates ends seen, λ all. each_fails log lives fates place x o h s all.each)

  pub disagrees : (ends : map.FinMap key_cmp ℕ) → agrees ends x said ≡ false → AreSeen log first fates ends
      → UnsuitedAt log lives fates place
  disagrees ends agree seen = (seen_suit log first fates ends seen, noted_fails ends seen.1 agree)
