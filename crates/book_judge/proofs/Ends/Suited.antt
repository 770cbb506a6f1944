-- Deeds of a log, and the first life whose fate they don't leave it.
use Rattle.book_judge.proofs.Common.{length-drop, length-take-le, take_all, take_more, Host, Crossing, orders_within, stage, Asking, Going, Over, Stage, Course, course, IsBeside, Fate, Life, AreSuited, suits, IsSuited, is_begun, deeds_by, deeds_in, suits_after, begun_by, begun_of, pace_of, suits_begun, Deed, and_true}
use Rattle.std.proofs.Common.{◌≡◌, ◌⊎◌, inl, inr, ℕ, zero, suc, ◌+◌, ◌-◌, ◌<◌, ◌≤◌, Bool, true, false, List, [], ◌∷◌, ◌++◌, length, drop, get_or, take, Option, Some, refl, ap, arith, subst, sym, ◌∙◌, not, ◌&&◌, None}
use Rattle.std.proofs.lemmas.Bool.{false≢true, not-true}
use Rattle.std.specs.List.{slice_get}
use Rattle.promise.specs.declared.life.Fate.TheVariants as fate
use Rattle.book_judge.proofs.Ends.Reached.{all_crossings}
use Rattle.book_judge.proofs.Crossed.Made.{more_is}

-- ---- deeds of a text

-- with what is still to be read, deeds are the same
pub record AreAdded (comes : Bool) (place : ℕ) (host peer : Host) (octets : List ℕ) (deeds whole : List Deed) : Type 0 where
  pub most : ℕ
  pub enough : length octets ≤ most
  pub same : deeds ++ deeds_by comes place host peer (orders_within most octets) ≡ whole

pub added_next : (comes : Bool) (place : ℕ) (host peer : Host) (octets rest : List ℕ) (deeds next whole : List Deed) (read : ℕ)
    → AreAdded comes place host peer octets deeds whole → 0 < length octets → 0 < read → read ≤ length octets → rest ≡
    drop read octets
    →
    ((n : ℕ) → deeds ++ deeds_by comes place host peer (orders_within (1 + n) octets) ≡ next ++ deeds_by comes place host peer (orders_within n (drop read octets)))
    → AreAdded comes place host peer rest next whole
added_next comes place host peer octets rest deeds next whole read are some reads there e one = by are.most refl where
  by : (most : ℕ) → are.most ≡ most → AreAdded comes place host peer rest next whole
  by zero m = absurd (let enough : length octets ≤ are.most = are.enough in omega (arith, enough, some, m))
  by (suc n) m =
      let more : are.most ≡ 1 + n = omega (arith, m) in
      record {
        most = n;
        enough =
            (let enough : length octets ≤ are.most = are.enough in let short : length rest ≡ length octets - read = ap
            length e ∙ length-drop read octets in omega (arith, short, enough, reads, there, m));
        same =
            ap (λ (os : List ℕ). next ++ deeds_by comes place host peer (orders_within n os)) e ∙ sym (one n)
            ∙ ap (λ (k : ℕ). deeds ++ deeds_by comes place host peer (orders_within k octets)) (sym more) ∙ are.same;
      }

-- ---- the search

-- what is beside the last life
beside_last : (lives : List Life) (x y : Life) (f : Fate) (fates : List Fate) → IsBeside x f (lives ++ y ∷ []) fates
    → ((x ≡ y) × (slice_get fates (length lives) ≡ Some f)) ⊎ IsBeside x f lives fates
beside_last [] x y f [] b = absurd b
beside_last [] x y f (g ∷ fates) b =
    elim b [ inl e ↦ inl (e.0, ap (λ (h : Fate). Some h) (sym e.1)) | inr r ↦ absurd r ]
beside_last (z ∷ lives) x y f [] b = absurd b
beside_last (z ∷ lives) x y f (g ∷ fates) b = elim b [
  | inl e ↦ inr (inl e)
  | inr r ↦ elim (beside_last lives x y f fates r) [ inl s ↦ inl s | inr t ↦ inr (inr t) ]
]

beside_there : (lives : List Life) (y : Life) (f : Fate) (fates : List Fate) → slice_get fates (length lives) ≡ Some f
    → IsBeside y f (lives ++ y ∷ []) fates
beside_there [] y f [] e = absurd (cc)
beside_there [] y f (g ∷ fates) e = inl (refl, (let s : g ≡ f = cc in sym s))
beside_there (z ∷ lives) y f [] e = absurd (cc)
beside_there (z ∷ lives) y f (g ∷ fates) e = inr (beside_there lives y f fates e)

beside_more : (lives : List Life) (x y : Life) (f : Fate) (fates : List Fate) → IsBeside x f lives fates
    → IsBeside x f (lives ++ y ∷ []) fates
beside_more [] x y f fates b = absurd b
beside_more (z ∷ lives) x y f [] b = absurd b
beside_more (z ∷ lives) x y f (g ∷ fates) b =
    elim b [ inl e ↦ inl e | inr r ↦ inr (beside_more lives x y f fates r) ]

-- the life at a place, and its fate, if it has one
pub record IsAt (lives : List Life) (fates : List Fate) (place : ℕ) (x : Life) (o : Option Fate) : Type 0 where
  pub less : place < length lives
  pub life : x ≡ get_or lives place x
  pub said : o ≡ slice_get fates place

module _ (lives : List Life) (fates : List Fate) (place : ℕ) (x : Life) (o : Option Fate)
    (h : IsAt lives fates place x o) where
  counted : length (take place lives) ≡ place
  counted = let less : place < length lives = h.less in length-take-le place lives (omega (arith, less))

  -- it is the last of those up to it
  pub at_last : (y : Life) (f : Fate) → IsBeside y f (take (place + 1) lives) fates
      → ((y ≡ x) × (o ≡ Some f)) ⊎ IsBeside y f (take place lives) fates
  at_last y f b =
      elim
      (beside_last (take place lives) y x f fates
      (subst (λ (xs : List Life). IsBeside y f xs fates) (more_is lives place x h.less h.life) b)) [
        | inl e ↦ inl (e.0, h.said ∙ ap (slice_get fates) (sym counted) ∙ e.1)
        | inr r ↦ inr r
      ]

  pub at_here : (f : Fate) → o ≡ Some f → IsBeside x f (take (place + 1) lives) fates
  at_here f e =
      subst (λ (xs : List Life). IsBeside x f xs fates) (sym (more_is lives place x h.less h.life))
      (beside_there (take place lives) x f fates (ap (slice_get fates) counted ∙ sym h.said ∙ e))

  pub at_older : (y : Life) (f : Fate) → IsBeside y f (take place lives) fates
      → IsBeside y f (take (place + 1) lives) fates
  at_older y f b =
      subst (λ (xs : List Life). IsBeside y f xs fates) (sym (more_is lives place x h.less h.life))
      (beside_more (take place lives) y x f fates b)

-- what suits a life by its stage
and_both : (a b : Bool) → not a ≡ true → b ≡ true → (not a && b) ≡ true
and_both true b e f = e
and_both false b e f = f

suited_by : (early : Bool) (s : Stage) (f : Fate) → suits_begun (begun_by early s) f ≡ true
    → (is_begun s ≡ true → early ≡ false) × (suits s f ≡ true)
suited_by early (Asking own partner) f h = (λ e. absurd (false≢true e), refl)
suited_by early (Going own partner) f h =
    let both = and_true (not early) (suits (Going own partner) f) h in (λ e. not-true early both.0, both.1)
suited_by early (Over cause place) f h =
    let both = and_true (not early) (suits (Over cause place) f) h in (λ e. not-true early both.0, both.1)

suits_back : (early : Bool) (s : Stage) (f : Fate) → (is_begun s ≡ true → early ≡ false) → suits s f ≡ true
    → suits_begun (begun_by early s) f ≡ true
suits_back early (Asking own partner) f begins fate = refl
suits_back early (Going own partner) f begins fate =
    and_both early (suits (Going own partner) f) (ap not (begins refl)) fate
suits_back early (Over cause place) f begins fate =
    and_both early (suits (Over cause place) f) (ap not (begins refl)) fate

suits_is : (x : Life) (log : List Crossing) (f : Fate)
    → suits_after (deeds_in log) x (Some f) ≡ suits_begun (begun_by (course [] x log).early (stage [] x log)) f
suits_is x log f = ap (λ (k : Course). suits_begun (begun_of (pace_of k)) f) (all_crossings x log)

one_suited : (log : List Crossing) (x : Life) (o : Option Fate) (f : Fate) → o ≡ Some f
    → suits_after (deeds_in log) x o ≡ true → IsSuited log x f
one_suited log x o f e s = record { begins = both.0; fate = both.1 } where
  both : (is_begun (stage [] x log) ≡ true → (course [] x log).early ≡ false) × (suits (stage [] x log) f ≡ true)
  both =
      suited_by (course [] x log).early (stage [] x log) f
      (sym (suits_is x log f) ∙ ap (suits_after (deeds_in log) x) (sym e) ∙ s)

-- what of fates is about each life by itself
abbrev pub EachSuits : List Crossing → List Life → List Fate → Type 0
EachSuits log lives fates = (x : Life) (f : Fate) → IsBeside x f lives fates → IsSuited log x f

pub each_more : (log : List Crossing) (lives : List Life) (fates : List Fate) (place : ℕ) (x : Life) (o : Option Fate)
    → IsAt lives fates place x o → suits_after (deeds_in log) x o ≡ true → EachSuits log (take place lives) fates
    → EachSuits log (take (place + 1) lives) fates
each_more log lives fates place x o h s all y f b = elim (at_last lives fates place x o h y f b) [
  | inl e ↦ subst (λ (z : Life). IsSuited log z f) (sym e.0) (one_suited log x o f e.1 s)
  | inr r ↦ all y f r
]

pub each_fails : (log : List Crossing) (lives : List Life) (fates : List Fate) (place : ℕ) (x : Life) (o : Option Fate)
    → IsAt lives fates place x o → suits_after (deeds_in log) x o ≡ false
    → EachSuits log (take (place + 1) lives) fates → ⊥
each_fails log lives fates place x o h s all = by o refl where
  by : (p : Option Fate) → o ≡ p → ⊥
  by None e = let both : true ≡ false = ap (suits_after (deeds_in log) x) (sym e) ∙ s in cc
  by (Some f) e =
      let one : IsSuited log x f = all x f (at_here lives fates place x o h f e) in
      let both : false ≡ true =
      sym s ∙ ap (suits_after (deeds_in log) x) e ∙ suits_is x log f
      ∙ suits_back (course [] x log).early (stage [] x log) f one.begins one.fate in
      cc

beside_front : (n : ℕ) (x : Life) (f : Fate) (lives : List Life) (fates : List Fate)
    → IsBeside x f (take n lives) fates → IsBeside x f lives fates
beside_front zero x f lives fates b = absurd b
beside_front (suc n) x f [] fates b = absurd b
beside_front (suc n) x f (y ∷ lives) [] b = absurd b
beside_front (suc n) x f (y ∷ lives) (g ∷ fates) b =
    elim b [ inl e ↦ inl e | inr r ↦ inr (beside_front n x f lives fates r) ]

-- the first of several lives whose fates suit have such fates
pub suited_front : (log : List Crossing) (lives : List Life) (fates : List Fate) (n : ℕ) → AreSuited log lives fates
    → AreSuited log (take n lives) fates
suited_front log lives fates n all = record {
  each = λ x f b. all.each x f (beside_front n x f lives fates b);
  contact = λ x y f b c both. all.contact x y f (beside_front n x fate.Reset lives fates b)
      (beside_front n y f lives fates c) both;
}

pub all_suited : (log : List Crossing) (lives : List Life) (fates : List Fate) (place : ℕ) → length lives ≤ place
    → AreSuited log (take place lives) fates → AreSuited log lives fates
all_suited log lives fates place past all =
    subst (λ (xs : List Life). AreSuited log xs fates) (take_all place lives past) all

-- where nothing crossed no life has begun
pub suited_alone : (x : Life) (f : Fate) → AreSuited [] (x ∷ []) (f ∷ [])
suited_alone x f = record {
  each = λ y g b. record { begins = λ e. absurd (false≢true e); fate = refl };
  contact = λ y z g b c both. absurd (false≢true both.contact);
}
