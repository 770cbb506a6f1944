-- The ends of two sockets, and what waits to be said of them, where a host's ends and its queue change.
pub use Rattle.std.proofs.lemmas.Option.{same_Some as found_same}
use Rattle.host_keeps_pairing.proofs.Common.{◌≡◌, ℕ, Bool, true, ◌&&◌, ◌==◌, if◌then◌else◌, List, [], ◌∷◌, ◌++◌, map, filter, Some, None, refl, ap, sym, ◌∙◌, eqb-true, append-nil, Command, Mark, changed_first, changed_at, entry_at, is_at, Entry, mark_of, marks, Standing, standing, at}
use Rattle.std.proofs.Common.{false, eq-eqb}
use Rattle.std.proofs.lemmas.List.{map-append}
use Rattle.std.proofs.lemmas.List.Elements.{filter-append}
use Rattle.host_pairs.proofs.lemmas.{both}

-- ---- what waits

pub marks_append : (place own foreign : ℕ) (xs ys : List Command) → marks place own foreign (xs ++ ys) ≡ marks place own foreign xs ++ marks place own foreign ys
marks_append place own foreign [] ys = refl
marks_append place own foreign (x ∷ xs) ys = by (mark_of place own foreign x) (marks_append place own foreign xs ys) where
  by : (m : List Mark) → marks place own foreign (xs ++ ys) ≡ marks place own foreign xs ++ marks place own foreign ys
      → m ++ marks place own foreign (xs ++ ys) ≡ (m ++ marks place own foreign xs) ++ marks place own foreign ys
  by [] rest = rest
  by (x ∷ m) rest = ap (λ (l : List Mark). x ∷ l) (by m rest)

-- one command more
pub marks_more : (place own foreign : ℕ) (xs : List Command) (c : Command) → marks place own foreign (xs ++ c ∷ []) ≡ marks place own foreign xs ++ mark_of place own foreign c
marks_more place own foreign xs c = marks_append place own foreign xs _ ∙ ap (λ (l : List Mark). marks place own foreign xs ++ l) (append-nil (mark_of place own foreign c))

-- one that says nothing
pub marks_quiet : (place own foreign : ℕ) (xs : List Command) (c : Command) → mark_of place own foreign c ≡ [] → marks place own foreign (xs ++ c ∷ []) ≡ marks place own foreign xs
marks_quiet place own foreign xs c none = marks_more place own foreign xs c ∙ ap (λ (l : List Mark). marks place own foreign xs ++ l) none ∙ append-nil (marks place own foreign xs)

-- ---- ends

pub at_append : (own foreign : ℕ) (xs ys : List Entry) → at own foreign (xs ++ ys) ≡ at own foreign xs ++ at own foreign ys
at_append own foreign xs ys = ap (λ (es : List Entry). map standing es) (filter-append (is_at own foreign) xs ys) ∙ map-append standing (filter (is_at own foreign) xs) (filter (is_at own foreign) ys)

-- one end, and those after it
pub at_one : (own foreign : ℕ) (x : Entry) (xs : List Entry) (b : Bool) → is_at own foreign x ≡ b → at own foreign (x ∷ xs) ≡ (if b then standing x ∷ at own foreign xs else at own foreign xs)
at_one own foreign x xs true e = rw e refl
at_one own foreign x xs false e = rw e refl

-- a change that leaves the two sockets and what matters
abbrev pub IsQuiet : (Entry → Entry) → Type 0
IsQuiet change = (e : Entry) → ((change e).own ≡ e.own) × ((change e).foreign ≡ e.foreign) × (standing (change e) ≡ standing e)

quiet_at : (own foreign : ℕ) (change : Entry → Entry) (x : Entry) → IsQuiet change → is_at own foreign (change x) ≡ is_at own foreign x
quiet_at own foreign change x q = ap (λ (n : ℕ). n == own && (change x).foreign == foreign) (q x).0 ∙ ap (λ (n : ℕ). x.own == own && n == foreign) (q x).1

quiet_step : (own foreign : ℕ) (test : Entry → Bool) (change : Entry → Entry) (x : Entry) (xs : List Entry) → IsQuiet change
    → at own foreign (changed_first test change xs) ≡ at own foreign xs → (b c : Bool) → test x ≡ b → is_at own foreign x ≡ c
    → at own foreign (changed_first test change (x ∷ xs)) ≡ at own foreign (x ∷ xs)
quiet_step own foreign test change x xs q rest true true e f =
    let there : is_at own foreign (change x) ≡ true = quiet_at own foreign change x q ∙ f in
    rw (e, f, there) (ap (λ (s : Standing). s ∷ at own foreign xs) (q x).2)
quiet_step own foreign test change x xs q rest true false e f =
    let there : is_at own foreign (change x) ≡ false = quiet_at own foreign change x q ∙ f in
    rw (e, f, there) refl
quiet_step own foreign test change x xs q rest false true e f = rw (e, f) (ap (λ (ss : List Standing). standing x ∷ ss) rest)
quiet_step own foreign test change x xs q rest false false e f = rw (e, f) rest

pub at_quiet : (own foreign : ℕ) (test : Entry → Bool) (change : Entry → Entry) (xs : List Entry) → IsQuiet change → at own foreign (changed_first test change xs) ≡ at own foreign xs
at_quiet own foreign test change [] q = refl
at_quiet own foreign test change (x ∷ xs) q = quiet_step own foreign test change x xs q (at_quiet own foreign test change xs q) _ _ refl refl

-- ---- the end of two sockets is changed

-- the first of a list
abbrev pub first : (Standing → Standing) → List Standing → List Standing
first change [] = []
first change (s ∷ ss) = change s ∷ ss

-- a change that leaves the two sockets, and is this one of what matters
abbrev pub Is : (Standing → Standing) → (Entry → Entry) → Type 0
Is to change = (e : Entry) → ((change e).own ≡ e.own) × ((change e).foreign ≡ e.foreign) × (standing (change e) ≡ to (standing e))

-- the two sockets of an end
pub sockets_of : (own foreign : ℕ) (x : Entry) → is_at own foreign x ≡ true → (x.own ≡ own) × (x.foreign ≡ foreign)
sockets_of own foreign x e = let h : ((x.own == own) ≡ true) × ((x.foreign == foreign) ≡ true) = both (x.own == own) (x.foreign == foreign) e in (eqb-true x.own own h.0, eqb-true x.foreign foreign h.1)

turned : (a b : ℕ) (s t : Bool) → (a == b) ≡ s → (b == a) ≡ t → s ≡ t
turned a b true true e f = refl
turned a b false false e f = refl
turned a b true false e f = absurd (let r : true ≡ false = sym (eq-eqb b a (sym (eqb-true a b e))) ∙ f in cc)
turned a b false true e f = absurd (let r : true ≡ false = sym (eq-eqb a b (sym (eqb-true b a f))) ∙ e in cc)

pub eqb-sym : (a b : ℕ) → (a == b) ≡ (b == a)
eqb-sym a b = turned a b _ _ refl refl

-- which pairs of sockets are one
abbrev pub are : ℕ → ℕ → ℕ → ℕ → Bool
are a b own foreign = a == own && b == foreign

here_is : (a b own foreign : ℕ) (x : Entry) → is_at a b x ≡ true → is_at own foreign x ≡ are a b own foreign
here_is a b own foreign x e =
    let s : (x.own ≡ a) × (x.foreign ≡ b) = sockets_of a b x e in
    ap (λ (n : ℕ). n == own && x.foreign == foreign) s.0 ∙ ap (λ (n : ℕ). a == own && n == foreign) s.1

there_is : (a b own foreign : ℕ) (x : Entry) → is_at own foreign x ≡ true → is_at a b x ≡ are a b own foreign
there_is a b own foreign x e =
    let s : (x.own ≡ own) × (x.foreign ≡ foreign) = sockets_of own foreign x e in
    ap (λ (n : ℕ). n == a && x.foreign == b) s.0 ∙ ap (λ (n : ℕ). own == a && n == b) s.1
    ∙ ap (λ (t : Bool). t && foreign == b) (eqb-sym own a) ∙ ap (λ (t : Bool). a == own && t) (eqb-sym foreign b)

abbrev Changes : ℕ → ℕ → ℕ → ℕ → (Standing → Standing) → (Entry → Entry) → List Entry → Type 0
Changes a b own foreign to change xs = at own foreign (changed_at a b change xs) ≡ (if are a b own foreign then first to (at own foreign xs) else at own foreign xs)

change_step : (a b own foreign : ℕ) (to : Standing → Standing) (change : Entry → Entry) (x : Entry) (xs : List Entry) → Is to change → Changes a b own foreign to change xs
    → (s t u : Bool) → is_at a b x ≡ s → is_at own foreign x ≡ t → are a b own foreign ≡ u → Changes a b own foreign to change (x ∷ xs)
change_step a b own foreign to change x xs is rest true true true e f g =
    let there : is_at own foreign (change x) ≡ true = ap (λ (n : ℕ). n == own && (change x).foreign == foreign) (is x).0 ∙ ap (λ (n : ℕ). x.own == own && n == foreign) (is x).1 ∙ f in
    rw (e, f, g, there) (ap (λ (v : Standing). v ∷ at own foreign xs) (is x).2)
change_step a b own foreign to change x xs is rest true false false e f g =
    let there : is_at own foreign (change x) ≡ false = ap (λ (n : ℕ). n == own && (change x).foreign == foreign) (is x).0 ∙ ap (λ (n : ℕ). x.own == own && n == foreign) (is x).1 ∙ f in
    rw (e, f, g, there) refl
change_step a b own foreign to change x xs is rest false true false e f g =
    let r : at own foreign (changed_at a b change xs) ≡ at own foreign xs = rw g at rest in
    rw (e, f, g) (ap (λ (ss : List Standing). standing x ∷ ss) r)
change_step a b own foreign to change x xs is rest false false true e f g =
    let r : at own foreign (changed_at a b change xs) ≡ first to (at own foreign xs) = rw g at rest in rw (e, f, g) r
change_step a b own foreign to change x xs is rest false false false e f g =
    let r : at own foreign (changed_at a b change xs) ≡ at own foreign xs = rw g at rest in rw (e, f, g) r
change_step a b own foreign to change x xs is rest true true false e f g = absurd (let r : true ≡ false = sym f ∙ here_is a b own foreign x e ∙ g in cc)
change_step a b own foreign to change x xs is rest true false true e f g = absurd (let r : false ≡ true = sym f ∙ here_is a b own foreign x e ∙ g in cc)
change_step a b own foreign to change x xs is rest false true true e f g = absurd (let r : false ≡ true = sym e ∙ there_is a b own foreign x f ∙ g in cc)

pub at_changed : (a b own foreign : ℕ) (to : Standing → Standing) (change : Entry → Entry) (xs : List Entry) → Is to change → Changes a b own foreign to change xs
at_changed a b own foreign to change [] is = none (are a b own foreign) where
  none : (t : Bool) → [] ≡ (if t then first to [] else [])
  none true = refl
  none false = refl
at_changed a b own foreign to change (x ∷ xs) is =
    change_step a b own foreign to change x xs is (at_changed a b own foreign to change xs is) _ _ _ refl refl refl

-- ---- what is found

none_step : (own foreign : ℕ) (x : Entry) (xs : List Entry) → (entry_at own foreign xs ≡ None → at own foreign xs ≡ []) → (b : Bool) → is_at own foreign x ≡ b → entry_at own foreign (x ∷ xs) ≡ None → at own foreign (x ∷ xs) ≡ []
none_step own foreign x xs rest true f e = absurd (let r : Some x ≡ None = rw f at e in cc)
none_step own foreign x xs rest false f e = at_one own foreign x xs false f ∙ rest (rw f at e)

pub none_at : (own foreign : ℕ) (xs : List Entry) → entry_at own foreign xs ≡ None → at own foreign xs ≡ []
none_at own foreign [] e = refl
none_at own foreign (x ∷ xs) e = none_step own foreign x xs (none_at own foreign xs) _ refl e

pub record Found (own foreign : ℕ) (xs : List Entry) (e : Entry) : Type 0 where
  pub rest : List Standing
  pub first : at own foreign xs ≡ standing e ∷ rest

found_step : (own foreign : ℕ) (x e : Entry) (xs : List Entry) → (entry_at own foreign xs ≡ Some e → Found own foreign xs e) → (b : Bool) → is_at own foreign x ≡ b → entry_at own foreign (x ∷ xs) ≡ Some e → Found own foreign (x ∷ xs) e
found_step own foreign x e xs rest true f is =
    let same : x ≡ e = found_same x e (rw f at is) in
    record { rest = at own foreign xs; first = at_one own foreign x xs true f ∙ ap (λ (y : Entry). standing y ∷ at own foreign xs) same }
found_step own foreign x e xs rest false f is = let r : Found own foreign xs e = rest (rw f at is) in record { rest = r.rest; first = at_one own foreign x xs false f ∙ r.first }

pub found_at : (own foreign : ℕ) (xs : List Entry) (e : Entry) → entry_at own foreign xs ≡ Some e → Found own foreign xs e
found_at own foreign [] e is = absurd (cc)
found_at own foreign (x ∷ xs) e is = found_step own foreign x e xs (found_at own foreign xs e) _ refl is
