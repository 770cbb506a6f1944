-- Tests of hosts and flows, and chains of tests.
pub use Rattle.std.proofs.lemmas.Bool.{and_parts as and_true, or_parts as or_false}
use Rattle.std.proofs.Common.{arith, Bor, option_copied, slice_get, ◌≡◌, ℕ, Bool, true, false, not, ◌&&◌, ◌||◌, suc, List, [], ◌∷◌, Option, Some, None, refl, ap, sym, subst, ◌∙◌, inl, inr, ◌⊎◌, ◌==◌, if◌then◌else◌, eq-eqb}
use Rattle.std.proofs.lemmas.Bool.{eqb-true}
use Rattle.std.proofs.lemmas.Option.{slice_get-get_or, slice_get_past}
use Rattle.std.specs.List.{Contains}
use Rattle.std.specs.Slice.{IsItemAt}
use Rattle.interface.specs.Host.{Host, same_host}
use Rattle.interface.specs.Mailboxes.{same_flow, Box, Empty, Waiting, Taken, WaitsWith}
use Rattle.interface.specs.declared.address.Flow.{Flow}

-- ---- tests

-- a chain of refusals that ends in none: its first test fails, and the rest ends in none
pub guard : {F : Type 0} (b : Bool) (e : F) (rest : Option F) → (if b then Some e else rest) ≡ None → (b ≡ false) × (rest ≡ None)
guard true e rest h = absurd (cc)
guard false e rest h = (refl, h)

pub not_false : (b : Bool) → not b ≡ false → b ≡ true
not_false true h = refl
not_false false h = absurd (cc)

pub not_true : (b : Bool) → not b ≡ true → b ≡ false
not_true true h = absurd (cc)
not_true false h = refl

pub unlike : (b : Bool) → b ≡ true → b ≡ false → ⊥
unlike b e f = absurd (let clash : true ≡ false = sym e ∙ f in cc)

pub and_none : (a : Bool) → (a && false) ≡ false
and_none true = refl
and_none false = refl

pub and_turned : (a b : Bool) → (a && b) ≡ (b && a)
and_turned true true = refl
and_turned true false = refl
and_turned false true = refl
and_turned false false = refl

pub and_first : (a b : Bool) → (a && b) ≡ true → a ≡ true
and_first a b e = (and_true a b e).0

pub and_second : (a b : Bool) → (a && b) ≡ true → b ≡ true
and_second a b e = (and_true a b e).1

pub or_first : (a b : Bool) → (a || b) ≡ false → a ≡ false
or_first a b e = (or_false a b e).0

pub or_second : (a b : Bool) → (a || b) ≡ false → b ≡ false
or_second a b e = (or_false a b e).1

pub or_nothing : (a : Bool) → (a || false) ≡ a
or_nothing true = refl
or_nothing false = refl

pub both_ways : (a b : Bool) → (a ≡ true → b ≡ true) → (b ≡ true → a ≡ true) → a ≡ b
both_ways true b f g = sym (f refl)
both_ways false true f g = g refl
both_ways false false f g = refl

-- ---- lists

pub contains_head : {A : Type 0} (x : A) (xs : List A) → Contains (x ∷ xs) x
contains_head x xs = (0, omega arith, refl)

pub contains_tail : {A : Type 0} (x : A) (xs : List A) (y : A) → Contains xs y → Contains (x ∷ xs) y
contains_tail x xs y (k, h, e) = (suc k, omega arith, e)

pub contains_none : {A : Type 0} (x : A) → Contains [] x → ⊥
contains_none x (k, h, e) = omega arith

-- ---- hosts and flows

pub same_host-true : (g h : Host) → same_host g h ≡ true → g ≡ h
same_host-true g h e =
    let t : (g.imp == h.imp) ≡ true × (g.host == h.host) ≡ true = and_true (g.imp == h.imp) (g.host == h.host) e in
    let at : ℕ → ℕ → Host = λ i j. record { imp = i; host = j } in
    ap (λ (i : ℕ). at i g.host) (eqb-true g.imp h.imp t.0) ∙ ap (λ (j : ℕ). at h.imp j) (eqb-true g.host h.host t.1)

pub same_host-refl : (h : Host) → same_host h h ≡ true
same_host-refl h = rw (eq-eqb h.imp h.imp refl, eq-eqb h.host h.host refl) refl

pub same_flow-true : (f g : Flow) → same_flow f g ≡ true → f ≡ g
same_flow-true f g e =
    let t : (same_host f.source g.source && same_host f.destination g.destination) ≡ true × (f.link.0 == g.link.0) ≡ true =
    and_true (same_host f.source g.source && same_host f.destination g.destination) (f.link.0 == g.link.0) e in
    let u : same_host f.source g.source ≡ true × same_host f.destination g.destination ≡ true = and_true (same_host f.source g.source) (same_host f.destination g.destination) t.0 in
    let source : f.source ≡ g.source = same_host-true f.source g.source u.0 in
    let destination : f.destination ≡ g.destination = same_host-true f.destination g.destination u.1 in
    let link : f.link.0 ≡ g.link.0 = eqb-true f.link.0 g.link.0 t.1 in
    let at : Host → Host → ℕ → Flow = λ s d l. record { source = s; destination = d; link = record { 0 = l } } in
    ap (λ (s : Host). at s f.destination f.link.0) source ∙ ap (λ (d : Host). at g.source d f.link.0) destination ∙ ap (λ (l : ℕ). at g.source g.destination l) link

pub same_flow-refl : (f : Flow) → same_flow f f ≡ true
same_flow-refl f = rw (same_host-refl f.source, same_host-refl f.destination, eq-eqb f.link.0 f.link.0 refl) refl

pub same_flow-sym : (f g : Flow) → same_flow f g ≡ same_flow g f
same_flow-sym f g = both_ways (same_flow f g) (same_flow g f)
    (λ e. let P : Flow → Type 0 = λ x. same_flow x f ≡ true in subst P (same_flow-true f g e) (same_flow-refl f))
    (λ e. let P : Flow → Type 0 = λ x. same_flow x g ≡ true in subst P (same_flow-true g f e) (same_flow-refl g))

-- ---- boxes

-- the box of a text that waits
pub waits_with : (box : Box) (text : List Bool) → WaitsWith box text → (place : ℕ) × (box ≡ Waiting place text)
waits_with Empty text h = absurd h
waits_with (Waiting place kept) text h = (place, ap (λ (t : List Bool). Waiting place t) h)
waits_with (Taken place kept) text h = absurd h

-- ---- reading a place of a list

-- a lent element, or none, is what the list has at its place
pub read_at : {X : Type 0} (xs : List X) (i : ℕ) (o : Option (Bor X)) → IsItemAt xs i o → option_copied o ≡ slice_get xs i
read_at xs i None h = sym (slice_get_past xs i h.3)
read_at xs i (Some x) h = ap (λ y. Some y) (h.4 (omega arith) x.now) ∙ sym (slice_get-get_or xs i x.now h.3.0)
