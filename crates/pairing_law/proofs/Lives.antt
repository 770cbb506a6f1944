-- The lives of one host beside the words of both: where their requests are, and what a new one keeps.
use Rattle.std.proofs.Common.{◌≡◌, ◌≢◌, ◌⊎◌, ℕ, ◌<◌, ◌≤◌, List, [], ◌∷◌, Some, None, refl, sym, subst, inl, inr, arith}
use Rattle.pairing_law.specs.Marks.{Mark, Ask, Asks, IsOlder}
use Rattle.pairing_law.specs.Ends.{End}
use Rattle.pairing_law.specs.Sides.{Life}
use Rattle.pairing_law.specs.Partners.{NoneOwns, NoneTook, OwnOnce, PartnerOnce, IsIn, AreBoth}
use Rattle.pairing_law.proofs.Words.{asks_said, Below, From, Grows, below_asks, from_asks, asks_once, asks_apart}
use Rattle.pairing_law.proofs.Balance.{Balanced}

abbrev pub Every : (Life → Type 0) → List Life → Type 0
Every P [] = Unit {0}
Every P (x ∷ lives) = P x × Every P lives

every_map : (P Q : Life → Type 0) (lives : List Life) → ((x : Life) → P x → Q x) → Every P lives → Every Q lives
every_map P Q [] f h = tt
every_map P Q (x ∷ lives) f h = (f x h.0, every_map P Q lives f h.1)

pub every_in : (P : Life → Type 0) (x : Life) (lives : List Life) → Every P lives → IsIn x lives → P x
every_in P x [] h i = absurd i
every_in P x (y ∷ lives) h (inl same) = subst P (sym same) h.0
every_in P x (y ∷ lives) h (inr i) = every_in P x lives h.1 i

pub none_owns : (P : Life → Type 0) (p : ℕ) (lives : List Life) → ((x : Life) → P x → x.own ≢ p) → Every P lives → NoneOwns p lives
none_owns P p [] f h = tt
none_owns P p (x ∷ lives) f h = (f x h.0, none_owns P p lives f h.1)

pub none_took : (P : Life → Type 0) (p : ℕ) (lives : List Life) → ((x : Life) → P x → x.partner ≢ p) → Every P lives → NoneTook p lives
none_took P p [] f h = tt
none_took P p (x ∷ lives) f h = (f x h.0, none_took P p lives f h.1)

-- ---- where its requests are

-- both are of one connection of this stay
abbrev pub IsNew : List Mark → List Mark → Life → Type 0
IsNew s t x = (k : ℕ) × Asks k x.own s × Asks k x.partner t

-- or both went out before the stay began
abbrev pub Stood : ℕ → ℕ → List Mark → List Mark → Life → Type 0
Stood floor other s t x = ((x.own < floor) × (x.partner < other)) ⊎ IsNew s t x

pub record Stands (floor other : ℕ) (s t : List Mark) (e : End) (x : Life) : Type 0 where
  pub stood : Stood floor other s t x
  -- an end doesn't open with a request that opened another
  pub own_used : e.asked ≡ Some x.own → e.partner ≢ None
  pub partner_used : e.partner ≡ Some x.partner → e.asked ≢ None

pub own_below : (floor other next : ℕ) (s t : List Mark) (x : Life) → floor ≤ next → Below next s → Stood floor other s t x → x.own < next
own_below floor other next s t x low below (inl old) = let l : x.own < floor = old.0 in omega (arith, l, low)
own_below floor other next s t x low below (inr new) = below_asks new.0 next x.own s below new.1

pub partner_below : (floor other next : ℕ) (s t said : List Mark) (x : Life) → other ≤ next → Below next said → IsOlder t said → Stood floor other s t x → x.partner < next
partner_below floor other next s t said x low below older (inl old) = let l : x.partner < other = old.1 in omega (arith, l, low)
partner_below floor other next s t said x low below older (inr new) = below_asks new.0 next _ said below (asks_said new.0 _ t said older new.2)

-- a request that is heard is none that was heard before
pub partner_before : (floor other p : ℕ) (s t said : List Mark) (x : Life) → From other said → Grows said → IsOlder (Ask p ∷ t) said → Stood floor other s t x → x.partner < p
partner_before floor other p s t said x from grows older (inl old) =
    let l : x.partner < other = old.1 in
    let m : other ≤ p = from_asks _ other p said from (asks_said _ p _ said older (inl (refl, refl))) in
    omega (arith, l, m)
partner_before floor other p s t said x from grows older (inr new) = asks_apart new.0 p _ older.0 t (subst Grows older.1 grows) new.2

-- ---- two lives, one of them of this stay

pub one_new : (floor other : ℕ) (sa ta sb tb : List Mark) (ea : End) → Balanced sa ta ea → IsOlder ta sb → IsOlder tb sa → Grows sb → From other sb
    → (x y : Life) → IsNew sa ta x → Stood other floor sb tb y → x.partner ≡ y.own → y.partner ≡ x.own
one_new floor other sa ta sb tb ea a here there grows from x y new (inl old) same =
    absurd (let l : y.own < other = old.0 in let m : other ≤ x.partner = from_asks new.0 other _ sb from (asks_said new.0 _ ta sb here new.2) in omega (arith, l, m, same))
one_new floor other sa ta sb tb ea a here there grows from x y new (inr young) same =
    let heard : Asks new.0 y.own sb = subst (λ (p : ℕ). Asks new.0 p sb) same (asks_said new.0 _ ta sb here new.2) in
    let one : young.0 ≡ new.0 = asks_once _ new.0 y.own sb grows young.1 heard in
    let answered : Asks new.0 y.partner sa = subst (λ (k : ℕ). Asks k y.partner sa) one (asks_said _ _ tb sa there young.2) in
    a.single new.0 y.partner x.own answered new.1

pub other_new : (floor other : ℕ) (sa ta sb tb : List Mark) (eb : End) → Balanced sb tb eb → IsOlder ta sb → IsOlder tb sa → Grows sa → From floor sa
    → (x y : Life) → IsNew sa ta x → Stood other floor sb tb y → y.partner ≡ x.own → x.partner ≡ y.own
other_new floor other sa ta sb tb eb b here there grows from x y new (inl old) same =
    absurd (let l : y.partner < floor = old.1 in let m : floor ≤ x.own = from_asks new.0 floor x.own sa from new.1 in omega (arith, l, m, same))
other_new floor other sa ta sb tb eb b here there grows from x y new (inr young) same = one_new other floor sb tb sa ta eb b there here grows from y x young (inr new) same

-- ---- the lives of a host

pub record Lived (floor other : ℕ) (s t : List Mark) (e : End) (lives others : List Life) : Type 0 where
  pub stands : Every (Stands floor other s t e) lives
  pub own_once : OwnOnce lives
  pub partner_once : PartnerOnce lives
  pub both : AreBoth lives others
  pub back : AreBoth others lives

-- where each is as before
pub lived_on : (floor other floor' other' : ℕ) (s t s' t' : List Mark) (e e' : End) (lives others : List Life) → ((x : Life) → Stands floor other s t e x → Stands floor' other' s' t' e' x)
    → Lived floor other s t e lives others → Lived floor' other' s' t' e' lives others
lived_on floor other floor' other' s t s' t' e e' lives others f l = record {
  stands = every_map _ _ lives f l.stands;
  own_once = l.own_once;
  partner_once = l.partner_once;
  both = l.both;
  back = l.back;
}

-- a new one
pub lived_more : (floor other : ℕ) (s t : List Mark) (e : End) (x : Life) (lives others : List Life) → Lived floor other s t e lives others → Stands floor other s t e x → NoneOwns x.own lives → NoneTook x.partner lives
    → ((y : Life) → IsIn y others → (x.partner ≡ y.own → y.partner ≡ x.own) × (y.partner ≡ x.own → x.partner ≡ y.own)) → Lived floor other s t e (x ∷ lives) others
lived_more floor other s t e x lives others l stands own partner with_others = record {
  stands = (stands, l.stands);
  own_once = (own, l.own_once);
  partner_once = (partner, l.partner_once);
  both = λ u y i j same. elim i [
    | inl new ↦ subst (λ (z : Life). z.partner ≡ y.own → y.partner ≡ z.own) (sym new) (with_others y j).0 same
    | inr old ↦ l.both u y old j same
  ];
  back = λ y u j i same. elim i [
    | inl new ↦ subst (λ (z : Life). y.partner ≡ z.own → z.partner ≡ y.own) (sym new) (with_others y j).1 same
    | inr old ↦ l.back y u j old same
  ];
}
