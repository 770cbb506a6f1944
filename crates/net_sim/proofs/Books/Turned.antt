-- Fates of lives at places, one after the other.
use Rattle.net_sim.proofs.Common.{◌≡◌, ℕ, ◌+◌, ◌<◌, ◌≤◌, Bool, true, false, if◌then◌else◌, zero, suc, List, [], ◌∷◌, length, drop, map, slice_set, refl, ap, sym, ◌∙◌, arith, drop_more, Fate, Life, fates_where, turns, AreMarked, Covers, Holds, marked}
use Rattle.std.proofs.Common.{slice_index_or}
use Rattle.net_sim.specs.Inside.Endings.{Turn}
use Rattle.net_sim.specs.Inside.Open.{places_by}
use Rattle.net_sim.specs.declared.life.Ending.TheVariants as ending
use Rattle.net_sim.specs.declared.life.Turn.TheVariants as turn
use Rattle.net_sim.proofs.Books.Marks.{look_at, look_of}
use Rattle.net_sim.proofs.Books.Places.{nothing_left}

-- ---- at a place, and at several

abbrev pub fates_here : (Life → Bool) → (Fate → Fate) → ℕ → List Life → List Fate → List Fate
fates_here test change at [] fs = fs
fates_here test change at (x ∷ xs) [] = []
fates_here test change zero (x ∷ xs) (f ∷ fs) = (if test x then change f else f) ∷ fs
fates_here test change (suc at) (x ∷ xs) (f ∷ fs) = f ∷ fates_here test change at xs fs

abbrev pub fates_at : (Life → Bool) → (Fate → Fate) → List ℕ → List Life → List Fate → List Fate
fates_at test change [] xs fs = fs
fates_at test change (at ∷ ats) xs fs = fates_at test change ats xs (fates_here test change at xs fs)

pub turn_here : (test : Life → Bool) (change : Fate → Fate) (at : ℕ) (xs : List Life) (fs : List Fate) (d : Life) (g f new : Fate)
    → at < length xs → f ≡ slice_index_or fs at g → new ≡ (if test (slice_index_or xs at d) then change f else f) → slice_set fs at new ≡ fates_here test change at xs fs
turn_here test change at [] fs d g f new lt was is = absurd (omega (arith, lt))
turn_here test change at (x ∷ xs) [] d g f new lt was is = refl
turn_here test change zero (x ∷ xs) (e ∷ fs) d g f new lt was is = ap (λ (z : Fate). z ∷ fs) (is ∙ ap (λ (z : Fate). if test x then change z else z) was)
turn_here test change (suc at) (x ∷ xs) (e ∷ fs) d g f new lt was is = ap (λ (zs : List Fate). e ∷ zs) (turn_here test change at xs fs d g f new (omega (arith, lt)) was is)

pub turn_none : (test : Life → Bool) (change : Fate → Fate) (at : ℕ) (xs : List Life) (fs : List Fate) → length fs ≤ at → fs ≡ fates_here test change at xs fs
turn_none test change at [] fs le = refl
turn_none test change at (x ∷ xs) [] le = refl
turn_none test change zero (x ∷ xs) (f ∷ fs) le = absurd (omega (arith, le))
turn_none test change (suc at) (x ∷ xs) (f ∷ fs) le = ap (λ (zs : List Fate). f ∷ zs) (turn_none test change at xs fs (omega (arith, le)))

turn_shifted : (test : Life → Bool) (change : Fate → Fate) (ats : List ℕ) (x : Life) (xs : List Life) (f : Fate) (fs : List Fate) → fates_at test change (map suc ats) (x ∷ xs) (f ∷ fs) ≡ f ∷ fates_at test change ats xs fs
turn_shifted test change [] x xs f fs = refl
turn_shifted test change (at ∷ ats) x xs f fs = turn_shifted test change ats x xs f (fates_here test change at xs fs)

none_turned : (test : Life → Bool) (change : Fate → Fate) (ats : List ℕ) (x : Life) (xs : List Life) → fates_at test change ats (x ∷ xs) [] ≡ []
none_turned test change [] x xs = refl
none_turned test change (at ∷ ats) x xs = none_turned test change ats x xs

pub next_turned : (test : Life → Bool) (change : Fate → Fate) (ats : List ℕ) (k : ℕ) (xs : List Life) (fs new zs : List Fate) → k < length ats
    → new ≡ fates_here test change (slice_index_or ats k 0) xs fs → fates_at test change (drop k ats) xs fs ≡ zs → fates_at test change (drop (k + 1) ats) xs new ≡ zs
next_turned test change ats k xs fs new zs lt one rest =
    ap (λ (gs : List Fate). fates_at test change (drop (k + 1) ats) xs gs) one ∙ ap (λ (ns : List ℕ). fates_at test change ns xs fs) (sym (drop_more ats k 0 lt)) ∙ rest

-- ---- at all places that are marked

whole_turned : (test : Life → Bool) (change : Fate → Fate) (bs : List Bool) (xs : List Life) (fs : List Fate) → AreMarked test bs xs → fates_at test change (marked bs) xs fs ≡ fates_where test change xs fs
whole_turned test change [] [] fs h = refl
whole_turned test change [] (x ∷ xs) fs h = absurd h
whole_turned test change (b ∷ bs) [] fs h = absurd h
whole_turned test change (b ∷ bs) (x ∷ xs) [] h = none_turned test change (marked (b ∷ bs)) x xs
whole_turned test change (b ∷ bs) (x ∷ xs) (g ∷ fs) h = by (whole_turned test change bs xs fs h.1) b refl (test x) refl where
  by : fates_at test change (marked bs) xs fs ≡ fates_where test change xs fs → (c : Bool) → b ≡ c → (t : Bool) → test x ≡ t
      → fates_at test change (if c then 0 ∷ map suc (marked bs) else map suc (marked bs)) (x ∷ xs) (g ∷ fs) ≡ (if t then change g else g) ∷ fates_where test change xs fs
  by rest true e t f = turn_shifted test change (marked bs) x xs (if test x then change g else g) fs ∙ ap (λ (gs : List Fate). (if test x then change g else g) ∷ gs) rest
      ∙ ap (λ (c : Bool). (if c then change g else g) ∷ fates_where test change xs fs) f
  by rest false e true f = absurd (let r : true ≡ false = sym (h.0 f) ∙ e in cc)
  by rest false e false f = turn_shifted test change (marked bs) x xs g fs ∙ ap (λ (gs : List Fate). g ∷ gs) rest

pub all_turned : (test : Life → Bool) (change : Fate → Fate) (ats : List ℕ) (k : ℕ) (xs : List Life) (fs gs : List Fate) → Holds test ats xs → length ats ≤ k
    → fates_at test change (drop k ats) xs gs ≡ fates_at test change ats xs fs → gs ≡ fates_where test change xs fs
all_turned test change ats k xs fs gs h le rest =
    ap (λ (ns : List ℕ). fates_at test change ns xs gs) (sym (nothing_left ats k le)) ∙ rest ∙ ap (λ (ns : List ℕ). fates_at test change ns xs fs) h.1 ∙ whole_turned test change h.0 xs fs h.2

-- where to look for the lives whose fate changes
pub look_by : (hosts sockets : List (List ℕ)) (t : Turn) (xs : List Life) → Covers hosts sockets xs → Holds (turns t) (places_by t hosts sockets) xs
look_by hosts sockets (turn.Closes h socket) xs c = look_at hosts sockets h socket xs c
look_by hosts sockets (turn.Over h socket peer foreign) xs c = look_of hosts sockets (ending.Between h socket peer foreign) xs c
look_by hosts sockets (turn.Resets h peer) xs c = look_of hosts sockets (ending.With h peer) xs c
look_by hosts sockets (turn.Stops h) xs c = look_of hosts sockets (ending.On h) xs c
