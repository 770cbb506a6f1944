-- Links that have a receiving end.
use Rattle.std.proofs.Common.{◌≡◌, ℕ, ◌||◌, Bool, true, false, not, List, [], ◌∷◌, drop, find, refl, ap, zero, suc}
use Rattle.std.specs.List.{list_any}
use Rattle.std.proofs.lemmas.Bool.{or_right}
use Rattle.host_pairs.specs.Entries.{receives_on}
use Rattle.host_pairs.specs.declared.entry.Entry.{Entry}

-- no end receives on it
abbrev pub is_free : List Entry → ℕ → Bool
is_free entries link = not (list_any (receives_on link) entries)

any_behind : (test : Entry → Bool) (i : ℕ) (es : List Entry) → list_any test (drop i es) ≡ true → list_any test es ≡ true
any_behind test zero es h = h
any_behind test (suc i) [] h = h
any_behind test (suc i) (e ∷ es) h = or_right (test e) (list_any test es) (any_behind test i es h)

first_any : (test : Entry → Bool) (e : Entry) (es : List Entry) → test e ≡ true → list_any test (e ∷ es) ≡ true
first_any test e es h = rw h refl

-- the link of an end isn't free
pub one_taken : (entries : List Entry) (i link : ℕ) (e : Entry) (es : List Entry) → drop i entries ≡ e ∷ es → receives_on link e ≡ true → is_free entries link ≡ false
one_taken entries i link e es at receives =
    let here : list_any (receives_on link) (drop i entries) ≡ true = rw at (first_any (receives_on link) e es receives) in
    ap not (any_behind (receives_on link) i entries here)

-- and it may be passed over
pub first_passed : (free : ℕ → Bool) (link : ℕ) (links : List ℕ) → free link ≡ false → find free links ≡ find free (link ∷ links)
first_passed free link links taken = rw taken refl
