-- Words for worked examples: a carrier that counts its calls, and rounds that count.
use Rattle.std.specs.Prelude.{◌≡◌, ℕ, suc, false, [], None, Ok}
use Rattle.interface.specs.Calls.{Calls}

-- it has no hosts, each of its calls succeeds and counts one more, and nothing ever crosses
abbrev pub counting : Calls ℕ
counting = record {
  seen = λ calls. record { hosts = []; log = []; stopped = false };
  offers = λ old message r new. (r ≡ Ok tt) × (new ≡ suc old);
  takes = λ old host r new. (r ≡ Ok None) × (new ≡ suc old);
  steps = λ old event r new. (r ≡ Ok tt) × (new ≡ suc old);
  rounds = λ old r new. (r ≡ Ok tt) × (new ≡ suc old);
}

-- rounds that count, and whether they are seen
abbrev pub Counts : ℕ → ℕ → ℕ → Type 0
Counts passed old new = (old ≡ passed) × (new ≡ suc passed)

abbrev pub Never : ℕ → Type 0
Never n = ⊥

abbrev pub At : ℕ → ℕ → Type 0
At place n = n ≡ place
