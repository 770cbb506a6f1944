-- Where the end of two sockets is, once a pair of hosts has many ends.
use Rattle.std.specs.Prelude.{◌≡◌, ℕ, ◌+◌, ◌*◌, ◌<◌, ◌≤◌, List, [], ◌∷◌, Option, Some, suc}
use Rattle.std.specs.BTreeMap.{get}
use Rattle.std.specs.Ordering.{nat_cmp}
use Rattle.host_pairs.specs.declared.entry.Entry.{Entry}
use Rattle.host_pairs.specs.declared.index.Index.{Index}
use Rattle.host_pairs.specs.declared.index.Places.{Places}
use Rattle.host_pairs.specs.declared.index.Places.TheVariants as places

-- two sockets as one number
abbrev pub key_of : ℕ → ℕ → ℕ
key_of own foreign = own * 4294967296 + foreign

abbrev pub end_key : Entry → ℕ
end_key e = key_of e.own e.foreign

-- these numbers ascend, from this one on, and each is below that one
abbrev pub Ascend : ℕ → List ℕ → ℕ → Type 0
Ascend low [] next = low ≤ next
Ascend low (n ∷ ns) next = (low ≤ n) × Ascend (suc n) ns next

-- each end has its number, and is found by its sockets under that number
abbrev pub AreFound : (ℕ → Option ℕ) → List ℕ → List Entry → Type 0
AreFound found [] [] = Unit {0}
AreFound found [] (e ∷ es) = ⊥
AreFound found (n ∷ ns) [] = ⊥
AreFound found (n ∷ ns) (e ∷ es) = (found (end_key e) ≡ Some n) × AreFound found ns es

-- the number that a map has for two sockets
abbrev pub number_in : Index → ℕ → Option ℕ
number_in x key = get nat_cmp x.by_sockets key

pub record AreIndexed (x : Index) (es : List Entry) : Type 0 where
  pub ascending : Ascend 0 x.numbers.items x.next
  pub found : AreFound (number_in x) x.numbers.items es

-- the sockets of these ends ascend, from this number on
abbrev pub AscendFrom : ℕ → List Entry → Type 0
AscendFrom low [] = Unit {0}
AscendFrom low (e ∷ es) = (low ≤ end_key e) × AscendFrom (suc (end_key e)) es

abbrev pub AreInOrder : List Entry → Type 0
AreInOrder es = AscendFrom 0 es

-- the sockets of each of these ends come before a number
abbrev pub AreBelow : ℕ → List Entry → Type 0
AreBelow key [] = Unit {0}
AreBelow key (e ∷ es) = (end_key e < key) × AreBelow key es

-- what is known of the places of the ends is true
abbrev pub AreKept : Places → List Entry → Type 0
AreKept places.Unknown es = Unit {0}
AreKept places.InOrder es = AreInOrder es
AreKept (places.Indexed x) es = AreIndexed x.value es
