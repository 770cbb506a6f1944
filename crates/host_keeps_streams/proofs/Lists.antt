-- A list of ends of which one is changed, as far as those on a link go.
pub use Rattle.interface.proofs.lemmas.{unlike}
use Rattle.host_keeps_streams.proofs.Common.{◌≡◌, ℕ, Bool, not, ◌&&◌, ◌==◌, List, [], ◌∷◌, ◌++◌, map, filter, find, Option, Some, None, refl, ap, sym, ◌∙◌, append-nil, filter-append, eqb-true, list_any, changed_first, is_link, is_receiving, receives_on, sends_on, Entry, both, not_is}
use Rattle.std.proofs.Common.{true, false}
use Rattle.std.proofs.lemmas.Bool.{and_left, and_right}
use Rattle.host_pairs.proofs.lemmas.{some_is}

-- ---- what is found

-- whatever is found passes
passes_step : (test : Entry → Bool) (x y : Entry) (ys : List Entry) → (find test ys ≡ Some x → test x ≡ true) → (b : Bool) → test y ≡ b → find test (y ∷ ys) ≡ Some x → test x ≡ true
passes_step test x y ys rest true t e = let r : Some y ≡ Some x = rw t at e in sym (ap test (some_is y x r)) ∙ t
passes_step test x y ys rest false t e = rest (rw t at e)

pub find_passes : (test : Entry → Bool) (x : Entry) (es : List Entry) → find test es ≡ Some x → test x ≡ true
find_passes test x [] e = absurd (cc)
find_passes test x (y ∷ ys) e = passes_step test x y ys (find_passes test x ys) (test y) refl e

none_step : (on : Entry → Bool) (y : Entry) (ys : List Entry) → (filter on ys ≡ [] → find on ys ≡ None) → (b : Bool) → on y ≡ b → filter on (y ∷ ys) ≡ [] → find on (y ∷ ys) ≡ None
none_step on y ys rest true o e = let r : y ∷ filter on ys ≡ [] = rw o at e in absurd (cc)
none_step on y ys rest false o e = let r : filter on ys ≡ [] = rw o at e in rw o (rest r)

pub none_is : (on : Entry → Bool) (es : List Entry) → filter on es ≡ [] → find on es ≡ None
none_is on [] e = refl
none_is on (y ∷ ys) e = none_step on y ys (none_is on ys) (on y) refl e

first_step : (on : Entry → Bool) (x y : Entry) (xs ys : List Entry) → (filter on ys ≡ x ∷ xs → find on ys ≡ Some x) → (b : Bool) → on y ≡ b → filter on (y ∷ ys) ≡ x ∷ xs → find on (y ∷ ys) ≡ Some x
first_step on x y xs ys rest true o e = let r : y ∷ filter on ys ≡ x ∷ xs = rw o at e in let same : y ≡ x = cc in rw o (ap (λ (z : Entry). Some z) same)
first_step on x y xs ys rest false o e = let r : filter on ys ≡ x ∷ xs = rw o at e in rw o (rest r)

pub first_is : (on : Entry → Bool) (x : Entry) (xs es : List Entry) → filter on es ≡ x ∷ xs → find on es ≡ Some x
first_is on x xs [] e = absurd (cc)
first_is on x xs (y ∷ ys) e = first_step on x y xs ys (first_is on x xs ys) (on y) refl e

-- what is found and is on the link is among those on it
missed_step : (test on : Entry → Bool) (e y : Entry) (ys : List Entry) → (filter on ys ≡ [] → find test ys ≡ Some e → ⊥) → on e ≡ true → (b c : Bool) → test y ≡ b → on y ≡ c → filter on (y ∷ ys) ≡ [] → find test (y ∷ ys) ≡ Some e → ⊥
missed_step test on e y ys rest there b true t o f g = let r : y ∷ filter on ys ≡ [] = rw o at f in absurd (cc)
missed_step test on e y ys rest there true false t o f g = let r : Some y ≡ Some e = rw t at g in unlike (on y) (ap on (some_is y e r) ∙ there) o
missed_step test on e y ys rest there false false t o f g = let r : find test ys ≡ Some e = rw t at g in let q : filter on ys ≡ [] = rw o at f in rest q r

pub missed : (test on : Entry → Bool) (e : Entry) (es : List Entry) → on e ≡ true → filter on es ≡ [] → find test es ≡ Some e → ⊥
missed test on e [] there f g = absurd (cc)
missed test on e (y ∷ ys) there f g = missed_step test on e y ys (missed test on e ys there) there (test y) (on y) refl refl f g

-- ---- what is changed

unchanged_step : (test : Entry → Bool) (change : Entry → Entry) (y : Entry) (ys : List Entry) → (find test ys ≡ None → changed_first test change ys ≡ ys) → (b : Bool) → test y ≡ b → find test (y ∷ ys) ≡ None → changed_first test change (y ∷ ys) ≡ y ∷ ys
unchanged_step test change y ys rest true t e = let r : Some y ≡ None = rw t at e in absurd (cc)
unchanged_step test change y ys rest false t e = let r : find test ys ≡ None = rw t at e in rw t (ap (λ (zs : List Entry). y ∷ zs) (rest r))

pub unchanged : (test : Entry → Bool) (change : Entry → Entry) (es : List Entry) → find test es ≡ None → changed_first test change es ≡ es
unchanged test change [] e = refl
unchanged test change (y ∷ ys) e = unchanged_step test change y ys (unchanged test change ys) (test y) refl e

-- the end that is changed isn't on the link
away_step : (test on : Entry → Bool) (change : Entry → Entry) (e y : Entry) (ys : List Entry) → on e ≡ false → on (change e) ≡ false → (find test ys ≡ Some e → filter on (changed_first test change ys) ≡ filter on ys)
    → (b c : Bool) → test y ≡ b → on y ≡ c → find test (y ∷ ys) ≡ Some e → filter on (changed_first test change (y ∷ ys)) ≡ filter on (y ∷ ys)
away_step test on change e y ys off after rest true c t o f =
    let r : Some y ≡ Some e = rw t at f in
    let same : y ≡ e = some_is y e r in
    let before : on y ≡ false = ap on same ∙ off in
    let behind : on (change y) ≡ false = ap (λ (z : Entry). on (change z)) same ∙ after in
    rw (t, before, behind) refl
away_step test on change e y ys off after rest false true t o f = let r : find test ys ≡ Some e = rw t at f in rw (t, o) (ap (λ (zs : List Entry). y ∷ zs) (rest r))
away_step test on change e y ys off after rest false false t o f = let r : find test ys ≡ Some e = rw t at f in rw (t, o) (rest r)

pub away : (test on : Entry → Bool) (change : Entry → Entry) (e : Entry) (es : List Entry) → on e ≡ false → on (change e) ≡ false → find test es ≡ Some e → filter on (changed_first test change es) ≡ filter on es
away test on change e [] off after f = absurd (cc)
away test on change e (y ∷ ys) off after f = away_step test on change e y ys off after (away test on change e ys off after) (test y) (on y) refl refl f

-- it is the one on the link
abbrev pub Here : (Entry → Bool) → (Entry → Bool) → (Entry → Entry) → Entry → Entry → List Entry → Type 0
Here test on change e x es = (e ≡ x) × (filter on (changed_first test change es) ≡ change e ∷ [])

here_step : (test on : Entry → Bool) (change : Entry → Entry) (e x y : Entry) (ys : List Entry) → on e ≡ true → on (change e) ≡ true → (find test ys ≡ Some e → filter on ys ≡ x ∷ [] → Here test on change e x ys)
    → (b c : Bool) → test y ≡ b → on y ≡ c → find test (y ∷ ys) ≡ Some e → filter on (y ∷ ys) ≡ x ∷ [] → Here test on change e x (y ∷ ys)
here_step test on change e x y ys there after rest true c t o f g =
    let r : Some y ≡ Some e = rw t at f in
    let same : y ≡ e = some_is y e r in
    let before : on y ≡ true = ap on same ∙ there in
    let behind : on (change y) ≡ true = ap (λ (z : Entry). on (change z)) same ∙ after in
    let q : y ∷ filter on ys ≡ x ∷ [] = rw before at g in
    let first : y ≡ x = cc in
    let none : filter on ys ≡ [] = cc in
    (sym same ∙ first, rw (t, behind) (ap (λ (zs : List Entry). change y ∷ zs) none ∙ ap (λ (z : Entry). change z ∷ []) same))
here_step test on change e x y ys there after rest false true t o f g =
    let r : find test ys ≡ Some e = rw t at f in
    let q : y ∷ filter on ys ≡ x ∷ [] = rw o at g in
    let none : filter on ys ≡ [] = cc in
    absurd (missed test on e ys there none r)
here_step test on change e x y ys there after rest false false t o f g =
    let r : find test ys ≡ Some e = rw t at f in
    let q : filter on ys ≡ x ∷ [] = rw o at g in
    let h : Here test on change e x ys = rest r q in
    (h.0, rw (t, o) h.1)

pub here : (test on : Entry → Bool) (change : Entry → Entry) (e x : Entry) (es : List Entry) → on e ≡ true → on (change e) ≡ true → find test es ≡ Some e → filter on es ≡ x ∷ [] → Here test on change e x es
here test on change e x [] there after f g = absurd (cc)
here test on change e x (y ∷ ys) there after f g = here_step test on change e x y ys there after (here test on change e x ys there after) (test y) (on y) refl refl f g

-- whatever passes isn't on the link
pub apart : (test on : Entry → Bool) (change : Entry → Entry) (es : List Entry) → ((e : Entry) → test e ≡ true → (on e ≡ false) × (on (change e) ≡ false)) → filter on (changed_first test change es) ≡ filter on es
apart test on change es off = by (find test es) refl where
  by : (o : Option Entry) → find test es ≡ o → filter on (changed_first test change es) ≡ filter on es
  by None f = ap (λ (zs : List Entry). filter on zs) (unchanged test change es f)
  by (Some e) f = let t : test e ≡ true = find_passes test e es f in away test on change e es (off e t).0 (off e t).1 f

-- it comes to the link
joins_step : (test on : Entry → Bool) (change : Entry → Entry) (e y : Entry) (ys : List Entry) → on (change e) ≡ true → (find test ys ≡ Some e → filter on ys ≡ [] → filter on (changed_first test change ys) ≡ change e ∷ [])
    → (b c : Bool) → test y ≡ b → on y ≡ c → find test (y ∷ ys) ≡ Some e → filter on (y ∷ ys) ≡ [] → filter on (changed_first test change (y ∷ ys)) ≡ change e ∷ []
joins_step test on change e y ys after rest b true t o f g = let q : y ∷ filter on ys ≡ [] = rw o at g in absurd (cc)
joins_step test on change e y ys after rest true false t o f g =
    let r : Some y ≡ Some e = rw t at f in
    let same : y ≡ e = some_is y e r in
    let q : filter on ys ≡ [] = rw o at g in
    let behind : on (change y) ≡ true = ap (λ (z : Entry). on (change z)) same ∙ after in
    rw (t, behind) (ap (λ (zs : List Entry). change y ∷ zs) q ∙ ap (λ (z : Entry). change z ∷ []) same)
joins_step test on change e y ys after rest false false t o f g =
    let r : find test ys ≡ Some e = rw t at f in
    let q : filter on ys ≡ [] = rw o at g in
    rw (t, o) (rest r q)

pub joins : (test on : Entry → Bool) (change : Entry → Entry) (e : Entry) (es : List Entry) → on (change e) ≡ true → find test es ≡ Some e → filter on es ≡ [] → filter on (changed_first test change es) ≡ change e ∷ []
joins test on change e [] after f g = absurd (cc)
joins test on change e (y ∷ ys) after f g = joins_step test on change e y ys after (joins test on change e ys after) (test y) (on y) refl refl f g

none_any_step : (on : Entry → Bool) (y : Entry) (ys : List Entry) → (list_any on ys ≡ false → filter on ys ≡ []) → (b : Bool) → on y ≡ b → list_any on (y ∷ ys) ≡ false → filter on (y ∷ ys) ≡ []
none_any_step on y ys rest true o e = let r : true ≡ false = rw o at e in absurd (cc)
none_any_step on y ys rest false o e = let r : list_any on ys ≡ false = rw o at e in rw o (rest r)

-- where none is on the link
pub none_any : (on : Entry → Bool) (es : List Entry) → list_any on es ≡ false → filter on es ≡ []
none_any on [] e = refl
none_any on (y ∷ ys) e = none_any_step on y ys (none_any on ys) (on y) refl e

-- ---- all of them are changed, or some go

map_step : (on : Entry → Bool) (g : Entry → Entry) (y : Entry) (ys : List Entry) → on (g y) ≡ on y → filter on (map g ys) ≡ map g (filter on ys) → (b : Bool) → on y ≡ b → filter on (map g (y ∷ ys)) ≡ map g (filter on (y ∷ ys))
map_step on g y ys same rest true o = let after : on (g y) ≡ true = same ∙ o in rw (o, after) (ap (λ (zs : List Entry). g y ∷ zs) rest)
map_step on g y ys same rest false o = let after : on (g y) ≡ false = same ∙ o in rw (o, after) rest

pub filter_map : (on : Entry → Bool) (g : Entry → Entry) (es : List Entry) → ((e : Entry) → on (g e) ≡ on e) → filter on (map g es) ≡ map g (filter on es)
filter_map on g [] same = refl
filter_map on g (y ∷ ys) same = map_step on g y ys (same y) (filter_map on g ys same) (on y) refl

both_step : (on keep : Entry → Bool) (y : Entry) (ys : List Entry) → filter on (filter keep ys) ≡ filter keep (filter on ys) → (b c : Bool) → on y ≡ b → keep y ≡ c → filter on (filter keep (y ∷ ys)) ≡ filter keep (filter on (y ∷ ys))
both_step on keep y ys rest true true o k = rw (o, k, o) (ap (λ (zs : List Entry). y ∷ zs) rest)
both_step on keep y ys rest true false o k = rw (o, k) rest
both_step on keep y ys rest false true o k = rw (o, k, o) rest
both_step on keep y ys rest false false o k = rw (o, k) rest

pub filter_both : (on keep : Entry → Bool) (es : List Entry) → filter on (filter keep es) ≡ filter keep (filter on es)
filter_both on keep [] = refl
filter_both on keep (y ∷ ys) = both_step on keep y ys (filter_both on keep ys) (on y) (keep y) refl refl

-- ---- links

-- an end on one link isn't on another
other_link : (link other : ℕ) → (other == link) ≡ false → (o : Option ℕ) → is_link other o ≡ true → is_link link o ≡ false
other_link link other e None t = refl
other_link link other e (Some l) t = let same : l ≡ other = eqb-true l other t in ap (λ (n : ℕ). n == link) same ∙ e

pub not_received : (link : ℕ) (e : Entry) → is_receiving e ≡ false → receives_on link e ≡ false
not_received link e f = and_left (is_receiving e) (is_link link e.link) f

pub not_sent : (link : ℕ) (e : Entry) → is_receiving e ≡ true → sends_on link e ≡ false
not_sent link e f = and_left (not (is_receiving e)) (is_link link e.link) (ap not f)

pub other_receives : (link other : ℕ) → (other == link) ≡ false → (e : Entry) → receives_on other e ≡ true → receives_on link e ≡ false
other_receives link other f e t = and_right (is_receiving e) (is_link link e.link) (other_link link other f e.link (both (is_receiving e) (is_link other e.link) t).1)

pub other_sends : (link other : ℕ) → (other == link) ≡ false → (e : Entry) → sends_on other e ≡ true → sends_on link e ≡ false
other_sends link other f e t = and_right (not (is_receiving e)) (is_link link e.link) (other_link link other f e.link (both (not (is_receiving e)) (is_link other e.link) t).1)

pub received_is : (link : ℕ) (e : Entry) → receives_on link e ≡ true → is_receiving e ≡ true
received_is link e t = (both (is_receiving e) (is_link link e.link) t).0

pub sent_is : (link : ℕ) (e : Entry) → sends_on link e ≡ true → is_receiving e ≡ false
sent_is link e t = not_is _ (both (not (is_receiving e)) (is_link link e.link) t).0

-- ---- one more end

pub append_off : (on : Entry → Bool) (e : Entry) (es : List Entry) → on e ≡ false → filter on (es ++ e ∷ []) ≡ filter on es
append_off on e es off =
    let none : filter on (e ∷ []) ≡ [] = (rw off refl) in
    filter-append on es (e ∷ []) ∙ ap (λ (xs : List Entry). filter on es ++ xs) none ∙ append-nil (filter on es)

pub append_on : (on : Entry → Bool) (e : Entry) (es : List Entry) → on e ≡ true → filter on es ≡ [] → filter on (es ++ e ∷ []) ≡ e ∷ []
append_on on e es there empty =
    let one : filter on (e ∷ []) ≡ e ∷ [] = (rw there refl) in
    filter-append on es (e ∷ []) ∙ ap (λ (xs : List Entry). xs ++ filter on (e ∷ [])) empty ∙ one
