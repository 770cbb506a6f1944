-- An IMP stops.
use Rattle.subnet.proofs.Common.{list_any, or_right, Crossing, State, HostState, no_host, at_set, downs_from, downs_at}
use Rattle.std.proofs.Common.{◌≡◌, ℕ, ◌+◌, zero, suc, Bool, true, false, List, [], ◌∷◌, ◌++◌, drop, reverse, get_or, set, Option, Some, None, ◌||◌, refl, ap, sym, subst, ◌∙◌, ◌≤◌, ◌<◌, length, arith, append_assoc, append-nil}
use Rattle.std.specs.Prelude.{if◌then◌else◌}
use Rattle.std.proofs.lemmas.List.{reverse-append, reverse-reverse, length-reverse}
use Rattle.interface.specs.declared.crossing.Crossing.TheVariants as crossing
use Rattle.subnet.specs.Calls.{grows_at, has_host_up}
use Rattle.subnet.specs.Inside.Calling.{IsLive, AreLive, down_of, downs_in_order}

pub stopped_lives : (imps : List (Option State)) (i : ℕ) → AreLive imps → AreLive (set imps i None)
stopped_lives imps i live = λ h. at_set IsLive imps i h None None (live h) tt

drop_past : (hosts : List HostState) (k : ℕ) → length hosts ≤ k → drop k hosts ≡ []
drop_past [] zero past = refl
drop_past [] (suc k) past = refl
drop_past (h ∷ hosts) zero past = absurd (omega arith)
drop_past (h ∷ hosts) (suc k) past = drop_past hosts k (omega arith)

-- a list of crossings after the log, which the definitions have newest first
pub all_crossed : (log items downs : List Crossing) → items ≡ reverse downs → reverse (log ++ items) ≡ downs ++ reverse log
all_crossed log items downs is =
    ap (λ (xs : List Crossing). reverse (log ++ xs)) is
    ∙ reverse-append log (reverse downs)
    ∙ ap (λ (xs : List Crossing). xs ++ reverse log) (reverse-reverse downs)

reverse_one : (c : Crossing) (b : Bool) → reverse (if b then c ∷ [] else []) ≡ (if b then c ∷ [] else [])
reverse_one c true = refl
reverse_one c false = refl

-- the order of the code
pub in_order_is : (i k : ℕ) (hosts : List HostState) → reverse (downs_from i k hosts) ≡ downs_in_order i k hosts
in_order_is i k [] = refl
in_order_is i k (h ∷ hosts) =
    reverse-append (downs_from i (k + 1) hosts) (down_of i k h)
    ∙ ap (λ (xs : List Crossing). xs ++ reverse (downs_from i (k + 1) hosts)) (reverse_one _ h.up)
    ∙ ap (λ (xs : List Crossing). down_of i k h ++ xs) (in_order_is i (k + 1) hosts)

-- the hosts from one on: that one, and then the others; none is past the end
more_from : (hosts : List HostState) (i n k : ℕ) → downs_in_order i n (drop k hosts) ≡ down_of i n (get_or hosts k no_host) ++ downs_in_order i (n + 1) (drop (suc k) hosts)
more_from [] i n zero = refl
more_from [] i n (suc k) = refl
more_from (h ∷ hosts) i n zero = refl
more_from (h ∷ hosts) i n (suc k) = more_from hosts i n k

pub one_more : (hosts : List HostState) (i k : ℕ) (items : List Crossing) → (items ++ down_of i k (get_or hosts k no_host)) ++ downs_in_order i (k + 1) (drop (k + 1) hosts) ≡ items ++ downs_in_order i k (drop k hosts)
one_more hosts i k items =
    let next : k + 1 ≡ suc k = omega arith in
    append_assoc items (down_of i k (get_or hosts k no_host)) (downs_in_order i (k + 1) (drop (k + 1) hosts))
    ∙ ap (λ (n : ℕ). items ++ (down_of i k (get_or hosts k no_host) ++ downs_in_order i (k + 1) (drop n hosts))) next
    ∙ ap (λ (xs : List Crossing). items ++ xs) (sym (more_from hosts i k k))

-- past the last one
pub no_more : (hosts : List HostState) (i k : ℕ) (items : List Crossing) → length hosts ≤ k → items ++ downs_in_order i k (drop k hosts) ≡ items
no_more hosts i k items past =
    ap (λ (xs : List HostState). items ++ downs_in_order i k xs) (drop_past hosts k past) ∙ append-nil items

-- ---- memory

-- a host that is up is one of those that go down
pub up_among : (hosts : List HostState) (k : ℕ) → (get_or hosts k no_host).up ≡ true → list_any (λ host. host.up) hosts ≡ true
up_among [] k up = cc
up_among (h ∷ hosts) zero up = rw up refl
up_among (h ∷ hosts) (suc k) up = or_right h.up _ (up_among hosts k up)

-- and where one goes down, one was up
one_up : (b : Bool) (c : Crossing) (xs : List Crossing) (others : Bool) → (0 < length xs → others ≡ true) → 0 < length (xs ++ (if b then c ∷ [] else [])) → (b || others) ≡ true
one_up true c xs others later some = refl
one_up false c xs others later some = later (subst (λ (ys : List Crossing). 0 < length ys) (append-nil xs) some)

some_up : (i k : ℕ) (hosts : List HostState) → 0 < length (downs_from i k hosts) → list_any (λ host. host.up) hosts ≡ true
some_up i k [] some = absurd (omega arith)
some_up i k (h ∷ hosts) some = one_up h.up _ _ _ (some_up i (k + 1) hosts) some

pub crossed_up : (o : Option State) (i : ℕ) (items : List Crossing) → items ≡ reverse (downs_at i o) → 0 < length items → grows_at o has_host_up ≡ true
crossed_up None i items is some = let none : length items ≡ 0 = ap length is in absurd (omega arith)
crossed_up (Some s) i items is some =
    let same : length items ≡ length (downs_from i 0 s.hosts) = ap length is ∙ length-reverse (downs_from i 0 s.hosts) in
    some_up i 0 s.hosts (omega arith)
