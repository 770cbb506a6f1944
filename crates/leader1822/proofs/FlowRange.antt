-- The flows from a host are together in the order of flows.
use Rattle.leader1822.proofs.Common.{is_at, Ordering, Less, Equal, Greater, eq_by_cmp_equiv, Host, host_cmp, flow_cmp, IsNamed, Flow}
use Rattle.std.proofs.Common.{◌≡◌, ℕ, ◌≤◌, ◌==◌, nat_lt, Bool, true, false, not, ◌&&◌, List, [], ◌∷◌, filter, cond, Option, Some, None, IsSome, is_some, refl, ap, sym, ◌∙◌, arith}
use Rattle.std.specs.Option.{MatchOption}
use Rattle.std.specs.Ordering.{nat_cmp, ordering_then, is_lt, is_le, eq_by_cmp}
use Rattle.std.proofs.lemmas.Bool.Decides.{nat_tests}
use Rattle.interface.proofs.lemmas.{and_true, eq_flow, exact_hosts, flows_total, hosts_total, same_flow-true, value_at}

-- ---- what lies between the lowest and the highest flow from a host

abbrev pub lowest : Host → Flow
lowest h = record { source = h; destination = record { imp = 1; host = 0 }; link = record { 0 = 0 } }

abbrev pub highest : Host → Flow
highest h = record { source = h; destination = record { imp = 63; host = 3 }; link = record { 0 = 255 } }

abbrev pub is_between : Flow → Flow → Flow → Bool
is_between low high f = is_le (flow_cmp low f) && not (is_lt (flow_cmp high f))

equal_by : (o : Ordering) (a b : Ordering) → is_le (ordering_then o a) ≡ true → not (is_lt (ordering_then o b)) ≡ true → o ≡ Equal
equal_by Less a b low high = absurd (cc)
equal_by Equal a b low high = refl
equal_by Greater a b low high = absurd (cc)

pub between_source : (h : Host) (f : Flow) → is_between (lowest h) (highest h) f ≡ true → f.source ≡ h
between_source h f e =
    let t = and_true (is_le (flow_cmp (lowest h) f)) (not (is_lt (flow_cmp (highest h) f))) e in
    sym (exact_hosts h f.source (equal_by (host_cmp h f.source)
    (ordering_then (host_cmp (lowest h).destination f.destination) (nat_cmp 0 f.link.0)) (ordering_then (host_cmp (highest h).destination f.destination) (nat_cmp 255 f.link.0)) t.0 t.1))

le_then : (a b : Ordering) → is_le a ≡ true → is_le b ≡ true → is_le (ordering_then a b) ≡ true
le_then Less b e f = refl
le_then Equal b e f = f
le_then Greater b e f = absurd (cc)

ge_then : (a b : Ordering) → not (is_lt a) ≡ true → not (is_lt b) ≡ true → not (is_lt (ordering_then a b)) ≡ true
ge_then Less b e f = absurd (cc)
ge_then Equal b e f = f
ge_then Greater b e f = refl

le_cmp : (x y : ℕ) → x ≤ y → is_le (nat_cmp x y) ≡ true
le_cmp x y le = by (nat_lt x y) refl where
  by : (b : Bool) → nat_lt x y ≡ b → is_le (nat_cmp x y) ≡ true
  by true e = rw e refl
  by false e =
      let same : (x == y) ≡ true = grind (arith, nat_tests, le, e) in
      rw e (rw same refl)

ge_cmp : (x y : ℕ) → y ≤ x → not (is_lt (nat_cmp x y)) ≡ true
ge_cmp x y le = by (x == y) refl where
  less : nat_lt x y ≡ false
  less = grind (arith, nat_tests, le)

  by : (b : Bool) → (x == y) ≡ b → not (is_lt (nat_cmp x y)) ≡ true
  by true e = rw less (rw e refl)
  by false e = rw less (rw e refl)

itself : (h : Host) → host_cmp h h ≡ Equal
itself h = is_equal (host_cmp h h) ((eq_by_cmp_equiv hosts_total).refl h) where
  is_equal : (o : Ordering) → eq_by_cmp host_cmp h h ≡ true → host_cmp h h ≡ Equal
  is_equal o e = by (host_cmp h h) refl e where
    by : (p : Ordering) → host_cmp h h ≡ p → eq_by_cmp host_cmp h h ≡ true → host_cmp h h ≡ Equal
    by Less q e = absurd (let c : false ≡ true = rw q at e in cc)
    by Equal q e = q
    by Greater q e = absurd (let c : false ≡ true = rw q at e in cc)

named_low : (h : Host) (f : Flow) → IsNamed f → f.source ≡ h → is_le (flow_cmp (lowest h) f) ≡ true
named_low h f n s =
    let here : host_cmp h f.source ≡ Equal = ap (host_cmp h) s ∙ itself h in
    ap (λ (o : Ordering). is_le (ordering_then o (ordering_then (host_cmp (lowest h).destination f.destination) (nat_cmp 0 f.link.0)))) here
    ∙ le_then (host_cmp (lowest h).destination f.destination) (nat_cmp 0 f.link.0)
    (le_then (nat_cmp 1 f.destination.imp) (nat_cmp 0 f.destination.host) (le_cmp 1 f.destination.imp n.destination.imp_from) (le_cmp 0 f.destination.host (omega arith)))
    (le_cmp 0 f.link.0 (omega arith))

named_high : (h : Host) (f : Flow) → IsNamed f → f.source ≡ h → not (is_lt (flow_cmp (highest h) f)) ≡ true
named_high h f n s =
    let here : host_cmp h f.source ≡ Equal = ap (host_cmp h) s ∙ itself h in
    ap (λ (o : Ordering). not (is_lt (ordering_then o (ordering_then (host_cmp (highest h).destination f.destination) (nat_cmp 255 f.link.0))))) here
    ∙ ge_then (host_cmp (highest h).destination f.destination) (nat_cmp 255 f.link.0)
    (ge_then (nat_cmp 63 f.destination.imp) (nat_cmp 3 f.destination.host) (ge_cmp 63 f.destination.imp n.destination.imp_to) (ge_cmp 3 f.destination.host n.destination.host_to))
    (ge_cmp 255 f.link.0 n.link)

pub named_between : (h : Host) (f : Flow) → IsNamed f → f.source ≡ h → is_between (lowest h) (highest h) f ≡ true
named_between h f n s = rw (named_low h f n s, named_high h f n s) refl

-- ---- entries that are between

pub none_between : {V : Type 0} (test : Flow → Bool) (es : List (Flow × V)) → filter (λ e. test e.0) es ≡ [] → (f : Flow) → test f ≡ true → value_at es f ≡ None
none_between test [] none f e = refl
none_between {V} test (d ∷ es) none f e = by (test d.0) refl (none_between test es) (is_at (flow_cmp f) d.0) refl where
  by : (b : Bool) → test d.0 ≡ b → (filter (λ x. test x.0) es ≡ [] → (g : Flow) → test g ≡ true → value_at es g ≡ None) → (a : Bool) → is_at (flow_cmp f) d.0 ≡ a → value_at (d ∷ es) f ≡ None
  by true t others a at = absurd (let c : d ∷ filter (λ x. test x.0) es ≡ [] = rw t at none in cc)
  by false t others true at =
      let same : f ≡ d.0 = same_flow-true f d.0 (sym (eq_flow f d.0) ∙ at) in
      absurd (let c : true ≡ false = sym e ∙ ap test same ∙ t in cc)
  by false t others false at = rw at (others (rw t at none) f e)

pub record IsThere {V : Type 0} (test : Flow → Bool) (es : List (Flow × V)) (f : Flow) : Type 0 where
  pub passes : test f ≡ true
  pub known : IsSome (value_at es f)

pub some_between : {V : Type 0} (test : Flow → Bool) (es : List (Flow × V)) (x : Flow × V) (xs : List (Flow × V)) → filter (λ e. test e.0) es ≡ x ∷ xs → IsThere test es x.0
some_between test [] x xs e = absurd (cc)
some_between {V} test (d ∷ es) x xs e = by (test d.0) refl (some_between test es x xs) where
  by : (b : Bool) → test d.0 ≡ b → (filter (λ z. test z.0) es ≡ x ∷ xs → IsThere test es x.0) → IsThere test (d ∷ es) x.0
  by true t others =
      let whole : d ∷ filter (λ z. test z.0) es ≡ x ∷ xs = rw t at e in
      let same : d ≡ x = cc in
      let here : is_at (flow_cmp x.0) d.0 ≡ true = ap (λ (z : Flow × V). is_at (flow_cmp x.0) z.0) same ∙ (eq_by_cmp_equiv flows_total).refl x.0 in
      record { passes = ap (λ (z : Flow × V). test z.0) (sym same) ∙ t; known = ap (λ (b : Bool). is_some (cond b (Some d.1) (value_at es x.0))) here }
  by false t others =
      let r : IsThere test es x.0 = others (rw t at e) in
      record { passes = r.passes; known = still (is_at (flow_cmp x.0) d.0) r.known } where
        still : (b : Bool) → IsSome (value_at es x.0) → IsSome (cond b (Some d.1) (value_at es x.0))
        still true k = refl
        still false k = k

-- ---- the answer of a test by cases

pub is_one : {A : Type 0} (P : Type 0) (Q : A → Type 0) (r : Option A) → MatchOption r P Q → is_some r ≡ true → (x : A) × Q x
is_one P Q (Some x) m e = (x, m)
is_one P Q None m e = absurd (cc)

pub is_no : {A : Type 0} (P : Type 0) (Q : A → Type 0) (r : Option A) → MatchOption r P Q → is_some r ≡ false → P
is_no P Q (Some x) m e = absurd (cc)
is_no P Q None m e = m
