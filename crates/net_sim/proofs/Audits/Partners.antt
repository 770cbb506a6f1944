-- The test of partners is true exactly where they are safe, in a book whose stamps name messages.
use Rattle.net_sim.proofs.Common.{◌≡◌, ℕ, ◌+◌, ◌<◌, ◌==◌, Bool, ◌&&◌, ◌||◌, List, [], ◌∷◌, ◌++◌, length, take, drop, get_or, refl, ap, sym, subst, ◌∙◌, inl, inr, ◌⊎◌, Option, Some, None, arith, eq-eqb, is_none, list_all, Contains, eqb-true, take-append-drop, take_more, same_host, Flow, Crossing, HostMessage, and_true, IsStamped, Life, AreAtPeace, AreStamped, is_place, same_own, same_asked, may_both, partners_hold, FoundTwo, AreTwo, SafePartners, control_flow, own_request, partner_request}
use Rattle.std.proofs.Common.{true, false}
use Rattle.std.proofs.lemmas.Option.{slice_get_read}
use Rattle.std.proofs.lemmas.List.{append_assoc}
use Rattle.std.proofs.lemmas.List.Elements.{Contains-append_left, Contains-append_right}
use Rattle.std.proofs.lemmas.List.Folds.{list_all-append}
use Rattle.interface.specs.declared.crossing.Crossing.TheVariants as crossing
use Rattle.net_sim.specs.Inside.Audit.{asked_at, are_mates, differ, is_one_way, are_at_odds, Found}
use Rattle.std.proofs.lemmas.Bool.{and_from, false_from_ne_true, or_cases}
use Rattle.net_sim.proofs.Audits.Elements.{all_at, all_fewer, all_from, false_not, contains_cases, contains_head, contains_none, contains_split, contains_take, none_of, not_is}
use Rattle.net_sim.proofs.Audits.Requests.{WentAt, asked_is, asked_true, asked_went, crossed_one, named_is, named_some, own_is, own_true, place_is, place_true, same_host-is, some_named}

-- ---- two lives

two_first : (x : Life) (lives : List Life) (y : Life) → Contains lives y → AreTwo (x ∷ lives) x y
two_first x lives y c = let s = contains_split lives y c in ([], s.0, s.1, ap (λ (zs : List Life). x ∷ zs) s.2)

two_later : (z : Life) (lives : List Life) (x y : Life) → AreTwo lives x y → AreTwo (z ∷ lives) x y
two_later z lives x y (front, between, rest, e) = (z ∷ front, between, rest, ap (λ (zs : List Life). z ∷ zs) e)

two_there : (lives : List Life) (x y : Life) → AreTwo lives x y → Contains lives x × Contains lives y
two_there lives x y (front, between, rest, e) = (
  subst (λ (zs : List Life). Contains zs x) (sym e) (Contains-append_left (front ++ x ∷ between) (y ∷ rest) x (Contains-append_right front (x ∷ between) x (contains_head x between))),
  subst (λ (zs : List Life). Contains zs y) (sym e) (Contains-append_right (front ++ x ∷ between) (y ∷ rest) y (contains_head y rest)),
)

-- two that are there are one, or are at two places in one order or the other
two_of : (lives : List Life) (x y : Life) → Contains lives x → Contains lives y → (x ≡ y) ⊎ (AreTwo lives x y ⊎ AreTwo lives y x)
two_of [] x y c d = absurd (contains_none x c)
two_of (z ∷ lives) x y c d = elim (contains_cases z lives x c) [
  | inl e ↦
      elim (contains_cases z lives y d) [
        | inl f ↦ inl (sym e ∙ f)
        | inr t ↦ inr (inl (subst (λ (w : Life). AreTwo (w ∷ lives) x y) (sym e) (two_first x lives y t)))
      ]
  | inr s ↦
      elim (contains_cases z lives y d) [
        | inl f ↦ inr (inr (subst (λ (w : Life). AreTwo (w ∷ lives) y x) (sym f) (two_first y lives x s)))
        | inr t ↦
            elim (two_of lives x y s t) [
              | inl e ↦ inl e
              | inr b ↦
                  elim b [
                    | inl two ↦ inr (inl (two_later z lives x y two))
                    | inr two ↦ inr (inr (two_later z lives y x two))
                  ]
            ]
      ]
]

may_in : (log : List Crossing) (front between rest : List Life) (x y : Life) → partners_hold log (front ++ x ∷ between ++ y ∷ rest) ≡ true → may_both log x y ≡ true
may_in log [] between rest x y h =
    let t = and_true (list_all (may_both log x) (between ++ y ∷ rest)) (partners_hold log (between ++ y ∷ rest)) h in
    all_at (may_both log x) (between ++ y ∷ rest) t.0 y (Contains-append_right between (y ∷ rest) y (contains_head y rest))
may_in log (z ∷ front) between rest x y h =
    may_in log front between rest x y (and_true (list_all (may_both log z) (front ++ x ∷ between ++ y ∷ rest)) (partners_hold log (front ++ x ∷ between ++ y ∷ rest)) h).1

may_two : (log : List Crossing) (lives : List Life) → partners_hold log lives ≡ true → (x y : Life) → AreTwo lives x y → may_both log x y ≡ true
may_two log lives h x y (front, between, rest, e) =
    let P : List Life → Type 0 = λ z. partners_hold log z ≡ true in may_in log front between rest x y (subst P e h)

all_may : (log : List Crossing) (lives : List Life) → ((x y : Life) → AreTwo lives x y → may_both log x y ≡ true) → partners_hold log lives ≡ true
all_may log [] f = refl
all_may log (x ∷ lives) f =
    and_from (list_all (may_both log x) lives) (partners_hold log lives) (all_from (may_both log x) lives (λ y c. f x y (two_first x lives y c)))
    (all_may log lives (λ a b t. f a b (two_later x lives a b t)))

-- ---- the hosts of two lives one of which has the other's request

-- where the partner's request of a life is another's own, the two have each other's hosts
asks_hosts : (log : List Crossing) (x y : Life) → IsStamped log y → partner_request log x ≡ Some (own_request y) → (x.peer ≡ y.host) × (y.peer ≡ x.host)
asks_hosts log x y s e =
    let v : WentAt (control_flow x.peer x.host) y.own_stamp log = asked_went log x y.own_stamp (named_some x (asked_at log x) (own_request y) e).0 in
    let o : crossing.Out v.0 ≡ crossing.Out s.own.0 = crossed_one y.own_stamp (crossing.Out v.0) (crossing.Out s.own.0) log v.2 s.own.2 in
    let m : v.0 ≡ s.own.0 = cc in
    let f : control_flow x.peer x.host ≡ control_flow y.host y.peer = sym v.1 ∙ ap (λ (n : HostMessage). n.flow) m ∙ s.own.1 in
    (ap (λ (g : Flow). g.source) f, sym (ap (λ (g : Flow). g.destination) f))

mates_is : (x y : Life) → x.foreign ≡ y.socket → x.socket ≡ y.foreign → x.peer ≡ y.host → y.peer ≡ x.host → are_mates x y ≡ true
mates_is x y f s p q =
    and_from (x.foreign == y.socket && x.socket == y.foreign && same_host x.peer y.host) (same_host y.peer x.host)
    (and_from (x.foreign == y.socket && x.socket == y.foreign) (same_host x.peer y.host)
    (and_from (x.foreign == y.socket) (x.socket == y.foreign) (eq-eqb x.foreign y.socket f) (eq-eqb x.socket y.foreign s)) (same_host-is x.peer y.host p))
    (same_host-is y.peer x.host q)

mates_sockets : (x y : Life) → are_mates x y ≡ true → (x.foreign ≡ y.socket) × (x.socket ≡ y.foreign)
mates_sockets x y h =
    let t = and_true (x.foreign == y.socket && x.socket == y.foreign && same_host x.peer y.host) (same_host y.peer x.host) h in
    let u = and_true (x.foreign == y.socket && x.socket == y.foreign) (same_host x.peer y.host) t.0 in
    let v = and_true (x.foreign == y.socket) (x.socket == y.foreign) u.0 in
    (eqb-true x.foreign y.socket v.0, eqb-true x.socket y.foreign v.1)

place_of : (log : List Crossing) (x y : Life) → partner_request log x ≡ Some (own_request y) → is_place y.own_stamp (asked_at log x) ≡ true
place_of log x y e = place_is y.own_stamp (asked_at log x) (named_some x (asked_at log x) (own_request y) e).0

asks_at : (log : List Crossing) (x y : Life) → x.foreign ≡ y.socket → x.socket ≡ y.foreign → is_place y.own_stamp (asked_at log x) ≡ true → partner_request log x ≡ Some (own_request y)
asks_at log x y f s e = named_is x (asked_at log x) (own_request y) (place_true y.own_stamp (asked_at log x) e) f s

differ_forth : (a b : Bool) → (differ a b ≡ true → ⊥) → a ≡ true → b ≡ true
differ_forth true true n e = refl
differ_forth true false n e = absurd (n refl)
differ_forth false b n e = absurd (cc)

differ_back : (a b : Bool) → (differ a b ≡ true → ⊥) → b ≡ true → a ≡ true
differ_back true b n e = refl
differ_back false true n e = absurd (n refl)
differ_back false false n e = absurd (cc)

differ_none : (a b : Bool) → (a ≡ true → b ≡ true) → (b ≡ true → a ≡ true) → differ a b ≡ true → ⊥
differ_none true true f g h = cc
differ_none true false f g h = let e : false ≡ true = f refl in cc
differ_none false true f g h = let e : false ≡ true = g refl in cc
differ_none false false f g h = cc

-- ---- from the test

safe : (log : List Crossing) (lives : List Life) → AreStamped log lives → partners_hold log lives ≡ true → SafePartners log lives
safe log lives stamped h =
    let apart : (x y : Life) → AreTwo lives x y → (same_own x y ≡ true → ⊥) × (same_asked log (asked_at log y) x y ≡ true → ⊥) × (is_one_way log (asked_at log y) x y ≡ true → ⊥) =
    λ x y two. none_of (same_own x y) (same_asked log (asked_at log y) x y) (is_one_way log (asked_at log y) x y) (may_two log lives h x y two) in
    let same : (x y : Life) → AreTwo lives x y → are_mates x y ≡ true → differ (is_place y.own_stamp (asked_at log x)) (is_place x.own_stamp (asked_at log y)) ≡ true → ⊥ =
    λ x y two mates d. (apart x y two).2 (and_from (are_mates x y) (differ (is_place y.own_stamp (asked_at log x)) (is_place x.own_stamp (asked_at log y))) mates d) in
    let forth : (x y : Life) → AreTwo lives x y → partner_request log x ≡ Some (own_request y) → partner_request log y ≡ Some (own_request x) =
    λ x y two e.
    (let n = named_some x (asked_at log x) (own_request y) e in
    let hosts = asks_hosts log x y (stamped y (two_there lives x y two).1) e in
    asks_at log y x (sym n.2) (sym n.1)
    (differ_forth (is_place y.own_stamp (asked_at log x)) (is_place x.own_stamp (asked_at log y)) (same x y two (mates_is x y n.1 n.2 hosts.0 hosts.1)) (place_of log x y e))) in
    let back : (x y : Life) → AreTwo lives y x → partner_request log x ≡ Some (own_request y) → partner_request log y ≡ Some (own_request x) =
    λ x y two e.
    (let n = named_some x (asked_at log x) (own_request y) e in
    let hosts = asks_hosts log x y (stamped y (two_there lives y x two).0) e in
    asks_at log y x (sym n.2) (sym n.1)
    (differ_back (is_place x.own_stamp (asked_at log y)) (is_place y.own_stamp (asked_at log x)) (same y x two (mates_is y x (sym n.2) (sym n.1) hosts.1 hosts.0)) (place_of log x y e))) in
    record {
      own_once = λ x y two e. (apart x y two).0 (own_is x y e);
      partner_once = λ x y name two e f. (apart x y two).1 (asked_is log x y name e f);
      named = λ x c. some_named x (asked_at log x) (stamped x c).asked;
      peers = λ x y c d e. asks_hosts log x y (stamped y d) e;
      both_ways = λ x y c d e.
          elim (two_of lives x y c d) [
            | inl one ↦
                subst (λ (z : Life). partner_request log z ≡ Some (own_request x)) one (subst (λ (z : Life). partner_request log x ≡ Some (own_request z)) (sym one) e)
            | inr two ↦
                elim two [
                  | inl t ↦ forth x y t e
                  | inr t ↦ back x y t e
                ]
          ];
    }

-- ---- to the test

holds : (log : List Crossing) (lives : List Life) → SafePartners log lives → partners_hold log lives ≡ true
holds log lives s =
    all_may log lives
    (λ x y two.
    not_is (are_at_odds log (asked_at log y) x y)
    (λ e.
    elim (or_cases (same_own x y || same_asked log (asked_at log y) x y) (is_one_way log (asked_at log y) x y) e) [
      | inl o ↦
          elim (or_cases (same_own x y) (same_asked log (asked_at log y) x y) o) [
            | inl own ↦ s.own_once x y two (own_true x y own)
            | inr asked ↦ (let n = asked_true log x y asked in s.partner_once x y n.0 two n.1 n.2)
          ]
      | inr one ↦
          (let t = and_true (are_mates x y) (differ (is_place y.own_stamp (asked_at log x)) (is_place x.own_stamp (asked_at log y))) one in
          let m = mates_sockets x y t.0 in
          let there = two_there lives x y two in
          differ_none (is_place y.own_stamp (asked_at log x)) (is_place x.own_stamp (asked_at log y))
          (λ a. place_of log y x (s.both_ways x y there.0 there.1 (asks_at log x y m.0 m.1 a)))
          (λ b. place_of log x y (s.both_ways y x there.1 there.0 (asks_at log y x (sym m.1) (sym m.0) b))) t.1)
    ]))

-- the test of partners is true exactly where they are safe
pub partners_decide : (log : List Crossing) (lives : List Life) → AreStamped log lives → (partners_hold log lives ≡ true → SafePartners log lives) × (SafePartners log lives → partners_hold log lives ≡ true)
partners_decide log lives stamped = (safe log lives stamped, holds log lives)

-- and of one life beside others
pub peace_decides : (log : List Crossing) (lives : List Life) (y : Life) → AreStamped log lives → IsStamped log y
    → (list_all (λ x. may_both log x y) lives ≡ true → AreAtPeace log lives y) × (AreAtPeace log lives y → list_all (λ x. may_both log x y) lives ≡ true)
peace_decides log lives y stamped here = (
  λ h x c.
      safe log (x ∷ y ∷ [])
      (λ z d.
      elim (contains_cases x (y ∷ []) z d) [
        | inl e ↦ subst (λ (w : Life). IsStamped log w) e (stamped x c)
        | inr t ↦
            elim (contains_cases y [] z t) [
              | inl e ↦ subst (λ (w : Life). IsStamped log w) e here
              | inr n ↦ absurd (contains_none z n)
            ]
      ])
      (and_from (may_both log x y && true) (true && true) (and_from (may_both log x y) true (all_at (λ z. may_both log z y) lives h x c) refl) refl),
  λ p.
      all_from (λ x. may_both log x y) lives
      (λ x c. (and_true (may_both log x y) true (and_true (may_both log x y && true) (true && true) (holds log (x ∷ y ∷ []) (p x c))).0).0),
)

-- ---- the first lives

take_stamped : (log : List Crossing) (lives : List Life) (n : ℕ) → AreStamped log lives → AreStamped log (take n lives)
take_stamped log lives n stamped = λ x c. stamped x (contains_take n lives x c)

pub partners_at : (log : List Crossing) (lives : List Life) → AreStamped log lives → (n : ℕ)
    → (partners_hold log (take n lives) ≡ true → SafePartners log (take n lives)) × (SafePartners log (take n lives) → partners_hold log (take n lives) ≡ true)
partners_at log lives stamped n = partners_decide log (take n lives) (take_stamped log lives n stamped)

pub peace_at : (log : List Crossing) (lives : List Life) (y : Life) → AreStamped log lives → IsStamped log y → (n : ℕ)
    → (list_all (λ x. may_both log x y) (take n lives) ≡ true → AreAtPeace log (take n lives) y) × (AreAtPeace log (take n lives) y → list_all (λ x. may_both log x y) (take n lives) ≡ true)
peace_at log lives y stamped here n = peace_decides log (take n lives) y (take_stamped log lives n stamped) here

-- ---- the search

two_taken : (n : ℕ) (lives : List Life) (x y : Life) → AreTwo (take n lives) x y → AreTwo lives x y
two_taken n lives x y (front, between, rest, e) = (
  front,
  between,
  rest ++ drop n lives,
  sym (take-append-drop n lives) ∙ ap (λ (zs : List Life). zs ++ drop n lives) e ∙ append_assoc (front ++ x ∷ between) (y ∷ rest) (drop n lives),
)

pub partners_take : (log : List Crossing) (n : ℕ) (lives : List Life) → partners_hold log lives ≡ true → partners_hold log (take n lives) ≡ true
partners_take log n lives h =
    all_may log (take n lives) (λ x y two. may_two log lives h x y (two_taken n lives x y two))

-- one life more at the end
last_true : (log : List Crossing) (lives : List Life) (y : Life) → partners_hold log lives ≡ true → list_all (λ x. may_both log x y) lives ≡ true → partners_hold log (lives ++ y ∷ []) ≡ true
last_true log [] y h k = refl
last_true log (x ∷ lives) y h k =
    let t = and_true (list_all (may_both log x) lives) (partners_hold log lives) h in
    let u = and_true (may_both log x y) (list_all (λ z. may_both log z y) lives) k in
    and_from (list_all (may_both log x) (lives ++ y ∷ [])) (partners_hold log (lives ++ y ∷ []))
    (list_all-append (may_both log x) lives (y ∷ []) ∙ and_from (list_all (may_both log x) lives) (may_both log x y && true) t.0 (and_from (may_both log x y) true u.0 refl))
    (last_true log lives y t.1 u.1)

last_back : (log : List Crossing) (lives : List Life) (y : Life) → partners_hold log (lives ++ y ∷ []) ≡ true → list_all (λ x. may_both log x y) lives ≡ true
last_back log [] y h = refl
last_back log (x ∷ lives) y h =
    let t = and_true (list_all (may_both log x) (lives ++ y ∷ [])) (partners_hold log (lives ++ y ∷ [])) h in
    and_from (may_both log x y) (list_all (λ z. may_both log z y) lives) (all_at (may_both log x) (lives ++ y ∷ []) t.0 y (Contains-append_right lives (y ∷ []) y (contains_head y [])))
    (last_back log lives y t.1)

pub partners_more : (log : List Crossing) (lives : List Life) (i : ℕ) (y : Life) → i < length lives → y ≡ get_or lives i y → partners_hold log (take i lives) ≡ true
    → list_all (λ x. may_both log x y) (take i lives) ≡ true → partners_hold log (take (i + 1) lives) ≡ true
partners_more log lives i y lt at h k =
    let more : take (i + 1) lives ≡ take i lives ++ y ∷ [] = take_more lives i y lt ∙ ap (λ (z : Life). take i lives ++ z ∷ []) (sym at) in
    subst (λ (zs : List Life). partners_hold log zs ≡ true) (sym more) (last_true log (take i lives) y h k)

pub partners_end : (log : List Crossing) (lives : List Life) (i : ℕ) (y : Life) → i < length lives → y ≡ get_or lives i y → list_all (λ x. may_both log x y) (take i lives) ≡ false
    → partners_hold log (take (i + 1) lives) ≡ false
partners_end log lives i y lt at k =
    let more : take (i + 1) lives ≡ take i lives ++ y ∷ [] = take_more lives i y lt ∙ ap (λ (z : Life). take i lives ++ z ∷ []) (sym at) in
    false_from_ne_true (partners_hold log (take (i + 1) lives))
    (λ t. (let back : list_all (λ x. may_both log x y) (take i lives) ≡ true = last_back log (take i lives) y (subst (λ (zs : List Life). partners_hold log zs ≡ true) more t) in cc))

pub two_found : (log : List Crossing) (lives : List Life) (second first : ℕ) (y : Life) → second < length lives → y ≡ get_or lives second y → partners_hold log (take second lives) ≡ true
    → Found (λ n. list_all (λ x. may_both log x y) (take n lives)) second (Some first) → FoundTwo log lives (Some (first, second))
two_found log lives second first y lt at h f =
    let odds : list_all (λ x. may_both log x y) (take second lives) ≡ false =
    false_from_ne_true (list_all (λ x. may_both log x y) (take second lives))
    (λ t. false_not (list_all (λ x. may_both log x y) (take (first + 1) lives)) f.2 (all_fewer (λ x. may_both log x y) (first + 1) second lives (omega (arith, f.0)) t)) in
    ((lt, h, partners_end log lives second y lt at odds), (y, slice_get_read lives (length lives) second y refl lt at, f))

-- nothing is found exactly where the test is true
pub none_two : (log : List Crossing) (lives : List Life) (r : Option (ℕ × ℕ)) → FoundTwo log lives r → is_none r ≡ partners_hold log lives
none_two log lives None h = sym h
none_two log lives (Some at) h = sym (false_from_ne_true (partners_hold log lives) (λ t. false_not (partners_hold log (take (at.1 + 1) lives)) h.0.2 (partners_take log (at.1 + 1) lives t)))
