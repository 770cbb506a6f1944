-- The first line of a trace determines the network.
use Rattle.trace.proofs.Common.{nat_tests, All-cons, All-nil, decimal, All, list_all, bytes_eq, and_parts, SameCut, unmarked_where, Lacks, IsShort}
use Rattle.std.proofs.Common.{◌≡◌, ℕ, ◌≤◌, ◌==◌, ◌&&◌, nat_le, Bool, true, false, List, [], ◌∷◌, ◌++◌, codes, if◌then◌else◌, map, refl, sym, ap, ◌∙◌, arith}
use Rattle.topology.specs.Topology.{IsTopology, TopologyFields, is_imp, is_line, is_there}
use Rattle.topology.specs.declared.network.CarrierKind.{CarrierKind}
use Rattle.topology.specs.declared.network.CarrierKind.TheVariants as kind
use Rattle.topology.specs.declared.network.ImpHosts.{ImpHosts}
use Rattle.topology.specs.declared.network.LineEnds.{LineEnds}
use Rattle.trace.specs.Texts.{array, bool_text, carrier_word, ends_text, further, member, opening_line, pair_text, quoted, site_text}
use Rattle.trace.proofs.Closed.{IsClosed, Spelled, array_closed, array_once, first_same, is_plain, lists_spelled, member_closed, member_once, one_front, plain_closed, quoted_once, rest_same, string_closed}
use Rattle.trace.proofs.Decimals.{decimal_closed, short_once}

-- ---- values

record ArePair (a b c d : ℕ) : Type 0 where
  first : a ≡ c
  second : b ≡ d

two_closed : (a b : ℕ) → All IsClosed (decimal a ∷ decimal b ∷ [])
two_closed a b = All-cons IsClosed (decimal a) (decimal b ∷ []) (decimal_closed a) (All-cons IsClosed (decimal b) [] (decimal_closed b) (All-nil IsClosed))

pair_once : (a b c d : ℕ) → IsShort a → IsShort b → IsShort c → IsShort d → pair_text a b ≡ pair_text c d → ArePair a b c d
pair_once a b c d p q r s e =
    let both = array_once (decimal a ∷ decimal b ∷ []) (decimal c ∷ decimal d ∷ []) (two_closed a b) (two_closed c d) e in
    record { first = short_once a c p r (first_same both); second = short_once b d q s (first_same (rest_same both)) }

record IsSite (i : ImpHosts) : Type 0 where
  imp : IsShort i.imp
  hosts : IsShort i.hosts

site_spelled : Spelled site_text IsSite
site_spelled = record { closed = λ i is. array_closed (decimal i.imp ∷ decimal i.hosts ∷ []) (two_closed i.imp _); once = once } where
  once : (i j : ImpHosts) → IsSite i → IsSite j → site_text i ≡ site_text j → i ≡ j
  once i j p q e =
      let same = pair_once i.imp _ j.imp _ p.imp p.hosts q.imp q.hosts e in
      λ k. record { imp = same.first k; hosts = same.second k }

record IsEnds (l : LineEnds) : Type 0 where
  a : IsShort l.a
  b : IsShort l.b

ends_spelled : Spelled ends_text IsEnds
ends_spelled = record { closed = λ l is. array_closed (decimal l.a ∷ decimal l.b ∷ []) (two_closed l.a l.b); once = once } where
  once : (l m : LineEnds) → IsEnds l → IsEnds m → ends_text l ≡ ends_text m → l ≡ m
  once l m p q e =
      let same = pair_once l.a l.b m.a m.b p.a p.b q.a q.b e in
      λ k. record { a = same.first k; b = same.second k }

-- ---- a topology's numbers are short

site_is : (i : ImpHosts) → is_imp i ≡ true → IsSite i
site_is i h =
    let one = and_parts (nat_le 1 i.imp) (nat_le i.imp 63 && nat_le i.hosts 4) h in
    let two = and_parts (nat_le i.imp 63) (nat_le i.hosts 4) one.1 in
    let imp : i.imp ≤ 63 = grind (arith, nat_tests) in
    let hosts : i.hosts ≤ 4 = grind (arith, nat_tests) in
    record { imp = omega (arith, imp); hosts = omega (arith, hosts) }

sites_are : (is : List ImpHosts) → list_all is_imp is ≡ true → All IsSite is
sites_are [] h = All-nil IsSite
sites_are (i ∷ is) h = by (λ k. sites_are is k) (is_imp i) refl h where
  by : (list_all is_imp is ≡ true → All IsSite is) → (b : Bool) → is_imp i ≡ b → list_all is_imp (i ∷ is) ≡ true → All IsSite (i ∷ is)
  by more true e all = All-cons IsSite i is (site_is i e) (more (rw e at all))
  by more false e all = absurd (let bad : false ≡ true = rw e at all in cc)

-- the number of an IMP that is there
there_short : (is : List ImpHosts) (n : ℕ) → list_all is_imp is ≡ true → is_there is n ≡ true → IsShort n
there_short [] n all there = absurd (cc)
there_short (i ∷ is) n all there = by (λ h k. there_short is n h k) (is_imp i) refl all (i.imp == n) refl there where
  here : is_imp i ≡ true → (i.imp == n) ≡ true → IsShort n
  here is e =
      let short : IsShort i.imp = (site_is i is).imp in
      let same : i.imp ≡ n = grind (arith, nat_tests) in
      omega (arith, short, same)

  by : (list_all is_imp is ≡ true → is_there is n ≡ true → IsShort n) → (b : Bool) → is_imp i ≡ b → list_all is_imp (i ∷ is) ≡ true → (c : Bool) → (i.imp == n) ≡ c → is_there (i ∷ is) n ≡ true → IsShort n
  by more true e h true f t = here e f
  by more true e h false f t = more (rw e at h) (rw f at t)
  by more false e h c f t = absurd (let bad : false ≡ true = rw e at h in cc)

lines_are : (is : List ImpHosts) (ls : List LineEnds) → list_all is_imp is ≡ true → list_all (is_line is) ls ≡ true → All IsEnds ls
lines_are is [] imps h = All-nil IsEnds
lines_are is (l ∷ ls) imps h = by (λ k. lines_are is ls imps k) (is_line is l) refl h where
  ends : is_line is l ≡ true → IsEnds l
  ends e =
      let apart = and_parts _ (is_there is l.a && is_there is l.b) e in
      let both = and_parts (is_there is l.a) (is_there is l.b) apart.1 in
      record { a = there_short is l.a imps both.0; b = there_short is l.b imps both.1 }

  by : (list_all (is_line is) ls ≡ true → All IsEnds ls) → (b : Bool) → is_line is l ≡ b → list_all (is_line is) (l ∷ ls) ≡ true → All IsEnds (l ∷ ls)
  by more true e all = All-cons IsEnds l ls (ends e) (more (rw e at all))
  by more false e all = absurd (let bad : false ≡ true = rw e at all in cc)

-- ---- words

carrier_plain : (k : CarrierKind) → Lacks 34 (carrier_word k)
carrier_plain kind.Plain = unmarked_where 34 (codes "plain") refl
carrier_plain kind.Subnet = unmarked_where 34 (codes "subnet") refl

carrier_in : List ℕ → CarrierKind
carrier_in word = if bytes_eq word (codes "plain") then kind.Plain else kind.Subnet

carrier_again : (k : CarrierKind) → carrier_in (carrier_word k) ≡ k
unfolding carrier_in
carrier_again kind.Plain = refl
carrier_again kind.Subnet = refl

raw_in : List ℕ → Bool
raw_in word = bytes_eq word (codes "true")

raw_again : (b : Bool) → raw_in (bool_text b) ≡ b
unfolding raw_in
raw_again true = refl
raw_again false = refl

pub plain_all : (t : List ℕ) → list_all is_plain t ≡ true → All (λ c. is_plain c ≡ true) t
plain_all [] h = All-nil (λ c. is_plain c ≡ true)
plain_all (c ∷ t) h = by (λ k. plain_all t k) (is_plain c) refl h where
  by : (list_all is_plain t ≡ true → All (λ x. is_plain x ≡ true) t) → (b : Bool) → is_plain c ≡ b → list_all is_plain (c ∷ t) ≡ true → All (λ x. is_plain x ≡ true) (c ∷ t)
  by more true e all = All-cons (λ x. is_plain x ≡ true) c t e (more (rw e at all))
  by more false e all = absurd (let bad : false ≡ true = rw e at all in cc)

pub word_closed : (c : ℕ) (t : List ℕ) → list_all is_plain (c ∷ t) ≡ true → IsClosed (c ∷ t)
word_closed c t plain = plain_closed _ (λ e. absurd (cc)) (plain_all (c ∷ t) plain)

raw_closed : (b : Bool) → IsClosed (bool_text b)
raw_closed true = word_closed 116 _ refl
raw_closed false = word_closed 102 _ refl

-- ---- the line

-- one member more
cut : (name v w : List ℕ) (xs ys : List (List ℕ)) (x y : List ℕ) → Lacks 34 name → IsClosed v → IsClosed w → member name v ++ further (codes "}") (x ∷ xs) ≡ member name w ++ further (codes "}") (y ∷ ys) → SameCut v (x ++ further (codes "}") xs) w (y ++ further (codes "}") ys)
cut name v w xs ys x y lacks p q e =
    let one : SameCut (member name v) (further (codes "}") (x ∷ xs)) (member name w) (further (codes "}") (y ∷ ys)) =
    one_front (member name v) (further (codes "}") (x ∷ xs)) (member name w) (further (codes "}") (y ∷ ys)) (member_closed name v lacks p) (member_closed name w lacks q) refl refl e in
    record { front = member_once name v w one.front; back = rest_same one.back }

abbrev of_carrier : TopologyFields → List ℕ
of_carrier t = member (codes "carrier") (quoted (carrier_word t.carrier))

abbrev of_raw : TopologyFields → List ℕ
of_raw t = member (codes "raw") (bool_text t.raw)

abbrev of_imps : TopologyFields → List ℕ
of_imps t = member (codes "imps") (array (map site_text t.imps))

abbrev of_lines : TopologyFields → List ℕ
of_lines t = member (codes "lines") (array (map ends_text t.lines))

abbrev of_parts : List ℕ → List ℕ
of_parts p = member (codes "parts") p

pub network : (t u : TopologyFields) (p q : List ℕ) → IsTopology t → IsTopology u → t.strangers ≡ u.strangers
    → opening_line t p ≡ opening_line u q → t ≡ u
network t u p q is are same_strangers e =
    let ti = and_parts _ _ (and_parts _ _ is.imps).1 in
    let ui = and_parts _ _ (and_parts _ _ are.imps).1 in
    let tl = and_parts _ _ (and_parts _ _ is.lines).0 in
    let ul = and_parts _ _ (and_parts _ _ are.lines).0 in
    let form = cut (codes "trace") _ _ (of_raw t ∷ of_imps t ∷ of_lines t ∷ of_parts p ∷ []) (of_raw u ∷ of_imps u ∷ of_lines u ∷ of_parts q ∷ []) (of_carrier t) (of_carrier u) (unmarked_where 34 (codes "trace") refl) (word_closed 51 [] refl) (word_closed 51 [] refl) (rest_same e) in
    let carriers = cut (codes "carrier") _ _ (of_imps t ∷ of_lines t ∷ of_parts p ∷ []) (of_imps u ∷ of_lines u ∷ of_parts q ∷ []) (of_raw t) (of_raw u) (unmarked_where 34 (codes "carrier") refl) (string_closed _ (carrier_plain _)) (string_closed _ (carrier_plain _)) form.back in
    let raws = cut (codes "raw") _ _ (of_lines t ∷ of_parts p ∷ []) (of_lines u ∷ of_parts q ∷ []) (of_imps t) (of_imps u) (unmarked_where 34 (codes "raw") refl) (raw_closed t.raw) (raw_closed u.raw) carriers.back in
    let sites = lists_spelled site_text IsSite site_spelled in
    let ends = lists_spelled ends_text IsEnds ends_spelled in
    let ts = sites_are t.imps ti.1 in
    let us = sites_are u.imps ui.1 in
    let te = lines_are t.imps _ ti.1 tl.0 in
    let ue = lines_are u.imps _ ui.1 ul.0 in
    let imps = cut (codes "imps") _ _ (of_parts p ∷ []) (of_parts q ∷ []) (of_lines t) (of_lines u) (unmarked_where 34 (codes "imps") refl) (sites.closed t.imps ts) (sites.closed u.imps us) raws.back in
    let lines = cut (codes "lines") _ _ [] [] (of_parts p) (of_parts q) (unmarked_where 34 (codes "lines") refl) (ends.closed t.lines te) (ends.closed u.lines ue) imps.back in
    let carrier : t.carrier ≡ u.carrier = sym (carrier_again _) ∙ ap carrier_in (quoted_once _ _ carriers.front) ∙ carrier_again _ in
    let raw : t.raw ≡ u.raw = sym (raw_again t.raw) ∙ ap raw_in raws.front ∙ raw_again u.raw in
    let same_imps : t.imps ≡ u.imps = sites.once t.imps u.imps ts us imps.front in
    let same_lines : t.lines ≡ u.lines = ends.once t.lines u.lines te ue lines.front in
    λ k. record { carrier = carrier k; raw = raw k; imps = same_imps k; lines = same_lines k; strangers = same_strangers k }
