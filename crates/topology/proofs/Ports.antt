-- A topology has few lines, since its IMPs have few ends.
use Rattle.topology.proofs.Common.{list_all, nat_tests, most_imps, ImpHosts, LineEnds}
use Rattle.std.proofs.Common.{◌≡◌, ℕ, suc, ◌≤◌, ◌+◌, ◌*◌, ◌==◌, ◌&&◌, ◌||◌, nat_le, not, Bool, true, false, List, [], ◌∷◌, length, cond, refl, sym, ◌∙◌, arith, eqb-true, eq-eqb, inl, inr}
use Rattle.std.proofs.lemmas.List.Sums.{sum_by-cons}
use Rattle.std.proofs.lemmas.Bool.{cases_Bool, and_parts, false≢true}
use Rattle.topology.specs.Topology.{IsTopology, TopologyFields, are_apart, has_ports, is_imp, is_line, is_there, line_count, most_lines, most_network_lines}
use Rattle.interface.proofs.lemmas.{not_true}

abbrev one : Bool → ℕ
one b = cond b 1 0

-- how many ends of lines these IMPs have
abbrev ends_of : List ImpHosts → List LineEnds → ℕ
ends_of [] lines = 0
ends_of (i ∷ imps) lines = line_count lines i.imp + ends_of imps lines

-- and how many of one line
abbrev ends_of_one : List ImpHosts → LineEnds → ℕ
ends_of_one [] line = 0
ends_of_one (i ∷ imps) line = one (line.a == i.imp || line.b == i.imp) + ends_of_one imps line

-- how many of these IMPs have a number
abbrev named : List ImpHosts → ℕ → ℕ
named [] n = 0
named (i ∷ imps) n = one (n == i.imp) + named imps n

ends_more : (imps : List ImpHosts) (line : LineEnds) (lines : List LineEnds) → ends_of imps (line ∷ lines) ≡ ends_of_one imps line + ends_of imps lines
ends_more [] line lines = refl
ends_more (i ∷ imps) line lines =
    let first : line_count (line ∷ lines) i.imp ≡ one (line.a == i.imp || line.b == i.imp) + line_count lines i.imp = sum_by-cons (λ (l : LineEnds). one (l.a == i.imp || l.b == i.imp)) line lines in
    let rest : ends_of imps (line ∷ lines) ≡ ends_of_one imps line + ends_of imps lines = ends_more imps line lines in
    by (line_count (line ∷ lines) i.imp) (one (line.a == i.imp || line.b == i.imp)) (line_count lines i.imp) (ends_of imps (line ∷ lines)) (ends_of_one imps line) (ends_of imps lines) first rest
  where
    by : (a b c d e f : ℕ) → a ≡ b + c → d ≡ e + f → a + d ≡ (b + e) + (c + f)
    by a b c d e f g h = omega (arith, g, h)

flip : (m n : ℕ) → (m == n) ≡ true → (n == m) ≡ true
flip m n e = eq-eqb n m (sym (eqb-true m n e))

one_more : (b : Bool) (n : ℕ) → b ≡ true → 1 ≤ one b + n
one_more b n e = rw e (omega arith)

none_more : (b : Bool) (n : ℕ) → 1 ≤ n → 1 ≤ one b + n
none_more true n h = omega arith
none_more false n h = omega (arith, h)

there_named : (imps : List ImpHosts) (n : ℕ) → is_there imps n ≡ true → 1 ≤ named imps n
there_named [] n there = absurd (false≢true there)
there_named (i ∷ imps) n there = elim (cases_Bool (i.imp == n)) [
  | inl same ↦ one_more (n == i.imp) (named imps n) (flip i.imp n same)
  | inr other ↦ (let behind : is_there imps n ≡ true = rw other at there in none_more (n == i.imp) (named imps n) (there_named imps n behind))
]

apart_one : (a b : Bool) → (a ≡ true → b ≡ true → ⊥) → one (a || b) ≡ one a + one b
apart_one true true apart = absurd (apart refl refl)
apart_one true false apart = refl
apart_one false true apart = refl
apart_one false false apart = refl

one_end : (a b n : ℕ) → (a == b) ≡ false → one (a == n || b == n) ≡ one (a == n) + one (b == n)
one_end a b n apart = apart_one (a == n) (b == n) (λ e f. false≢true (sym apart ∙ eq-eqb a b (eqb-true a n e ∙ sym (eqb-true b n f))))

both_ends : (imps : List ImpHosts) (line : LineEnds) → (line.a == line.b) ≡ false → ends_of_one imps line ≡ named imps line.a + named imps line.b
both_ends [] line apart = refl
both_ends (i ∷ imps) line apart =
    by (one (line.a == i.imp || line.b == i.imp)) (one (line.a == i.imp)) (one (line.b == i.imp)) (ends_of_one imps line) (named imps line.a) (named imps line.b)
    (one_end line.a line.b i.imp apart) (both_ends imps line apart)
  where
    by : (a b c d e f : ℕ) → a ≡ b + c → d ≡ e + f → a + d ≡ (b + e) + (c + f)
    by a b c d e f g h = omega (arith, g, h)

-- each line has two ends
two_each : (imps : List ImpHosts) (lines : List LineEnds) → list_all (is_line imps) lines ≡ true → 2 * length lines ≤ ends_of imps lines
two_each imps [] good = omega arith
two_each imps (line ∷ lines) good =
    let all : (is_line imps line ≡ true) × (list_all (is_line imps) lines ≡ true) = and_parts (is_line imps line) (list_all (is_line imps) lines) good in
    let parts : (not (line.a == line.b) ≡ true) × ((is_there imps line.a && is_there imps line.b) ≡ true) = and_parts (not (line.a == line.b)) (is_there imps line.a && is_there imps line.b) all.0 in
    let both : (is_there imps line.a ≡ true) × (is_there imps line.b ≡ true) = and_parts (is_there imps line.a) (is_there imps line.b) parts.1 in
    let ends : ends_of_one imps line ≡ named imps line.a + named imps line.b = both_ends imps line (not_true (line.a == line.b) parts.0) in
    let a : 1 ≤ named imps line.a = there_named imps line.a both.0 in
    let b : 1 ≤ named imps line.b = there_named imps line.b both.1 in
    let rest : 2 * length lines ≤ ends_of imps lines = two_each imps lines all.1 in
    let more : ends_of imps (line ∷ lines) ≡ ends_of_one imps line + ends_of imps lines = ends_more imps line lines in
    omega (arith, ends, a, b, rest, more)

-- no IMP has more than five
five_each : (imps : List ImpHosts) (lines : List LineEnds) → has_ports imps lines ≡ true → ends_of imps lines ≤ most_lines * length imps
five_each [] lines few = omega arith
five_each (i ∷ imps) lines few =
    let all : (nat_le (line_count lines i.imp) most_lines ≡ true) × (has_ports imps lines ≡ true) = and_parts (nat_le (line_count lines i.imp) most_lines) (has_ports imps lines) few in
    let first : line_count lines i.imp ≤ most_lines = let t = all.0 in grind (arith, nat_tests) in
    by (line_count lines i.imp) (ends_of imps lines) (length imps) first (five_each imps lines all.1)
  where
    by : (a b n : ℕ) → a ≤ most_lines → b ≤ most_lines * n → a + b ≤ most_lines * suc n
    by a b n g h = omega (arith, g, h)

pub few_lines : (t : TopologyFields) → IsTopology t → length t.lines ≤ most_network_lines
few_lines t keeps =
    let rules : ((list_all (is_line t.imps) t.lines && are_apart t.lines) ≡ true) × (has_ports t.imps t.lines ≡ true) = and_parts (list_all (is_line t.imps) t.lines && are_apart t.lines) (has_ports t.imps t.lines) keeps.lines in
    let good : (list_all (is_line t.imps) t.lines ≡ true) × (are_apart t.lines ≡ true) = and_parts (list_all (is_line t.imps) t.lines) (are_apart t.lines) rules.0 in
    let counted : (nat_le 1 (length t.imps) ≡ true) × ((nat_le (length t.imps) most_imps && list_all is_imp t.imps) ≡ true) = and_parts (nat_le 1 (length t.imps)) (nat_le (length t.imps) most_imps && list_all is_imp t.imps) keeps.imps in
    let most : length t.imps ≤ most_imps = let t = (and_parts (nat_le (length t.imps) most_imps) (list_all is_imp t.imps) counted.1).0 in grind (arith, nat_tests) in
    let two : 2 * length t.lines ≤ ends_of t.imps t.lines = two_each t.imps t.lines good.0 in
    let five : ends_of t.imps t.lines ≤ most_lines * length t.imps = five_each t.imps t.lines rules.1 in
    omega (arith, most, two, five)
