use Rattle.std.proofs.Common.{◌≡◌, ℕ, min, List, [], ◌∷◌, length, zip, arith, refl, rules, ◌∙◌}
use Rattle.std.proofs.lemmas.Iterator.{YieldsList-from_slice, YieldsList-from_zip}
use Rattle.std.proofs.lemmas.Iterator.Adapters.{YieldsList-from_vec, items_from_extend}
use Rattle.std.proofs.lemmas.Iterator.Consumers.{YieldsList-at, YieldsList-from_copied}
use Rattle.trace.proofs.numbers.beside_lines.Goals as goal

-- where there are no lines or no events, there are no pairs
none_beside : {E : Type 0} (lines : List ℕ) (events : List E) → min (length lines) (length events) ≡ 0
    → [] ≡ zip lines events
none_beside [] events none = refl
none_beside (x ∷ lines) [] none = refl
none_beside (x ∷ lines) (e ∷ events) none = absurd (omega (arith, none))

pub returns-then-places-eq0-clause-placed : goal.returns-then-places-eq0-clause-placed
returns-then-places-eq0-clause-placed g c =
    c.new.ensures.items ∙ none_beside c.args.lines.now c.args.events.items (search rules)

pub returns-clause-placed : goal.returns-clause-placed
returns-clause-placed g c =
    let lines = YieldsList-at c.zip.ensures.first (YieldsList-from_copied
    (YieldsList-at c.copied.ensures.source (YieldsList-from_slice c.args.lines.now c.iter.ensures.rest))) in
    let events = YieldsList-from_vec c.args.events.items c.zip.ensures.second.0 (search rules) in
    let all = items_from_extend c.extend.result c.extend.ensures.ran (YieldsList-from_zip lines events) in
    search rules
