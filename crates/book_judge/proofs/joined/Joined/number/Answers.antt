use Rattle.std.proofs.Common.{ℕ, Option, None, sym, subst, ◌∙◌, ◌≡◌}
use Rattle.book_judge.specs.Inside.Joined.{NumberBy}
use Rattle.std.specs.FinMap as map
use Rattle.book_judge.proofs.joined.Joined.number.Goals as goal

pub returns : goal.returns
returns c =
    let none : map.get c.args.self.now.numbers c.args.flow ≡ None = sym c.get.ensures ∙ c.in_default.is in
    subst (λ (o : Option ℕ). NumberBy o c.len-number.result c.args.flow c.args.self.now (record { numbers = c.set.new.self; streams = c.push.new.self })) (sym none)
    (c.len-number.ensures ∙ c.args.self.now.streams.ok.0, c.in_ok-set.ensures, (c.new.result, c.in_ok-push.ensures.items, c.new.ensures))
