use Rattle.std.proofs.Common.{List, Bool, [], ◌∷◌, ap, sym, refl, ◌∙◌, arith}
use Rattle.book_judge.proofs.Crossed.Streamed.{added_at, none_at, numbered_at, on_ok}
use Rattle.book_judge.proofs.joined.Joined.add.Goals as goal

pub returns-in_default : goal.returns-in_default
returns-in_default c = none_at c.args.comes c.args.log.now c.args.place c.index-log-place.result c.args.self.now c.requires.place c.index-log-place.is (sym c.in_default.ensures) c.requires.joined

pub index_mut-requires : goal.index_mut-requires
index_mut-requires c =
    let there = numbered_at c.args.comes c.args.log.now c.args.place c.in_ok-number.number c.in-Some.message.now.flow c.args.self.now c.number.new.self c.in_ok-number.ensures c.requires.joined in
    omega (arith, there, c.number.new.self.streams.ok.0)

pub returns : goal.returns
returns c =
    on_ok c.append.result _ _
    (λ more. added_at c.args.comes c.args.log.now c.args.place c.in_ok-number.number c.index-log-place.result c.in-Some.message.now c.index_mut.result.now c.append.new.self c.args.self.now c.number.new.self _ c.requires.place
    c.index-log-place.is c.in-Some.ensures c.in_ok-number.ensures c.requires.joined c.index_mut.ensures.value refl refl
    (λ f older d long text h. more f older d long (text ∙ ap (λ (bits : List Bool). bits ∷ []) (sym c.bits.ensures.same)) h)) c.append.ensures
