use Rattle.book_judge.proofs.Common.{◌≡◌, Some, length, refl, sym, ◌∙◌, arith, slice_get_read}
use Rattle.std.specs.List.{slice_get}
use Rattle.book_judge.proofs.Identities.Known.{known_next, new_apart}
use Rattle.book_judge.proofs.partners.takes.Goals as goal

pub returns : goal.returns
returns c =
    let asked : slice_get c.args.names.now c.args.place ≡ Some c.index-names-place.result =
    slice_get_read c.args.names.now (length c.args.names.now) c.args.place c.index-names-place.result refl (omega (arith, c.requires.within.0, c.requires.within.1))
    c.index-names-place.is in
    let there : slice_get c.args.lives.now c.args.place ≡ Some c.index-lives-place.result =
    slice_get_read c.args.lives.now (length c.args.lives.now) c.args.place c.index-lives-place.result refl c.requires.within.0 c.index-lives-place.is in (
      known_next c.args.place c.key.result c.key-2.result c.args.owns.now c.args.partners.now c.set.new.self c.set-2.new.self c.args.names.now c.args.lives.now
          c.index-names-place.result c.own_of-own.result c.index-lives-place.result asked there c.own_of-own.ensures c.key.ensures c.key-2.ensures
          c.in_ok-set.ensures c.in_ok-set-2.ensures c.requires.known,
      λ e. new_apart c.args.place c.args.owns.now c.args.partners.now c.args.names.now c.args.lives.now c.index-names-place.result c.own_of-own.result
          c.index-lives-place.result c.requires.apart c.requires.known asked there c.own_of-own.ensures (sym c.is_new-new.ensures ∙ e),
    )
