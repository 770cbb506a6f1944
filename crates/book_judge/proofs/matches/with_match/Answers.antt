use Rattle.book_judge.proofs.Common.{◌≡◌, Some, length, refl, arith, slice_get_read}
use Rattle.std.specs.List.{slice_get}
use Rattle.book_judge.proofs.Peace.{with_none, with_some}
use Rattle.book_judge.proofs.matches.with_match.Goals as goal

pub returns-in-Some : goal.returns-in-Some
returns-in-Some c = λ log are.
    (let e : slice_get c.args.names.now c.args.place ≡ Some c.index-names-place.result =
    slice_get_read c.args.names.now (length c.args.names.now) c.args.place c.index-names-place.result refl (omega (arith, c.requires.0, c.requires.1)) c.index-names-place.is in
    let f : slice_get c.args.lives.now c.args.place ≡ Some c.index-lives-place.result =
    slice_get_read c.args.lives.now (length c.args.lives.now) c.args.place c.index-lives-place.result refl c.requires.0 c.index-lives-place.is in (
      refl,
      (
        c.index-lives-place.result,
        f,
        c.in-Some.ensures.0,
        with_some c.args.names.now c.args.lives.now log c.index-names-place.result c.index-lives-place.result c.args.place c.in-Some.other are e f c.in-Some.ensures,
      ),
    ))

pub returns-in-None : goal.returns-in-None
returns-in-None c = λ log are.
    (let e : slice_get c.args.names.now c.args.place ≡ Some c.index-names-place.result =
    slice_get_read c.args.names.now (length c.args.names.now) c.args.place c.index-names-place.result refl (omega (arith, c.requires.0, c.requires.1)) c.index-names-place.is in
    let f : slice_get c.args.lives.now c.args.place ≡ Some c.index-lives-place.result =
    slice_get_read c.args.lives.now (length c.args.lives.now) c.args.place c.index-lives-place.result refl c.requires.0 c.index-lives-place.is in (
      refl,
      (
        c.index-lives-place.result,
        f,
        with_none c.args.names.now c.args.lives.now log c.index-names-place.result c.index-lives-place.result c.args.place are e f c.in-None.ensures,
      ),
    ))
