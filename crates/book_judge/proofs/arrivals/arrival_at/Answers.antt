use Rattle.book_judge.proofs.Common.{Crossing, List, Some, ap, false, get_or, length, refl, subst, sym, true, ℕ, ◌<◌, ◌≡◌, ◌∙◌, slice_get_read, AreArrivals}
use Rattle.std.specs.List.{slice_get}
use Rattle.book_judge.proofs.Crossed.Arrivals.{arrival_here, arrival_none}
use Rattle.book_judge.proofs.arrivals.arrival_at.Goals as goal

-- what is at a place of the crossings is there in the log
there : (crossed log : List Crossing) → crossed ≡ log → (place : ℕ) (found : Crossing) → place < length log
    → found ≡ get_or crossed place found → slice_get log place ≡ Some found
there crossed log same place found less is =
    slice_get_read log (length log) place found refl less
    (is ∙ ap (λ (xs : List Crossing). get_or xs place found) same)

pub returns-in_default : goal.returns-in_default
returns-in_default c =
    arrival_none c.args.log.now c.args.place c.index-crossed-place.result _
    (there c.crossings-crossed.result.now c.args.log.now c.crossings-crossed.ensures c.args.place
    c.index-crossed-place.result c.requires.place c.index-crossed-place.is)
    c.in_default.ensures

pub returns : goal.returns
returns c =
    arrival_here c.args.log.now c.args.place c.index-crossed-place.result c.in-Some.message.now c.between-number.result
    c.between-sent.result c.since_of-since.result
    (there c.crossings-crossed.result.now c.args.log.now c.crossings-crossed.ensures c.args.place
    c.index-crossed-place.result c.requires.place c.index-crossed-place.is)
    c.in-Some.ensures
    (c.between-number.ensures true c.args.log.now c.came-into.ensures)
    (c.between-sent.ensures false c.args.log.now c.went.ensures)
    (c.since_of-since.ensures c.args.log.now c.came-into.ensures
    (subst (λ (k : ℕ). AreArrivals k c.args.arrivals.now c.args.log.now) (sym c.requires.earlier.counts)
    c.requires.earlier))
