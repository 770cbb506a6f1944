use Rattle.book_judge.proofs.Common.{Crossing, Fate, Life, List, Option, arith, ap, length, reverse, sym, take, ◌≡◌, ◌∙◌, deeds_in, Said}
use Rattle.book_judge.specs.Inside.Contacts.{agrees, noted, said_after}
use Rattle.book_judge.proofs.Ends.Noted.{disagrees, said_turned, seen_more, seen_none, seen_suit, unsuited_by}
use Rattle.book_judge.proofs.Ends.Suited.{all_suited}
use Rattle.book_judge.proofs.fates.unsuited_at.Goals as goal
use Rattle.book_judge.proofs.fates.unsuited_at.Goals.{then-not-suits-via-then-not-suits, then-not-suits-via-else-not-suits+then-not-agrees}

-- what is said of a life by the crossings
turned : (crossed log : List Crossing) → crossed ≡ log → (x : Life) (o : Option Fate) (said : Option Said)
    → said ≡ said_after (length crossed) (deeds_in (reverse log)) x o
    → said_after (length (reverse log)) (deeds_in (reverse log)) x o ≡ said
turned crossed log is x o said e =
    said_turned log x o said (e ∙ ap (λ (xs : List Crossing). said_after (length xs) (deeds_in (reverse log)) x o) is)

pub returns-then-not-suits : goal.returns-then-not-suits
returns-then-not-suits c = elim c.then-not-suits.branch [
  | then-not-suits-via-then-not-suits w ↦
      unsuited_by (reverse c.args.log.now) c.args.lives.now c.args.fates.now c.loop-place.place
      c.index-lives-place.result c.fate_at-fate.result
      (record { less = c.loop-place-test.true; life = c.index-lives-place.is; said = c.fate_at-fate.ensures })
      c.loop-place.ends
      (sym (c.suits.ensures (deeds_in (reverse c.args.log.now)) c.courses-courses.ensures) ∙ w.if-not-suits.true)
      c.loop-place.invariant
  | then-not-suits-via-else-not-suits+then-not-agrees w ↦
      disagrees (reverse c.args.log.now) c.args.lives.now c.args.fates.now c.loop-place.place
      c.index-lives-place.result c.fate_at-fate.result
      (record { less = c.loop-place-test.true; life = c.index-lives-place.is; said = c.fate_at-fate.ensures })
      c.loop-place.ends
      (ap (agrees c.loop-place.ends c.index-lives-place.result) (turned c.crossings-crossed.result.now c.args.log.now c.crossings-crossed.ensures
      c.index-lives-place.result c.fate_at-fate.result c.said-said.result
      (c.said-said.ensures (deeds_in (reverse c.args.log.now)) c.courses-courses.ensures
      (c.in_ok-cuts.ensures (deeds_in (reverse c.args.log.now)) c.courses-courses.ensures))) ∙ sym w.agrees.ensures ∙ w.if-not-agrees.true)
      c.loop-place.invariant
]

pub loop-place-init : goal.loop-place-init
loop-place-init c =
    seen_none (reverse c.args.log.now) c.args.fates.now c.new-ends.result c.new-ends.ensures

pub loop-place-preserved : goal.loop-place-preserved
loop-place-preserved c =
    seen_more (reverse c.args.log.now) c.args.lives.now c.args.fates.now c.loop-place.place
    c.index-lives-place.result c.fate_at-fate.result
    (record { less = c.loop-place-test.true; life = c.index-lives-place.is; said = c.fate_at-fate.ensures })
    c.loop-place.ends c.note.new.ends
    (sym (c.suits.ensures (deeds_in (reverse c.args.log.now)) c.courses-courses.ensures) ∙ c.if-not-suits.false)
    (ap (agrees c.loop-place.ends c.index-lives-place.result) (turned c.crossings-crossed.result.now c.args.log.now c.crossings-crossed.ensures
    c.index-lives-place.result c.fate_at-fate.result c.said-said.result
    (c.said-said.ensures (deeds_in (reverse c.args.log.now)) c.courses-courses.ensures
    (c.in_ok-cuts.ensures (deeds_in (reverse c.args.log.now)) c.courses-courses.ensures))) ∙ sym c.agrees.ensures ∙ c.if-not-agrees.false)
    (c.in_ok-note.ensures
    ∙ ap (λ (r : Option Said). noted c.index-lives-place.result r c.loop-place.ends) (sym (turned c.crossings-crossed.result.now c.args.log.now c.crossings-crossed.ensures
    c.index-lives-place.result c.fate_at-fate.result c.said-said.result
    (c.said-said.ensures (deeds_in (reverse c.args.log.now)) c.courses-courses.ensures
    (c.in_ok-cuts.ensures (deeds_in (reverse c.args.log.now)) c.courses-courses.ensures)))))
    c.loop-place.invariant

pub returns : goal.returns
returns c =
    all_suited (reverse c.args.log.now) c.args.lives.now c.args.fates.now c.loop-place.place
    (omega (arith, c.loop-place-test.false))
    (seen_suit (reverse c.args.log.now) (take c.loop-place.place c.args.lives.now) c.args.fates.now
    c.loop-place.ends c.loop-place.invariant)
