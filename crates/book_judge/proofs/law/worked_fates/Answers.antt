use Rattle.book_judge.proofs.Common.{◌≡◌, [], ◌∷◌, inl, true, false, refl, ap, sym, ◌∙◌, false≢true, Going, course, stage, is_begun}
use Rattle.bit_messages.specs.Octets.{octets_of}
use Rattle.ncp_control.specs.Reading.{command_of, read_of}
use Rattle.host_pairs.specs.Control.{orders_of}
use Rattle.interface.specs.declared.crossing.Crossing.TheVariants as crossing
use Rattle.net_sim.specs.WorkedMoments.{rts, str}
use Rattle.book_judge.specs.WorkedLives.{late_answer}
use Rattle.book_judge.proofs.Ends.Together.{suited_with}
use Rattle.book_judge.proofs.Ends.Suited.{suited_alone}
use Rattle.book_judge.proofs.law.worked_fates.Goals as goal

pub returns-clause-nothing : goal.returns-clause-nothing
returns-clause-nothing c = suited_alone

begun_late : stage [] late_answer (crossing.In str ∷ crossing.Down late_answer.host ∷ crossing.Out rts ∷ [])
    ≡ Going false false
unfolding octets_of orders_of read_of command_of
begun_late = refl

early_late : (course [] late_answer (crossing.In str ∷ crossing.Down late_answer.host ∷ crossing.Out rts ∷ [])).early
    ≡ true
unfolding octets_of orders_of read_of command_of
early_late = refl

pub returns-clause-early : goal.returns-clause-early
returns-clause-early c = λ f all.
    false≢true (sym ((all.each late_answer f (inl (refl, refl))).begins (ap is_begun begun_late)) ∙ early_late)

pub returns-clause-contacts : goal.returns-clause-contacts
returns-clause-contacts c = λ log lives fates can. suited_with can.contacts log lives fates can.are can.left
