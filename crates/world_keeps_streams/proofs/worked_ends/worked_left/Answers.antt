use Rattle.world_keeps_streams.proofs.Common.{◌≡◌, inl, true, false, [], ◌∷◌, ◌++◌, refl, first, second, rst}
use Rattle.bit_messages.specs.Octets.{octets_of}
use Rattle.interface.specs.declared.crossing.Crossing.TheVariants as crossing
use Rattle.ncp_control.specs.Reading.{read_of, command_of}
use Rattle.host_pairs.specs.Control.{orders_of}
use Rattle.promise.specs.declared.life.Fate.TheVariants as fate
use Rattle.world_keeps_streams.specs.WorkedEnds.{after_rst, asker, begun_then, late_answer, own_cls, partner_cls}
use Rattle.world_keeps_streams.proofs.Ends.Rows.{one_left}
use Rattle.world_keeps_streams.proofs.worked_ends.worked_left.Goals as goal

pub returns-clause-open : goal.returns-clause-open
unfolding octets_of orders_of read_of command_of
returns-clause-open c = one_left [] (begun_then []) asker fate.Open (record { begins = refl; fate = refl })

pub returns-clause-closing : goal.returns-clause-closing
unfolding octets_of orders_of read_of command_of
returns-clause-closing c =
    one_left [] (begun_then (crossing.Out own_cls ∷ [])) asker fate.Closing (record { begins = refl; fate = tt })

pub returns-clause-closed : goal.returns-clause-closed
unfolding octets_of orders_of read_of command_of
returns-clause-closed c =
    one_left [] (begun_then (crossing.In partner_cls ∷ crossing.Out own_cls ∷ [])) asker fate.Closed
    (record { begins = refl; fate = tt })

pub returns-clause-ended : goal.returns-clause-ended
unfolding octets_of orders_of read_of command_of
returns-clause-ended c =
    one_left [] (begun_then (crossing.Out own_cls ∷ crossing.In partner_cls ∷ [])) asker fate.Ended
    (record { begins = refl; fate = refl })

pub returns-clause-unclosed : goal.returns-clause-unclosed
unfolding octets_of orders_of read_of command_of
returns-clause-unclosed c left = absurd (let no : true ≡ false = (left asker fate.Open (inl (refl, refl))).fate in cc)

pub returns-clause-own_first : goal.returns-clause-own_first
unfolding octets_of orders_of read_of command_of
returns-clause-own_first c left = absurd (let no : true ≡ false = (left asker fate.Ended (inl (refl, refl))).fate in cc)

pub returns-clause-early : goal.returns-clause-early
unfolding octets_of orders_of read_of command_of
returns-clause-early c left =
    absurd (let no : true ≡ false = (left late_answer fate.Open (inl (refl, refl))).begins in cc)

pub returns-clause-stopped : goal.returns-clause-stopped
unfolding octets_of orders_of read_of command_of
returns-clause-stopped c left =
    absurd (let no : true ≡ false = (left late_answer fate.Open (inl (refl, refl))).begins in cc)

pub returns-clause-continues : goal.returns-clause-continues
unfolding octets_of orders_of read_of command_of
returns-clause-continues c = refl

pub returns-clause-before : goal.returns-clause-before
unfolding octets_of orders_of read_of command_of
returns-clause-before c =
    one_left [] (begun_then [] ++ crossing.In (rst second first) ∷ []) after_rst fate.Open
    (record { begins = refl; fate = refl })
