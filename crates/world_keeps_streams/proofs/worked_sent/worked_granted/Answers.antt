use Rattle.std.proofs.Common.{◌≡◌, ◌≤◌, ℕ, zero, suc, Option, Some, None, true, false, ap, arith, refl, subst, sym, ◌∙◌}
use Rattle.bit_messages.specs.Octets.{octets_of}
use Rattle.ncp_control.specs.Reading.{command_of, read_of}
use Rattle.host_pairs.specs.Control.{orders_of}
use Rattle.promise.specs.Formed.{link_of}
use Rattle.promise.specs.Safe.{sends}
use Rattle.promise.specs.declared.life.Life.{Life}
use Rattle.world_keeps_lives.specs.WorkedFormed.{gave, sent_log, took}
use Rattle.world_keeps_streams.specs.Granted.{granted_to}
use Rattle.world_keeps_streams.proofs.worked_sent.worked_granted.Goals as goal

abbrev gave_more : Life
gave_more = record gave { messages = 3 }

gave_link : link_of sent_log gave_more ≡ Some 2
unfolding octets_of orders_of read_of command_of
gave_link = refl

two_granted : (granted_to gave_more 2 sent_log).messages ≡ 2
unfolding octets_of orders_of read_of command_of
two_granted = refl

no_link : link_of sent_log (record gave { messages = 3; partner_stamp = 6 }) ≡ None
unfolding octets_of orders_of read_of command_of
no_link = refl

pub returns-clause-sent : goal.returns-clause-sent
returns-clause-sent c each =
    let most : 3 ≤ (granted_to gave_more 2 sent_log).messages = (each gave_more 2 (0, omega arith, refl) refl gave_link).messages in
    absurd (omega (arith, subst (λ (n : ℕ). 3 ≤ n) two_granted most))

pub returns-clause-taken : goal.returns-clause-taken
returns-clause-taken c sender link (zero, below, is) kind named =
    absurd (let no : false ≡ true = ap sends is ∙ kind in cc)
returns-clause-taken c sender link (suc k, below, is) kind named = absurd (omega (arith, below))

pub returns-clause-link : goal.returns-clause-link
returns-clause-link c sender link (zero, below, is) kind named =
    absurd (let no : None ≡ Some link = sym no_link ∙ ap (link_of sent_log) is ∙ named in cc)
returns-clause-link c sender link (suc k, below, is) kind named = absurd (omega (arith, below))
