use Rattle.std.proofs.Common.{rules, refl, sym, Result, Ok, Err, OnOk, ◌∙◌}
use Rattle.host_pairs.specs.Entries.{new_entry}
use Rattle.host_pairs.specs.Outgoing.{end_at}
use Rattle.host_pairs.specs.Parcels.{may_send_on, bits_gone}
use Rattle.host_pairs.proofs.EntryLemmas.{one_changed, none_changed}
use Rattle.host_pairs.proofs.bits_gone.send_bits.Goals as goal

always : {T E Q : Type 0} (r : Result T E) → Q → OnOk r Q
always (Ok x) q = q
always (Err e) q = tt

pub returns-in_default-clause-gone : goal.returns-in_default-clause-gone
returns-in_default-clause-gone c = always c.front.result (sym (none_changed (may_send_on c.args.busy.now c.args.link) (bits_gone c.args.bits) _ (search rules)))

pub returns-then-place-at-clause-gone : goal.returns-then-place-at-clause-gone
returns-then-place-at-clause-gone c = c.look_again.ensures ∙ c.in_ok-sent.ensures.gone
    ∙ one_changed (may_send_on c.args.busy.now c.args.link) c.args.at (bits_gone c.args.bits) (new_entry 0 0) (bits_gone c.args.bits (end_at c.args.ends.now c.args.at)) c.args.ends.now (search rules) refl

pub returns-clause-gone : goal.returns-clause-gone
returns-clause-gone c = c.look_again-2.ensures ∙ c.in_ok-send.ensures.gone
    ∙ one_changed (may_send_on c.args.busy.now c.args.link) c.in-Some.place (bits_gone c.args.bits) (new_entry 0 0) (bits_gone c.args.bits (end_at c.args.ends.now c.in-Some.place)) c.args.ends.now (search rules) refl
