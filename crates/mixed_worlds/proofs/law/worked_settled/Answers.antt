use Rattle.mixed_worlds.proofs.Common.{◌≡◌, Bool, true, false, None, refl, ap, sym, subst, ◌∙◌, Host, same_host, Flow, on_link, second, third, first, program, crossings_of, same_host-sym, without_strangers}
use Rattle.interface.specs.Mailboxes.{same_flow, Empty, box_of}
use Rattle.interface.proofs.lemmas.{same_host-true, same_flow-true}
use Rattle.mixed_worlds.specs.Worked.{listener_taken, is_third}
use Rattle.bit_messages.specs.Octets.{octets_of}
use Rattle.ncp_control.specs.Packing.{packed_count}
use Rattle.ncp_control.specs.Reading.{command_of, read_of}
use Rattle.host_pairs.specs.Control.{orders_of}
use Rattle.sockets.specs.Accepting.{accepted}
use Rattle.sockets.specs.Requests.{refusal, served, served_notices}
use Rattle.sockets.specs.Sending.{next_out, offered}
use Rattle.mixed_worlds.proofs.law.worked_settled.Goals as goal

pub returns-clause-waits : goal.returns-clause-waits
unfolding octets_of orders_of read_of command_of packed_count accepted refusal served served_notices next_out offered
returns-clause-waits c = refl

of_second : next_out (without_strangers is_third (program second listener_taken)) ≡ None
unfolding octets_of orders_of read_of command_of packed_count accepted refusal served served_notices next_out offered
of_second = refl

none_said : (h : Host) → is_third h ≡ false
    → next_out (without_strangers is_third (program h listener_taken)) ≡ None
unfolding octets_of orders_of read_of command_of packed_count accepted refusal served served_notices next_out offered
none_said h off = by (same_host h second) refl where
  apart : same_host h third ≡ false
  apart = same_host-sym h third ∙ off

  by : (b : Bool) → same_host h second ≡ b
      → next_out (without_strangers is_third (program h listener_taken)) ≡ None
  by true e = subst (λ (g : Host). next_out (without_strangers is_third (program g listener_taken)) ≡ None)
      (sym (same_host-true h second e)) of_second
  by false e = rw (e, apart) refl

none_out : (f : Flow) → is_third f.source ≡ false → is_third f.destination ≡ false
    → box_of f (crossings_of listener_taken) ≡ Empty
none_out f source destination = rw (to, from) refl where
  to : same_flow f (on_link second third 0) ≡ false
  to = apart_to (same_flow f (on_link second third 0)) refl where
    apart_to : (b : Bool) → same_flow f (on_link second third 0) ≡ b → b ≡ false
    apart_to true e = absurd (let clash : true ≡ false = sym (ap (λ (g : Flow). is_third g.destination) (same_flow-true f (on_link second third 0) e)) ∙ destination in cc)
    apart_to false e = refl

  from : same_flow f (on_link third second 0) ≡ false
  from = apart_from (same_flow f (on_link third second 0)) refl where
    apart_from : (b : Bool) → same_flow f (on_link third second 0) ≡ b → b ≡ false
    apart_from true e = absurd (let clash : true ≡ false = sym (ap (λ (g : Flow). is_third g.source) (same_flow-true f (on_link third second 0) e)) ∙ source in cc)
    apart_from false e = refl

pub returns-clause-settled : goal.returns-clause-settled
returns-clause-settled c = record {
  silent = λ h off up. none_said h off;
  answered = λ f source destination up other. none_out f source destination;
}

pub returns-clause-unsaid : goal.returns-clause-unsaid
unfolding octets_of orders_of read_of command_of packed_count accepted refusal served served_notices next_out offered
returns-clause-unsaid c s = absurd (let clash = s.silent first refl refl in cc)

pub returns-clause-unanswered : goal.returns-clause-unanswered
unfolding octets_of orders_of read_of command_of packed_count accepted refusal served served_notices next_out offered
returns-clause-unanswered c s = absurd (let clash = s.answered (on_link first second 0) refl refl refl refl in cc)
