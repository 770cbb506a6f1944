use Rattle.world_keeps_streams.proofs.Common.{◌≡◌, ℕ, Bool, true, false, List, [], ◌∷◌, Option, None, refl, ap, subst, ◌∙◌, arith, some_is, spent, is_open, receiving_end, asked_at, Entry, first, second, program, crossings_of, bits_sent, eight_sent, sent_moments, none_there}
use Rattle.interface.specs.Mailboxes.{box_of, Waiting}
use Rattle.host_pairs.specs.Commands.{asked_with_size, granted}
use Rattle.bit_messages.specs.Octets.{octets_of}
use Rattle.ncp_control.specs.Packing.{packed_count}
use Rattle.ncp_control.specs.Reading.{read_of, command_of}
use Rattle.host_pairs.specs.Control.{orders_of}
use Rattle.sockets.specs.Accepting.{accepted}
use Rattle.sockets.specs.Requests.{refusal, served, served_notices}
use Rattle.sockets.specs.Sending.{next_out, offered}
use Rattle.world_keeps_streams.proofs.law.worked_rests.Goals as goal

first_link : List Entry → Option ℕ
first_link [] = None
first_link (e ∷ es) = e.link

first_open : List Entry → Bool
first_open [] = true
first_open (e ∷ es) = is_open e

pub returns-clause-rests : goal.returns-clause-rests
unfolding octets_of orders_of read_of command_of packed_count accepted refusal served served_notices next_out offered
returns-clause-rests c = record {
  there = (1, omega arith, refl);
  sender_there = (0, omega arith, refl);
  matches = record { receiving = refl; sending = refl; peers = (refl, refl); sockets = (refl, refl); asked = refl; answered = refl };
  goes = refl;
  sender_goes = refl;
  end = record {
    end = spent 8 (granted 2 100 (asked_with_size 10 8 (asked_at 6 (receiving_end 16 33 2))));
    one = refl;
    others = λ other away. none_there 16 second other (program first sent_moments).peers (refl, tt) away;
    foreign = refl;
    own = refl;
    partner = refl;
  };
  opened = refl;
  link = 2;
  linked = refl;
  silent = λ place text e. absurd (cc);
}

pub returns-clause-waits : goal.returns-clause-waits
unfolding octets_of orders_of read_of command_of packed_count accepted refusal served served_notices next_out offered first_link
returns-clause-waits c f =
    let link_is : 2 ≡ f.link = some_is 2 f.link (ap first_link f.end.one ∙ f.linked) in
    f.silent 15 eight_sent.text (subst (λ (k : ℕ). box_of (record { source = second; destination = first; link = record { 0 = k } }) (crossings_of bits_sent) ≡ Waiting 15 eight_sent.text) link_is refl)

pub returns-clause-closing : goal.returns-clause-closing
unfolding octets_of orders_of read_of command_of packed_count accepted refusal served served_notices next_out offered first_open
returns-clause-closing c f = let both : false ≡ true = ap first_open f.end.one ∙ f.opened in absurd (cc)
