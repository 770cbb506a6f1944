use Rattle.world_keeps_streams.proofs.Common.{◌≡◌, Bool, true, false, List, [], ◌∷◌, refl, ap, arith, Allocation, Command, spent, receiving_end, sending_end, asked_at, program, sent_moments, none_there}
use Rattle.host_pairs.specs.Commands.{asked_on_link, asked_with_size, granted}
use Rattle.sockets.specs.Worked.{control, first, second}
use Rattle.bit_messages.specs.Octets.{octets_of}
use Rattle.ncp_control.specs.Packing.{packed_count}
use Rattle.ncp_control.specs.Reading.{read_of, command_of}
use Rattle.host_pairs.specs.Control.{orders_of}
use Rattle.sockets.specs.Accepting.{accepted}
use Rattle.sockets.specs.Requests.{refusal, served, served_notices}
use Rattle.sockets.specs.Sending.{next_out, offered}
use Rattle.world_keeps_streams.proofs.law.worked_settled.Goals as goal

none_queued : List Command → Bool
none_queued [] = true
none_queued (c ∷ cs) = false

pub returns-clause-settled : goal.returns-clause-settled
unfolding octets_of orders_of read_of command_of packed_count accepted refusal served served_notices next_out offered
returns-clause-settled c = record {
  rest = record {
    there = (1, omega arith, refl);
    sender_there = (0, omega arith, refl);
    matches = record { receiving = refl; sending = refl; peers = (refl, refl); sockets = (refl, refl); asked = refl; answered = refl };
    goes = refl;
    sender_goes = refl;
    end = record {
      end = spent 8 (granted 2 100 (asked_with_size 10 8 (asked_at 6 (receiving_end 16 33 2))));
      one = refl;
      others = λ other away. none_there 16 second other (program first sent_moments).peers (refl, tt) away;
      foreign = refl;
      own = refl;
      partner = refl;
    };
    opened = refl;
    link = 2;
    linked = refl;
    silent = λ place text e. absurd (cc);
  };
  giver = record {
    end = spent 8 (granted 2 100 (asked_at 8 (asked_on_link 7 2 (sending_end 33 16 8))));
    one = refl;
    others = λ other away. none_there 33 first other (program second sent_moments).peers (refl, tt) away;
    foreign = refl;
    own = refl;
    partner = refl;
  };
  silent = record { there = λ place text e. absurd (cc); back = λ place text e. absurd (cc); queue = refl; queue_back = refl };
}

pub returns-clause-agree : goal.returns-clause-agree
returns-clause-agree c = record { counters = refl; left = record { messages = refl; bits = refl } }

pub returns-clause-less : goal.returns-clause-less
returns-clause-less c a = let e : 91 ≡ 92 = ap (λ (v : Allocation). v.bits) a.counters in omega (arith, e)

pub returns-clause-lost : goal.returns-clause-lost
returns-clause-lost c a = let e : 100 ≡ 99 = a.left.bits in omega (arith, e)

pub returns-clause-message : goal.returns-clause-message
returns-clause-message c a = let e : 2 ≡ 1 = a.left.messages in omega (arith, e)

pub returns-clause-granting : goal.returns-clause-granting
unfolding octets_of orders_of read_of command_of packed_count accepted refusal served served_notices next_out offered none_queued
returns-clause-granting c s = let e : false ≡ true = ap none_queued s.silent.queue in absurd (cc)

pub returns-clause-granted : goal.returns-clause-granted
returns-clause-granted c s = s.silent.there 17 (control first second (4 ∷ 2 ∷ 0 ∷ 1 ∷ 0 ∷ 0 ∷ 0 ∷ 8 ∷ [])).text refl

pub returns-clause-returning : goal.returns-clause-returning
unfolding octets_of orders_of read_of command_of packed_count accepted refusal served served_notices next_out offered none_queued
returns-clause-returning c s = let e : false ≡ true = ap none_queued s.silent.queue_back in absurd (cc)

pub returns-clause-returned : goal.returns-clause-returned
returns-clause-returned c s = s.silent.back 19 (control second first (6 ∷ 2 ∷ 0 ∷ 0 ∷ 0 ∷ 0 ∷ 0 ∷ 46 ∷ [])).text refl
