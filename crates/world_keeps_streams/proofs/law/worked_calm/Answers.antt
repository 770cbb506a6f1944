use Rattle.world_keeps_streams.proofs.Common.{◌≡◌, ℕ, zero, suc, ◌==◌, Bool, true, false, Option, is_some, refl, ap, arith, HostMessage, spent, receiving_end, sending_end, asked_at, first, second, program, crossings_of, none_there, NoneOut}
use Rattle.std.proofs.lemmas.Bool.{ne_eqb}
use Rattle.host_pairs.specs.Commands.{asked_on_link, asked_with_size, granted}
use Rattle.world_keeps_streams.proofs.Facts.{untrue, unfalse}
use Rattle.bit_messages.specs.Octets.{octets_of}
use Rattle.interface.specs.Mailboxes.{Box, Empty, Taken, Waiting}
use Rattle.ncp_control.specs.Packing.{packed_count}
use Rattle.ncp_control.specs.Reading.{read_of, command_of}
use Rattle.host_pairs.specs.Control.{orders_of}
use Rattle.sockets.specs.Accepting.{accepted}
use Rattle.sockets.specs.Requests.{refusal, served, served_notices}
use Rattle.sockets.specs.Sending.{next_out, offered}
use Rattle.world_keeps_streams.specs.Worked.{calm_moments}
use Rattle.world_keeps_streams.proofs.law.worked_calm.Goals as goal

is_empty : Box → Bool
is_empty Empty = true
is_empty (Waiting place text) = false
is_empty (Taken place text) = false

not_control : (n : ℕ) → (suc (suc (suc n)) == 0) ≡ false
not_control n = ne_eqb (suc (suc (suc n))) 0 (λ e. omega (arith, e))

not_data : (n : ℕ) → (suc (suc (suc n)) == 2) ≡ false
not_data n = ne_eqb (suc (suc (suc n))) 2 (λ e. omega (arith, e))

none_out : NoneOut first second (crossings_of calm_moments)
none_out zero = refl
none_out (suc zero) = refl
none_out (suc (suc zero)) = refl
none_out (suc (suc (suc n))) = rw (not_control n) refl

none_back : NoneOut second first (crossings_of calm_moments)
none_back zero = refl
none_back (suc zero) = refl
none_back (suc (suc zero)) = refl
none_back (suc (suc (suc n))) = rw (not_control n, not_data n) refl

pub returns-clause-calm : goal.returns-clause-calm
unfolding octets_of orders_of read_of command_of packed_count accepted refusal served served_notices next_out offered
returns-clause-calm c = record {
  there = (1, omega arith, refl);
  sender_there = (0, omega arith, refl);
  matches = record { receiving = refl; sending = refl; peers = (refl, refl); sockets = (refl, refl); asked = refl; answered = refl };
  goes = refl;
  sender_goes = refl;
  end = record {
    end = spent 8 (granted 2 100 (asked_with_size 10 8 (asked_at 6 (receiving_end 16 33 2))));
    one = refl;
    others = λ other away. none_there 16 second other (program first calm_moments).peers (refl, tt) away;
    foreign = refl;
    own = refl;
    partner = refl;
  };
  giver = record {
    end = spent 8 (granted 2 100 (asked_at 8 (asked_on_link 7 2 (sending_end 33 16 8))));
    one = refl;
    others = λ other away. none_there 33 first other (program second calm_moments).peers (refl, tt) away;
    foreign = refl;
    own = refl;
    partner = refl;
  };
  idle = record { there = none_out; back = none_back; mute = refl; mute_back = refl };
}

pub returns-clause-unanswered : goal.returns-clause-unanswered
unfolding is_empty
returns-clause-unanswered c f = untrue (ap is_empty (f.idle.back 2))

pub returns-clause-out : goal.returns-clause-out
unfolding is_empty
returns-clause-out c f = untrue (ap is_empty (f.idle.there 0))

pub returns-clause-granting : goal.returns-clause-granting
unfolding octets_of orders_of read_of command_of packed_count accepted refusal served served_notices next_out offered
returns-clause-granting c f = unfalse (ap (λ (o : Option HostMessage). is_some o) f.idle.mute)

pub returns-clause-returning : goal.returns-clause-returning
unfolding octets_of orders_of read_of command_of packed_count accepted refusal served served_notices next_out offered
returns-clause-returning c f = unfalse (ap (λ (o : Option HostMessage). is_some o) f.idle.mute_back)

pub returns-clause-closing : goal.returns-clause-closing
unfolding octets_of orders_of read_of command_of packed_count accepted refusal served served_notices next_out offered
returns-clause-closing c f = unfalse (ap (λ (o : Option HostMessage). is_some o) f.idle.mute)
