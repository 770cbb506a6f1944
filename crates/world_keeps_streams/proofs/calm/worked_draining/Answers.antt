use Rattle.world_keeps_streams.proofs.Common.{◌≡◌, zero, suc, Bool, true, false, [], ◌∷◌, Option, is_some, refl, ap, arith, HostMessage, first, second, program, crossings_of, none_there, NoneOut}
use Rattle.world_keeps_streams.proofs.Facts.{untrue, unfalse, no_zero}
use Rattle.bit_messages.specs.Octets.{octets_of}
use Rattle.interface.specs.Mailboxes.{Box, Empty, Taken, Waiting}
use Rattle.ncp_control.specs.Packing.{packed_count}
use Rattle.ncp_control.specs.Reading.{read_of, command_of}
use Rattle.host_pairs.specs.Control.{orders_of}
use Rattle.sockets.specs.Accepting.{accepted}
use Rattle.sockets.specs.Requests.{refusal, served, served_notices}
use Rattle.sockets.specs.Sending.{next_out, offered}
use Rattle.world_keeps_streams.specs.Worked.{draining_end, draining_moments, taking_opened}
use Rattle.world_keeps_streams.proofs.calm.worked_draining.Goals as goal

is_empty : Box → Bool
is_empty Empty = true
is_empty (Waiting place text) = false
is_empty (Taken place text) = false

none_out : NoneOut first second (crossings_of draining_moments)
none_out zero = refl
none_out (suc n) = rw (no_zero n) refl

none_back : NoneOut second first (crossings_of draining_moments)
none_back zero = refl
none_back (suc n) = rw (no_zero n) refl

pub returns-clause-drains : goal.returns-clause-drains
unfolding octets_of orders_of read_of command_of packed_count accepted refusal served served_notices next_out offered
returns-clause-drains c = record {
  there = (1, omega arith, refl);
  sender_there = (0, omega arith, refl);
  matches = record { receiving = refl; sending = refl; peers = (refl, refl); sockets = (refl, refl); asked = refl; answered = refl };
  goes = refl;
  sender_goes = refl;
  end = record {
    end = taking_opened;
    one = refl;
    others = λ other away. none_there 16 second other (program first draining_moments).peers (refl, tt) away;
    foreign = refl;
    own = refl;
    partner = refl;
  };
  giver = record {
    end = draining_end;
    one = refl;
    others = λ other away. none_there 33 first other (program second draining_moments).peers (refl, tt) away;
    foreign = refl;
    own = refl;
    partner = refl;
  };
  idle = record { there = none_out; back = none_back; mute = refl; mute_back = refl };
}

pub returns-clause-open : goal.returns-clause-open
returns-clause-open c = record { unclosed = refl; opened = refl; drains = λ closed none. (let no : true ∷ _ ≡ [] = none in absurd (cc)); waits = refl }

pub returns-clause-unanswered : goal.returns-clause-unanswered
unfolding is_empty
returns-clause-unanswered c f = untrue (ap is_empty (f.idle.there 0))

pub returns-clause-queued : goal.returns-clause-queued
unfolding octets_of orders_of read_of command_of packed_count accepted refusal served served_notices next_out offered
returns-clause-queued c f = unfalse (ap (λ (o : Option HostMessage). is_some o) f.idle.mute_back)

pub returns-clause-closed : goal.returns-clause-closed
returns-clause-closed c f = unfalse f.unclosed

pub returns-clause-heard : goal.returns-clause-heard
returns-clause-heard c f = unfalse f.unclosed

pub returns-clause-said : goal.returns-clause-said
returns-clause-said c f = untrue f.opened

pub returns-clause-shut : goal.returns-clause-shut
returns-clause-shut c f = untrue f.opened

pub returns-clause-drained : goal.returns-clause-drained
returns-clause-drained c f = f.drains refl refl

pub returns-clause-granted : goal.returns-clause-granted
returns-clause-granted c f = absurd (omega (arith, f.waits))
