use Rattle.host_keeps_streams.proofs.Common.{receiver_requested, requested, free_link, sending_end, [], ◌∷◌}
use Rattle.ncp_control.specs.declared.command.Command.TheVariants as command
use Rattle.stream_law.specs.Senders as senders
use Rattle.host_keeps_streams.proofs.Known.{Sent}
use Rattle.host_keeps_streams.proofs.Requests.{receives_asked, receives_sent, receives_sound, sends_asked, sends_received, sends_sound}
use Rattle.host_keeps_streams.proofs.calls.opening.Goals as goal

pub returns : goal.returns
returns c = record {
  receives = λ name link own foreign q r even new h. receives_asked name link own foreign q even r h new;
  receives_sent = λ name link own foreign q s even h.
      let done : Sent name link [] (receiver_requested own foreign (free_link q.entries) q).entries s = receives_sent name link own foreign q even s h.here h.known _ in
      record { here = done.has; known = done.known };
  receives_sound = λ name own foreign q even n sound. receives_sound name own own foreign q even sound n (free_link q.entries);
  sends = λ name link own foreign z q s new h.
      let done : Sent name link (senders.Ask (name own foreign) z ∷ []) (requested (sending_end own foreign z) (command.Str own foreign z) q).entries s = sends_asked name link own foreign q z s h.here h.known new in
      (done.may, record { here = done.has; known = done.known });
  sends_received = λ name link own foreign z q r h. sends_received name link own foreign q z r h;
  sends_sound = λ name own foreign z q n sound. sends_sound name own own foreign q z sound n;
}
