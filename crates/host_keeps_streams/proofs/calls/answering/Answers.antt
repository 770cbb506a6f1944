use Rattle.host_keeps_streams.proofs.Common.{◌++◌, freed, desk_of, closes, told_on}
use Rattle.host_pairs.specs.Turn.{answered_turn}
use Rattle.interface.specs.declared.crossing.Answer.TheVariants as answer
use Rattle.host_keeps_streams.proofs.Asks.{settled_received, settled_sound, told_sent}
use Rattle.host_keeps_streams.proofs.Known.{Sent}
use Rattle.host_keeps_streams.proofs.calls.answering.Goals as goal

pub returns : goal.returns
returns c = record {
  received = λ name link l peer t r h. settled_received name link (freed l t.pair).busy (desk_of t.pair t.listening) r h;
  sent = λ name link l peer t s sound h.
      let done : Sent name link (told_on link l ++ closes name _ t.pair.entries) (answered_turn peer answer.Rfnm l t).pair.entries s = told_sent name link (freed l t.pair).busy (desk_of t.pair t.listening) l s h.here h.known sound in
      (done.may, record { here = done.has; known = done.known });
  sound = λ name l peer t sound. settled_sound name l (freed l t.pair).busy (desk_of t.pair t.listening) sound;
}
