-- What a calm that came to rest leaves: all lives that match agree.
use Rattle.std.specs.Prelude.{◌≡◌, false, true, List}
use Rattle.std.specs.List.{Contains}
use Rattle.interface.specs.Calls.{Seen}
use Rattle.interface.specs.Mailboxes.{Empty, box_of, is_up}
use Rattle.interface.specs.declared.address.Flow.{Flow}
use Rattle.promise.specs.Safe.{Match}
use Rattle.promise.specs.declared.life.Life.{Life}
use Rattle.net_sim.specs.Silent.{AllSilent}
use Rattle.net_sim.specs.Story.{Moment, program}
use Rattle.net_sim.specs.Timeline.{crossings_of}
use Rattle.net_sim.specs.Told.{kept_in}
use Rattle.net_sim.specs.World.{WorldState}
use Rattle.world_keeps_lives.specs.Lives.{HasOpenEnd}
use Rattle.world_keeps_streams.specs.Rests.{Agree, AreOpen}

-- memory has lasted, no host that is up has anything to say, and each message between two of them was answered
pub record HasSettled {C : Type 0} (seen : C → Seen) (w : WorldState C) : Type 0 where
  pub running : w.stopped ≡ false
  pub silent : AllSilent w.seats
  pub answered : (f : Flow) → is_up (seen w.carrier).hosts f.source (seen w.carrier).log ≡ true → is_up (seen w.carrier).hosts f.destination (seen w.carrier).log ≡ true → box_of f (seen w.carrier).log ≡ Empty

-- of each two matching lives that aren't over the receiving one has all that the sending one sent; their ends agree, and are open
abbrev pub EachAgrees : List Moment → Type 0
EachAgrees moments =
    (receiver sender : Life) → Contains (kept_in moments).book.lives receiver → Contains (kept_in moments).book.lives sender → Match (crossings_of moments) receiver sender
    → receiver.ended ≡ false → sender.ended ≡ false → (end : HasOpenEnd (program receiver.host moments) receiver) → (giver : HasOpenEnd (program sender.host moments) sender)
    → (receiver.bits ≡ sender.bits) × (receiver.messages ≡ sender.messages) × Agree receiver end.end giver.end × AreOpen end.end giver.end
