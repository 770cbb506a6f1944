-- The law of src/histories.rt.
use Rattle.std.specs.Prelude.{◌≡◌, List, true, ℕ}
use Rattle.interface.specs.Host.{Host}
use Rattle.host_keeps_streams.specs.Ends.{HasReceiver}
use Rattle.host_keeps_streams.specs.Formed.{AreSound}
use Rattle.host_keeps_streams.specs.Histories.{AreAllowed, ends_now, HasClosed, IsHistory, IsTelling, KeepBoxAll}
use Rattle.host_keeps_streams.specs.Histories.{MayReceiveAll, MaySendAll, Moment, name_now, numbered, receiver_now}
use Rattle.host_keeps_streams.specs.Histories.{sender_now}
use Rattle.host_keeps_streams.specs.Names.{IsSending}

-- Whatever happens to the ends of a host with one peer while the two stay together, call after call, from where there
-- were none. What is assumed of the calls is in `AreAllowed`.
pub record Histories : Type 0 where
  -- all that the law's receiver of a link does by it the law lets it do, and so with the sender
  pub received :
      (number : ℕ → ℕ → ℕ → ℕ) (peer : Host) (link : ℕ) (moments : List Moment) → IsTelling number →
      IsHistory peer moments → AreAllowed number peer link moments → MayReceiveAll number peer link moments
  pub sent :
      (number : ℕ → ℕ → ℕ → ℕ) (peer : Host) (link : ℕ) (moments : List Moment) → IsTelling number →
      IsHistory peer moments → AreAllowed number peer link moments → MaySendAll number peer link moments
  -- one message at a time goes out on the link, and none is outstanding where an end that has opened closes
  pub one_message :
      (number : ℕ → ℕ → ℕ → ℕ) (peer : Host) (link : ℕ) (moments : List Moment) → IsTelling number →
      IsHistory peer moments → AreAllowed number peer link moments → KeepBoxAll number peer link moments
  -- and the program's ends are the law's after it
  pub receiver :
      (number : ℕ → ℕ → ℕ → ℕ) (peer : Host) (link : ℕ) (moments : List Moment) → IsTelling number →
      IsHistory peer moments → AreAllowed number peer link moments →
      HasReceiver (name_now number peer moments) link (ends_now peer moments) (receiver_now number peer link moments)
  pub sender :
      (number : ℕ → ℕ → ℕ → ℕ) (peer : Host) (link : ℕ) (moments : List Moment) → IsTelling number →
      IsHistory peer moments → AreAllowed number peer link moments →
      IsSending (name_now number peer moments) link (ends_now peer moments) (sender_now number peer link moments)
  pub sound :
      (number : ℕ → ℕ → ℕ → ℕ) (peer : Host) (link : ℕ) (moments : List Moment) → IsTelling number →
      IsHistory peer moments → AreAllowed number peer link moments →
      AreSound (name_now number peer moments) (ends_now peer moments)
  -- the law's receiver says the CLS of a connection before it hears the sender's only where a user closed its end
  pub closed :
      (number : ℕ → ℕ → ℕ → ℕ) (peer : Host) (link c : ℕ) (moments : List Moment) →
      (receiver_now number peer link moments).first c ≡ true → HasClosed number peer link c moments
  -- there are such numbers of connections
  pub telling : IsTelling numbered
