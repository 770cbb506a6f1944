-- The laws of src/ that are longer than a line: each is a record, and its fields are the clauses.
use Rattle.std.specs.Prelude.{Bool, List, None, Some, [], false, true, ℕ, ◌++◌, ◌∷◌, ◌≡◌, ◌≢◌}
use Rattle.interface.specs.Host.{Host}
use Rattle.interface.specs.declared.crossing.Answer.TheVariants as answer
use Rattle.ncp_control.specs.declared.phase.Phase.TheVariants.{Closed, Gone, Heard, Ready, Want}
use Rattle.reset_law.specs.Boxes.{Empty, Taken, Waiting, boxes}
use Rattle.reset_law.specs.Events.{Contact, Down, Event, Idle, In, Other, Out, Reply, Reset, Told, Up, is_up, place}
use Rattle.reset_law.specs.Example as example
use Rattle.reset_law.specs.Example.{asked_back, both_ask, crossing, early_reply, left_events, message, one, reset}
use Rattle.reset_law.specs.Example.{reset_again, reset_beside, two}
use Rattle.reset_law.specs.Invariant.{Sound, is_signal, kind_in}
use Rattle.reset_law.specs.Monitor.{monitor}
use Rattle.reset_law.specs.Pairs.{opening_pair, pair}
use Rattle.reset_law.specs.Runs.{IsRun, WaitsAfterClean}
use Rattle.reset_law.specs.Stays.{IsPrefix, begins, heard_in_stay, joint, ready, said_in_stay, stays, waits_in}
use Rattle.reset_law.specs.Network.{AreOurs, Network}

-- Whatever happens to two hosts, in whatever order: resets that cross, fail, come late or are asked for again.
pub record CleanReset : Type 0 where
  -- a host that is through a reset takes of its peer only what went out after its last clean point for that peer
  pub clean :
      (hosts : Network) (events : List Event) (a b : Host) (link : ℕ) (text : List Bool) → AreOurs hosts a b →
      IsRun hosts (In a b link (Other text) ∷ events) → (pair b a events).phase ≡ Ready →
      WaitsAfterClean a b link text events
  -- RST and RRP are sent on link 0, and while one of them waits or has no answer nothing else is
  pub signals :
      (hosts : Network) (events : List Event) → IsRun hosts events → (a b : Host) → AreOurs hosts a b → (link : ℕ) →
      is_signal (kind_in (boxes a b events link)) ≡ true → link ≡ 0
  pub alone :
      (hosts : Network) (events : List Event) → IsRun hosts events → (a b : Host) → AreOurs hosts a b → (link : ℕ) →
      is_signal (kind_in (boxes a b events 0)) ≡ true → link ≢ 0 → boxes a b events link ≡ Empty
  -- a host that stopped has lost all its resets
  pub stopped :
      (hosts : Network) (events : List Event) → IsRun hosts events → (a b : Host) → AreOurs hosts a b → is_up hosts.all a events ≡ false →
      pair a b events ≡ opening_pair
  -- what a host that is up knows of a peer, in each phase
  pub sound :
      (hosts : Network) (events : List Event) → IsRun hosts events → (a b : Host) → AreOurs hosts a b → is_up hosts.all a events ≡ true →
      Sound (pair a b events) (monitor a b events) (boxes a b events)

-- What two hosts hear of one another, link by link, while they stay together. A stay begins where both hosts are
-- through a reset, and ends for each of them where it leaves.
pub record Stays : Type 0 where
  -- what a host heard of its peer in its stay is a prefix of what the peer said in its own, whoever has left meanwhile
  pub front :
      (hosts : Network) (events : List Event) → IsRun hosts events → (a b : Host) → AreOurs hosts a b → (link : ℕ) →
      IsPrefix (heard_in_stay a b link events) (said_in_stay a b link events)
  -- while the host stays, so is what it heard and what waits for it
  pub waiting :
      (hosts : Network) (events : List Event) → IsRun hosts events → (a b : Host) → AreOurs hosts a b → (link : ℕ) →
      stays b a events ≡ true →
      IsPrefix (heard_in_stay a b link events ++ waits_in (boxes a b events link)) (said_in_stay a b link events)
  -- while both are through a reset nothing is lost
  pub whole :
      (hosts : Network) (events : List Event) → IsRun hosts events → (a b : Host) → AreOurs hosts a b → (link : ℕ) →
      joint a b events ≡ true →
      heard_in_stay a b link events ++ waits_in (boxes a b events link) ≡ said_in_stay a b link events
  -- then both stay, and where that began nothing of an older contact waited, either way
  pub together :
      (hosts : Network) (events : List Event) → IsRun hosts events → (a b : Host) → AreOurs hosts a b → joint a b events ≡ true →
      stays a b events ≡ true
  pub beginning :
      (hosts : Network) (e : Event) (events : List Event) → IsRun hosts (e ∷ events) → (a b : Host) → AreOurs hosts a b → (link : ℕ) →
      begins a b e events ≡ true → (waits_in (boxes a b (e ∷ events) link) ≡ []) ×
      (waits_in (boxes b a (e ∷ events) link) ≡ [])

-- Resets that cross, and an RRP that comes too early.
pub record WorkedResets : Type 0 where
  -- an RRP before the RFNM of the own RST may belong to an older reset: after the RFNM another RST has to go out, and
  -- the RRP was no clean point
  pub early :
      ((pair one two early_reply).phase ≡ Gone true) ×
      ((pair one two (Told one two 0 answer.Rfnm ∷ early_reply)).phase ≡ Want) ×
      ((monitor one two (Told one two 0 answer.Rfnm ∷ early_reply)).clean ≡ None)
  -- nor is one that comes after that RFNM, and before the other RST
  pub late :
      (monitor one two (In two one 0 Reply ∷ Out two one 0 Reply ∷ Told one two 0 answer.Rfnm ∷ early_reply)).clean
      ≡ None
  -- an RST doesn't end a contact that awaits its RRP
  pub awaited : ((pair one two asked_back).phase ≡ Heard) × ((monitor one two asked_back).clean ≡ None)
  -- RSTs that cross leave both contacts waiting, and are no clean points
  pub crossed :
      ((pair one two both_ask).phase ≡ Gone false) × ((pair two one both_ask).phase ≡ Gone false) ×
      ((monitor one two both_ask).clean ≡ None) × ((monitor two one both_ask).clean ≡ None)
  -- each RRP then ends one contact, and is a clean point for the host that takes it
  pub both :
      ((pair one two crossing).phase ≡ Ready) × ((pair two one crossing).phase ≡ Ready) ×
      ((monitor one two crossing).clean ≡ Some 9) × ((monitor two one crossing).clean ≡ Some 8)
  -- an RST to a host that is ready leaves it so, drops what was begun, and is a clean point
  pub anew :
      ((pair one two reset_beside).phase ≡ Ready) × ((pair one two reset_beside).owed ≡ true) ×
      ((pair one two reset_beside).begun ≡ false) × ((monitor one two reset_beside).clean ≡ Some 7)
  -- contacts are no crossings, and a host's own wishes aren't either
  pub places : (place reset ≡ 5) × (place (Idle ∷ Contact two one ∷ reset) ≡ 5)

-- Messages that fail, and hosts that stop.
pub record WorkedFailures : Type 0 where
  -- an RST that fails ends its contact
  pub reset_fails :
      ((pair one two (Told one two 0 answer.Dead ∷ Out one two 0 Reset ∷ Contact one two ∷ [])).phase ≡ Closed) ×
      ((monitor one two (Told one two 0 answer.Dead ∷ Out one two 0 Reset ∷ Contact one two ∷ [])).pending ≡ false)
  -- a message that fails closes a pair, but not while an RRP is owed
  pub message_fails : (pair one two (Told one two 0 answer.Incomplete ∷ message)).phase ≡ Closed
  pub owing : (pair one two (Told one two 0 answer.Incomplete ∷ reset_beside)).phase ≡ Ready
  -- what a host had out is gone when it starts, and not before; what waits for it stays
  pub stops : boxes one two (Down one ∷ message) 0 ≡ Waiting 5 (Other (true ∷ []))
  pub starts :
      (boxes one two (Up one ∷ Down one ∷ message) 0 ≡ Empty) ×
      (boxes one two (Up two ∷ Down two ∷ message) 0 ≡ Waiting 5 (Other (true ∷ [])))
  pub forgets :
      ((pair two one (Down two ∷ reset)).phase ≡ Closed) × ((monitor two one (Up two ∷ Down two ∷ reset)).clean ≡ None)
  pub down :
      (is_up (one ∷ two ∷ []) one (Down one ∷ reset) ≡ false) × (is_up (one ∷ two ∷ []) two (Down one ∷ reset) ≡ true)

-- What two hosts say and hear.
pub record WorkedStays : Type 0 where
  -- a message that was taken is outstanding until its answer comes
  pub taken :
      (boxes one two (In one two 0 (Other (true ∷ [])) ∷ message) 0 ≡ Taken 5 (Other (true ∷ []))) ×
      (boxes one two (Told one two 0 answer.Rfnm ∷ In one two 0 (Other (true ∷ [])) ∷ message) 0 ≡ Empty)
  -- what was said waits, and is heard when it is taken; on another link nothing is
  pub said :
      (said_in_stay one two 0 message ≡ (true ∷ []) ∷ []) × (heard_in_stay one two 0 message ≡ []) ×
      (said_in_stay one two 2 message ≡ [])
  pub heard : heard_in_stay one two 0 (In one two 0 (Other (true ∷ [])) ∷ message) ≡ (true ∷ []) ∷ []
  -- a host that contacts anew leaves; its peer stays, and hears what waits
  pub left :
      (stays one two left_events ≡ false) × (stays two one left_events ≡ true) ×
      (heard_in_stay one two 0 (In one two 0 (Other (true ∷ [])) ∷ left_events) ≡ (true ∷ []) ∷ [])
  -- a host that takes an RST doesn't stay, though it is still ready
  pub reset :
      (ready one two reset_beside ≡ true) × (stays one two reset_beside ≡ false) × (stays two one reset_beside ≡ false)
  -- where a stay begins, words begin anew, whatever was said before
  pub again :
      (said_in_stay one two 0 reset_again ≡ []) × (heard_in_stay one two 0 reset_again ≡ []) ×
      (stays one two reset_again ≡ true)
  pub anew :
      (said_in_stay one two 0 example.reset ≡ []) × (stays one two example.reset ≡ true) ×
      (stays two one example.reset ≡ true) ×
      (stays two one (In one two 0 Reset ∷ Out one two 0 Reset ∷ Contact one two ∷ []) ≡ false)
