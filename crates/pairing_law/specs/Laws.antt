-- The laws of src/ that are longer than a line: each is a record, and its fields are the clauses.
use Rattle.std.specs.Prelude.{◌∷◌, ◌≡◌, [], Bool, false, List, None, Some, true, ℕ}
use Rattle.interface.specs.Host.{Host}
use Rattle.interface.specs.declared.crossing.Answer.TheVariants as answer
use Rattle.ncp_control.specs.declared.phase.Phase.TheVariants.{Ready}
use Rattle.reset_law.specs.Events as reset
use Rattle.reset_law.specs.Example.{message, one, two}
use Rattle.reset_law.specs.Pairs.{pair}
use Rattle.reset_law.specs.Runs as reset_run
use Rattle.reset_law.specs.Stays as stay
use Rattle.pairing_law.specs.Ends.{nothing}
use Rattle.pairing_law.specs.Example.{anew, asked_link, both_close, connected, first_sockets, late, left_events}
use Rattle.pairing_law.specs.Example.{next_link, over, refused, second_sockets, taken_link, used_link}
use Rattle.pairing_law.specs.Example as example
use Rattle.pairing_law.specs.Links.{AreSteps, events_at, heard_words, IsFreeLink, IsUnused, Leaves, receiver, Receiver}
use Rattle.pairing_law.specs.Links.{said_words, sender, Sender, stays}
use Rattle.pairing_law.specs.Marks.{Ask, Asks, closes}
use Rattle.pairing_law.specs.Partners.{IsOpen}
use Rattle.pairing_law.specs.Places.{placed, tagged}
use Rattle.pairing_law.specs.Sides.{both, Leave, Meet, One, Say, Two}
use Rattle.reset_law.specs.Network.{AreOurs, Network}

-- What a reset gives, over the law of resets only: where a host hears its peer, and how they meet.
pub record Resets : Type 0 where
  -- a host that is through a reset takes a text only in a stay
  pub in_stay :
      (hosts : Network) (events : List reset.Event) (a b : Host) (link : ℕ) (text : List Bool) → AreOurs hosts a b →
      reset_run.IsRun hosts (reset.In a b link (reset.Other text) ∷ events) → (pair b a events).phase ≡ Ready →
      stay.stays b a events ≡ true
  -- where a stay begins, neither has said anything but RST and RRP since it dropped its connections last
  pub silent :
      (hosts : Network) (event : reset.Event) (events : List reset.Event) (a b : Host) → AreOurs hosts a b →
      reset_run.IsRun hosts (event ∷ events) → stay.begins a b event events ≡ true →
      ((pair a b (event ∷ events)).begun ≡ false) × ((pair b a (event ∷ events)).begun ≡ false)
  -- and both have left their older stay
  pub left :
      (hosts : Network) (event : reset.Event) (events : List reset.Event) (a b : Host) → AreOurs hosts a b →
      reset_run.IsRun hosts (event ∷ events) → stay.begins a b event events ≡ true →
      (stay.stays a b events ≡ false) × (stay.stays b a events ≡ false)

-- What was heard is a prefix of what was said with its places too: each text begins with the place where it went out.
pub record Places : Type 0 where
  -- a text so tagged determines both
  pub tagged : (p q : ℕ) (s t : List Bool) → tagged p s ≡ tagged q t → (p ≡ q) × (s ≡ t)
  -- events whose texts are tagged are a run too, with the same pairs and stays
  pub run :
      (hosts : Network) (events : List reset.Event) → reset_run.IsRun hosts events →
      reset_run.IsRun hosts (placed events)
  pub same :
      (events : List reset.Event) (a b : Host) →
      (pair a b (placed events) ≡ pair a b events) × (stay.stays a b (placed events) ≡ stay.stays a b events)
  -- so what a host heard of its peer in its stay is a prefix of what the peer said in its own, text by text and place
  -- by place
  pub front :
      (hosts : Network) (events : List reset.Event) → reset_run.IsRun hosts events → (a b : Host) → AreOurs hosts a b → (link : ℕ) →
      stay.IsPrefix (stay.heard_in_stay a b link (placed events)) (stay.said_in_stay a b link (placed events))

-- A message and its place.
pub record WorkedPlaces : Type 0 where
  -- it went out at place 5, and has that place where it is taken too
  pub said : stay.said_in_stay one two 0 (placed message) ≡ tagged 5 (true ∷ []) ∷ []
  pub heard :
      stay.heard_in_stay one two 0 (placed (reset.In one two 0 (reset.Other (true ∷ [])) ∷ message))
      ≡ tagged 5 (true ∷ []) ∷ []
  pub bits : tagged 2 (true ∷ []) ≡ true ∷ true ∷ false ∷ true ∷ []
  -- a text with the same bits at another place is distinguished from it
  pub two :
      stay.said_in_stay one two 0
      (placed (reset.Out one two 0 (reset.Other (true ∷ [])) ∷ reset.Told one two 0 answer.Rfnm ∷
      reset.In one two 0 (reset.Other (true ∷ [])) ∷ message)) ≡ tagged 5 (true ∷ []) ∷ tagged 8 (true ∷ []) ∷ []

-- A connection that is opened, closed, and opened again.
pub record WorkedConnection : Type 0 where
  -- each end opens where its second request has passed, the first host's with the two places turned about
  pub live : IsOpen 3 5 (both connected).one.end × IsOpen 5 3 (both connected).two.end
  pub half_open : (IsOpen 3 0 (both left_events).two.end → ⊥) × (IsOpen 0 3 (both left_events).two.end → ⊥)
  pub opened :
      ((both connected).one.lives ≡ record { own = 3; partner = 5 } ∷ []) ×
      ((both connected).two.lives ≡ record { own = 5; partner = 3 } ∷ [])
  -- a CLS each way ends both
  pub over : ((both over).one.end ≡ nothing) × ((both over).two.end ≡ nothing)
  -- then the same sockets are connected by requests of their own
  pub again :
      ((both example.again).one.lives ≡ record { own = 9; partner = 8 } ∷ record { own = 3; partner = 5 } ∷ []) ×
      ((both example.again).two.lives ≡ record { own = 8; partner = 9 } ∷ record { own = 5; partner = 3 } ∷ [])
  -- each request belongs to the connection that this many CLS of its sender come before
  pub counted : closes (both example.again).one.said ≡ 1
  pub first : Asks 0 3 (both example.again).one.said
  pub second : Asks 1 9 (both example.again).one.said
  -- a request that is refused opens nothing, and a CLS from each side is still needed
  pub refused :
      ((both refused).two.lives ≡ []) ×
      ((both refused).one.end ≡ record { asked = Some 3; partner = None; gone = false; taken = true })
  -- CLS that cross end both
  pub both_close : ((both both_close).one.end ≡ nothing) × ((both both_close).two.end ≡ nothing)
  -- an end opens by the two requests, also where its CLS has gone out meanwhile
  pub late : (both late).one.lives ≡ record { own = 3; partner = 5 } ∷ []

-- Hosts that leave, and begin anew.
pub record WorkedStays : Type 0 where
  -- a host that leaves forgets its end, and its peer continues
  pub left :
      ((both left_events).one.end ≡ nothing) × ((both left_events).one.stays ≡ false) ×
      ((both left_events).two.stays ≡ true) ×
      ((both left_events).two.end ≡ record { asked = None; partner = Some 3; gone = false; taken = false })
  -- after a reset words begin anew, and the same sockets are connected by new requests
  pub anew :
      ((both anew).one.said ≡ Ask 8 ∷ []) × ((both anew).one.lives ≡ record { own = 8; partner = 6 } ∷ []) ×
      ((both anew).two.lives ≡ record { own = 6; partner = 8 } ∷ [])

-- Two pairs of sockets, and a link.
pub record WorkedLinks : Type 0 where
  -- what is said of one pair is nothing for the other
  pub apart :
      (events_at first_sockets asked_link ≡ One (Say (Ask 3)) ∷ Meet ∷ []) ×
      (events_at second_sockets asked_link ≡ Meet ∷ [])
  -- a request is allowed, and heard
  pub asked : AreSteps taken_link
  pub taken :
      ((sender first_sockets taken_link).end.partner ≡ Some 3) ×
      (heard_words Sender taken_link ≡ said_words Receiver taken_link)
  -- while it is its link isn't free for another, and the sender has it
  pub used : IsFreeLink 5 taken_link → ⊥
  pub has : IsUnused 5 taken_link → ⊥
  -- another link is
  pub other : IsFreeLink 6 taken_link
  -- after a CLS each way the link is free again, before the sender has taken the last of them
  pub free : IsFreeLink 5 used_link
  pub closed :
      ((receiver first_sockets used_link).end ≡ nothing) ×
      ((sender first_sockets used_link).end ≡ record { asked = None; partner = Some 3; gone = true; taken = false })
  -- then it goes to the other pair, and its old end is over by the time that the request is taken
  pub next : ((sender first_sockets next_link).end ≡ nothing) × ((sender second_sockets next_link).end.partner ≡ Some 8)
  -- leaving and meeting is that of all pairs
  pub leaves :
      (events_at second_sockets (Leaves Sender ∷ asked_link) ≡ Two Leave ∷ Meet ∷ []) ×
      (stays Sender (Leaves Sender ∷ asked_link) ≡ false) × (stays Receiver (Leaves Sender ∷ asked_link) ≡ true)
