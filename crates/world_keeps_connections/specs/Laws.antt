-- The laws of src/ that are longer than a line: each is a record, and its fields are the clauses.
use Rattle.std.specs.List.{Contains}
use Rattle.std.specs.Prelude.{◌∷◌, ◌≡◌, [], false, List, true, ℕ}
use Rattle.interface.specs.Calls.{Calls}
use Rattle.interface.specs.Host.{Host}
use Rattle.interface.specs.Mailboxes as mail
use Rattle.interface.specs.declared.crossing.Crossing.TheVariants as crossing
use Rattle.ncp_control.specs.Numbers.{is_receive_socket, is_send_socket}
use Rattle.sockets.specs.Worked.{first, second}
use Rattle.sockets.specs.declared.request.Request.TheVariants as request
use Rattle.pairing_law.specs.Links.{receiver, sender, Sockets}
use Rattle.pairing_law.specs.Partners.{IsIn}
use Rattle.pairing_law.specs.Sides.{Life}
use Rattle.host_keeps_pairing.specs.Known.{ArePartners, Knows}
use Rattle.reset_law.specs.Network.{AreOurs, Network}
use Rattle.promise.specs.Connections.{IsConnected, JoinedBook}
use Rattle.promise.specs.Safe.{Match, receives, sends}
use Rattle.promise.specs.declared.life.Life as book
use Rattle.net_sim.specs.Clean.{HaveAddresses, IsLawful}
use Rattle.net_sim.specs.Mixed.{Happened, mixed_kept}
use Rattle.net_sim.specs.Story.{Asked, Crossed, Moment}
use Rattle.net_sim.specs.Timeline.{crossings_of}
use Rattle.net_sim.specs.WorkedMoments.{connected}
use Rattle.net_sim.specs.World.{WorldState}
use Rattle.world_keeps_pairing.specs.Free.{law_events, origin_in}
use Rattle.world_keeps_pairing.specs.Lives.{life_of}
use Rattle.world_keeps_pairing.specs.Steps.{steps}
use Rattle.world_keeps_pairing.specs.WorkedLives.{closed_early}
use Rattle.world_keeps_connections.specs.Users.{AreOpposite, known_in}

-- The users of two hosts with programs, over any list of moments of a network: all that crosses between them, and what they
-- ask for.
pub record Users : Type 0 where
  -- what each knows of an end is so, by the steps of the two
  pub receiver :
      (hosts : Network) (moments : List Moment) → HaveAddresses hosts.all → mail.IsRun hosts.all (crossings_of moments) →
      Happened hosts moments → (a b : Host) → AreOurs hosts a b → (s : Sockets) → is_receive_socket s.receive ≡ true →
      is_send_socket s.send ≡ true →
      Knows (known_in (origin_in (crossings_of moments) a b) a b s.receive s.send moments)
      (receiver s (steps a b (law_events moments))).end
  pub sender :
      (hosts : Network) (moments : List Moment) → HaveAddresses hosts.all → mail.IsRun hosts.all (crossings_of moments) →
      Happened hosts moments → (a b : Host) → AreOurs hosts a b → (s : Sockets) → is_receive_socket s.receive ≡ true →
      is_send_socket s.send ≡ true →
      Knows (known_in (origin_in (crossings_of moments) b a) b a s.send s.receive moments)
      (sender s (steps a b (law_events moments))).end
  -- so where both know of an open end on the same sockets, each is the other's partner
  pub partners :
      (hosts : Network) (moments : List Moment) → HaveAddresses hosts.all → mail.IsRun hosts.all (crossings_of moments) →
      Happened hosts moments → (a b : Host) → AreOurs hosts a b → (s : Sockets) → is_receive_socket s.receive ≡ true →
      is_send_socket s.send ≡ true → (x y : Life) →
      IsIn x (known_in (origin_in (crossings_of moments) a b) a b s.receive s.send moments) →
      IsIn y (known_in (origin_in (crossings_of moments) b a) b a s.send s.receive moments) → ArePartners x y

-- The lives of the book that continue, over any list of moments of a network, whatever its strangers do.
pub record Lives : Type 0 where
  -- each is an opening that the user of its host knows of
  pub known :
      (hosts : Network) (moments : List Moment) → mail.IsRun hosts.all (crossings_of moments) → Happened hosts moments →
      (origin : ℕ → ℕ) (x : book.Life) → hosts.strange x.host ≡ false →
      Contains (mixed_kept hosts.strange moments).book.lives x → x.ended ≡ false →
      IsIn (life_of origin x) (known_in origin x.host x.peer x.socket x.foreign moments)
  -- so where a life that receives and one that sends continue at the two ends of the same sockets, of two hosts with
  -- programs, they match: each has the other's own request for its partner's
  pub matches :
      (hosts : Network) (moments : List Moment) → HaveAddresses hosts.all → mail.IsRun hosts.all (crossings_of moments) →
      Happened hosts moments → (receiver sender : book.Life) → AreOurs hosts receiver.host receiver.peer →
      Contains (mixed_kept hosts.strange moments).book.lives receiver →
      Contains (mixed_kept hosts.strange moments).book.lives sender → receiver.ended ≡ false → sender.ended ≡ false →
      AreOpposite receiver sender → receives receiver ≡ true → sends sender ≡ true →
      Match (crossings_of moments) receiver sender

-- The lives in the book of a world that continue, over any carrier.
pub record Books {C : Type 0} (calls : Calls C) : Type 0 where
  -- where one that receives and one that sends continue at the two ends of the same sockets, they match
  pub matches :
      (hosts : List Host) (w : WorldState C) → IsLawful calls.seen hosts w → (receiver sender : book.Life) →
      Contains w.kept.book.lives receiver → Contains w.kept.book.lives sender → receiver.ended ≡ false →
      sender.ended ≡ false → AreOpposite receiver sender → receives receiver ≡ true → sends sender ≡ true →
      Match w.kept.book.crossings receiver sender

-- A finished initial connection pairs the right four sockets, in the book of every world over every carrier: where a
-- server and a user are both done, and their four ends opened with one another and continue, the server's sending end
-- matches the user's receiving one, and the user's sending end the server's receiving one.
pub record InitialConnections {C : Type 0} (calls : Calls C) : Type 0 where
  -- the server's base is even, and so is the socket with which the user asked: no others can be done
  pub even :
      (hosts : List Host) (w : WorldState C) → IsLawful calls.seen hosts w →
      (server user : Host) (s u : ℕ) (server_receives server_sends user_receives user_sends : book.Life) →
      IsConnected w.kept.book server user s u server_receives server_sends user_receives user_sends →
      (is_receive_socket s ≡ true) × (is_receive_socket u ≡ true)
  -- so each receiving end and the sending end with which it opened match
  pub to_user :
      (hosts : List Host) (w : WorldState C) → IsLawful calls.seen hosts w →
      (server user : Host) (s u : ℕ) (server_receives server_sends user_receives user_sends : book.Life) →
      IsConnected w.kept.book server user s u server_receives server_sends user_receives user_sends →
      Match w.kept.book.crossings user_receives server_sends
  pub to_server :
      (hosts : List Host) (w : WorldState C) → IsLawful calls.seen hosts w →
      (server user : Host) (s u : ℕ) (server_receives server_sends user_receives user_sends : book.Life) →
      IsConnected w.kept.book server user s u server_receives server_sends user_receives user_sends →
      Match w.kept.book.crossings server_receives user_sends
  -- in one word
  pub joined : (hosts : List Host) (w : WorldState C) → IsLawful calls.seen hosts w → JoinedBook w.kept.book

-- What users know in a small world: the first host's socket 16 is connected with the second's 33, by an RTS that goes
-- out at place 6 and an STR that goes out at place 8.
pub record WorkedUsers : Type 0 where
  -- each user knows of its end, by the two requests
  pub «open» :
      known_in (origin_in (crossings_of connected) first second) first second 16 33 connected
      ≡ record { own = 6; partner = 8 } ∷ []
  pub peer :
      known_in (origin_in (crossings_of connected) second first) second first 33 16 connected
      ≡ record { own = 8; partner = 6 } ∷ []
  -- and of no other
  pub others :
      (known_in (origin_in (crossings_of connected) first second) first second 33 16 connected ≡ []) ×
      (known_in (origin_in (crossings_of connected) second first) second first 16 33 connected ≡ [])
  -- a host that stops knows nothing, nor one that contacts its peer; the peer knows of its end until it is reported
  pub stopped :
      known_in (origin_in (crossings_of connected) first second) first second 16 33
      (Crossed (crossing.Down first) ∷ connected) ≡ []
  pub contact :
      known_in (origin_in (crossings_of connected) first second) first second 16 33
      (Asked first (request.Contact second) ∷ connected) ≡ []
  pub alone :
      known_in (origin_in (crossings_of connected) second first) second first 33 16
      (Asked first (request.Contact second) ∷ connected) ≡ record { own = 8; partner = 6 } ∷ []
  -- an end that its user closed before it could open was never known
  pub early : known_in (origin_in (crossings_of closed_early) first second) first second 16 33 closed_early ≡ []
