-- One host's own log toward one of its peers: what crosses between the host and its network, what its users do there,
-- and what they are notified of. A log is read newest first.
use Rattle.std.specs.Prelude.{ℕ, Bool, true, false, List, Option, Some, None}
use Rattle.interface.specs.declared.crossing.Answer.{Answer}
use Rattle.ncp_control.specs.declared.command.Command.{Command}
use Rattle.ncp_control.specs.declared.command.Command.TheVariants as command

-- the two sockets of a connection, as one of its hosts sees them
pub record Sockets : Type 0 where
  pub own : ℕ
  pub foreign : ℕ

pub data Act : Type 0 where
  -- a control message goes out, and then says its commands, one by one; one without commands says a NOP
  Goes : Act
  Says : (said : Command) → Act
  -- a message of data goes out on a link, or is taken
  Sends : (link : ℕ) → (text : List Bool) → Act
  Takes : (link : ℕ) → (text : List Bool) → Act
  -- a command is taken; a request may be ignored, and is then answered by an error at most
  Hears : (heard : Command) → Act
  Ignores : (request : Command) → Act
  -- the host learns what became of its message on a link
  Answered : (link : ℕ) → (kind : Answer) → Act
  -- it stops, or starts
  Stops : Act
  Starts : Act
  -- something happens that is about other peers
  Else : Act
  -- its user asks for a reset, and asks for a connection, whose request goes out later
  Contacts : Act
  Asks : (at : Sockets) → Act
  -- a user hands bits over to be sent, lets the partner send so much more, and closes
  Hands : (at : Sockets) → (bits : List Bool) → Act
  Grants : (at : Sockets) → (messages bits : ℕ) → Act
  Closes : (at : Sockets) → Act
  -- a user is notified: the connection is open, a message has arrived, so much of a grant came back, the connection
  -- is over
  Opened : (at : Sockets) → Act
  Arrived : (at : Sockets) → (bits : List Bool) → Act
  Returned : (at : Sockets) → (messages bits : ℕ) → Act
  Ended : (at : Sockets) → Act

abbrev pub is_notice : Act → Bool
is_notice (Opened at) = true
is_notice (Arrived at bits) = true
is_notice (Returned at messages bits) = true
is_notice (Ended at) = true
is_notice act = false

-- what a request asks for, as its sender sees it, and as the host that takes it does
abbrev pub asked_for : Command → Option Sockets
asked_for (command.Rts receive send link) = Some (record { own = receive; foreign = send })
asked_for (command.Str send receive size) = Some (record { own = send; foreign = receive })
asked_for c = None
