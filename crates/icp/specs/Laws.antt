-- The laws of src/ that are longer than a line: each is a record, and its fields are the clauses.
use Rattle.std.specs.Prelude.{List, None, Some, [], drop, false, length, take, true, ℕ, ◌++◌, ◌+◌, ◌∷◌, ◌≡◌, ◌≤◌}
use Rattle.bit_messages.specs.Octets.{bits_of}
use Rattle.host_pairs.specs.declared.notice.Notice.TheVariants as notice
use Rattle.host_pairs.specs.declared.notice.Notice.{Notice}
use Rattle.interface.specs.Host.{Host}
use Rattle.sockets.specs.declared.fault.NcpFault.TheVariants as ncp
use Rattle.sockets.specs.declared.request.Request.TheVariants as request
use Rattle.icp.specs.Played.{IsConnected, IsServed, said_to, server_played, user_played}
use Rattle.icp.specs.Server.{ServerState, opening_server, server_local}
use Rattle.icp.specs.Sockets.{socket_bits}
use Rattle.icp.specs.User.{UserState, opening_user, user_local}
use Rattle.icp.specs.Worked.{first, opened_notice, second, server_asks, server_ends, third, user_asks, user_ends}
use Rattle.icp.specs.declared.outcome.Failure.TheVariants as failure
use Rattle.icp.specs.declared.outcome.Outcome.TheVariants as outcome

-- What the outcome of a server says, whatever notices it got.
pub record Served : Type 0 where
  -- it is done with its own two sockets, and only where a user had asked and both were opened by that user, crosswise
  pub done :
      (listen base : ℕ) (ns : List Notice) (receive send : ℕ) →
      (server_played (opening_server listen base) ns).2 ≡ outcome.Done receive send ∷ [] → (receive ≡ base) ×
      (send ≡ base + 1) × IsServed listen base ns
  -- and it has one outcome at most
  pub once : (s : ServerState) (ns : List Notice) → length (server_played s ns).2 ≤ 1

-- What the outcome of a user says, whatever notices it got.
pub record Connected : Type 0 where
  -- it is done with its own two sockets, and only where the server said an even base on the first connection, and both
  -- were opened with the base and the socket above it, crosswise
  pub done :
      (peer : Host) (listen own : ℕ) (ns : List Notice) (receive send : ℕ) →
      (user_played (opening_user peer listen own) ns).2 ≡ outcome.Done receive send ∷ [] → (receive ≡ own + 2) ×
      (send ≡ own + 3) × IsConnected peer listen own ns
  -- and it has one outcome at most
  pub once : (s : UserState) (ns : List Notice) → length (user_played s ns).2 ≤ 1

-- What a server does.
pub record WorkedServer : Type 0 where
  -- the user learns the base, and the server is done when both ends are open, in whichever order
  pub done :
      server_ends (opened_notice 7 first 16 ∷ opened_notice 101 first 18 ∷ opened_notice 100 first 19 ∷ [])
      ≡ outcome.Done 100 101 ∷ []
  pub other_order :
      server_ends (opened_notice 7 first 16 ∷ opened_notice 100 first 19 ∷ opened_notice 101 first 18 ∷ [])
      ≡ outcome.Done 100 101 ∷ []
  pub asks :
      server_asks (opened_notice 7 first 16 ∷ opened_notice 101 first 18 ∷ opened_notice 100 first 19 ∷ [])
      ≡ request.Send 7 (bits_of (0 ∷ 0 ∷ 0 ∷ 100 ∷ [])) ∷ request.Close 7 ∷ []
  -- one end is not enough, nor is the first connection
  pub one_end : server_ends (opened_notice 7 first 16 ∷ opened_notice 101 first 18 ∷ []) ≡ []
  pub other_end : server_ends (opened_notice 7 first 16 ∷ opened_notice 100 first 19 ∷ []) ≡ []
  -- the base is three above the user's socket, the socket above it two; at the same host
  pub the_other_way :
      server_ends (opened_notice 7 first 16 ∷ opened_notice 101 first 19 ∷ opened_notice 100 first 18 ∷ [])
      ≡ outcome.Failed failure.Stranger ∷ []
  pub other_sockets :
      server_ends (opened_notice 7 first 16 ∷ opened_notice 101 first 20 ∷ opened_notice 100 first 21 ∷ [])
      ≡ outcome.Failed failure.Stranger ∷ []
  pub other_host :
      server_ends (opened_notice 7 first 16 ∷ opened_notice 101 first 18 ∷ opened_notice 100 third 19 ∷ [])
      ≡ outcome.Failed failure.Stranger ∷ []
  -- the first user counts: a second one gets no notice, and may not have the first one's place
  pub second_user :
      server_asks (opened_notice 7 first 16 ∷ opened_notice 7 third 16 ∷ [])
      ≡ request.Send 7 (bits_of (0 ∷ 0 ∷ 0 ∷ 100 ∷ [])) ∷ request.Close 7 ∷ []
  pub for_the_first :
      server_ends (opened_notice 7 first 16 ∷ opened_notice 7 third 16 ∷ opened_notice 101 first 18 ∷
      opened_notice 100 first 19 ∷ [])
      ≡ outcome.Done 100 101 ∷ []
  pub for_the_second :
      server_ends (opened_notice 7 first 16 ∷ opened_notice 7 third 16 ∷ opened_notice 101 third 18 ∷
      opened_notice 100 third 19 ∷ [])
      ≡ outcome.Failed failure.Stranger ∷ []
  -- whoever opens both ends before a user has come is a stranger
  pub no_user :
      server_ends (opened_notice 101 first 18 ∷ opened_notice 100 first 19 ∷ opened_notice 7 first 16 ∷ [])
      ≡ outcome.Failed failure.Stranger ∷ []
  pub late_user :
      server_ends (opened_notice 101 first 18 ∷ opened_notice 7 first 16 ∷ opened_notice 100 first 19 ∷ [])
      ≡ outcome.Done 100 101 ∷ []
  -- an end of it that ends before it is done refuses; its first connection may end once it was open
  pub end_refused :
      server_ends (opened_notice 7 first 16 ∷ notice.Ended 100 first 19 ∷ []) ≡ outcome.Failed failure.Refused ∷ []
  pub other_end_refused :
      server_ends (opened_notice 7 first 16 ∷ opened_notice 101 first 18 ∷ notice.Ended 101 first 18 ∷
      opened_notice 100 first 19 ∷ [])
      ≡ outcome.Failed failure.Refused ∷ []
  pub first_refused : server_ends (notice.Ended 7 first 16 ∷ []) ≡ outcome.Failed failure.Refused ∷ []
  pub first_ended : server_ends (opened_notice 7 first 16 ∷ notice.Ended 7 first 16 ∷ []) ≡ []
  pub others_ended : server_ends (opened_notice 7 first 16 ∷ notice.Ended 16 first 33 ∷ []) ≡ []
  -- a reset counts once a connection with that host was open, and with no other host
  pub user_reset :
      server_ends (opened_notice 7 first 16 ∷ notice.PairReset first ∷ []) ≡ outcome.Failed failure.Reset ∷ []
  pub end_reset :
      server_ends (opened_notice 101 third 18 ∷ notice.PairReset third ∷ []) ≡ outcome.Failed failure.Reset ∷ []
  pub other_end_reset :
      server_ends (opened_notice 100 third 18 ∷ notice.PairReset third ∷ []) ≡ outcome.Failed failure.Reset ∷ []
  pub others_reset : server_ends (opened_notice 7 first 16 ∷ notice.PairReset third ∷ []) ≡ []
  pub early_reset : server_ends (notice.PairReset first ∷ []) ≡ []
  -- after its outcome it says nothing more
  pub no_more :
      server_ends (opened_notice 7 first 16 ∷ opened_notice 101 first 18 ∷ opened_notice 100 first 19 ∷
      notice.Ended 100 first 19 ∷ notice.PairReset first ∷ [])
      ≡ outcome.Done 100 101 ∷ []
  -- a request that was refused is a failure, once
  pub local :
      server_local (opening_server 7 100) ncp.InUse
      ≡ (record (opening_server 7 100) { over = true }, Some (outcome.Failed (failure.Local ncp.InUse)))
  pub local_after :
      server_local (record (opening_server 7 100) { over = true }) ncp.InUse
      ≡ (record (opening_server 7 100) { over = true }, None)

-- What a user does.
pub record WorkedUser : Type 0 where
  -- all that it asks for, in order, and how it is done
  pub asks :
      user_asks (opened_notice 16 second 7 ∷ notice.Arrived 16 (socket_bits 100) ∷ opened_notice 18 second 101 ∷
      opened_notice 19 second 100 ∷ [])
      ≡ request.Grant 16 1 32 ∷ request.Close 16 ∷ request.OpenReceive second 18 101 ∷
      request.OpenSend second 19 100 8 ∷ []
  pub done :
      user_ends (opened_notice 16 second 7 ∷ notice.Arrived 16 (socket_bits 100) ∷ opened_notice 18 second 101 ∷
      opened_notice 19 second 100 ∷ [])
      ≡ outcome.Done 18 19 ∷ []
  pub other_order :
      user_ends (opened_notice 16 second 7 ∷ notice.Arrived 16 (socket_bits 100) ∷ opened_notice 19 second 100 ∷
      opened_notice 18 second 101 ∷ [])
      ≡ outcome.Done 18 19 ∷ []
  -- one end is not enough, and each is with its own partner
  pub one_end :
      user_ends (opened_notice 16 second 7 ∷ notice.Arrived 16 (socket_bits 100) ∷ opened_notice 18 second 101 ∷ [])
      ≡ []
  pub other_end :
      user_ends (opened_notice 16 second 7 ∷ notice.Arrived 16 (socket_bits 100) ∷ opened_notice 19 second 100 ∷ [])
      ≡ []
  pub the_other_way :
      user_ends (opened_notice 16 second 7 ∷ notice.Arrived 16 (socket_bits 100) ∷ opened_notice 18 second 100 ∷
      opened_notice 19 second 101 ∷ [])
      ≡ []
  pub other_host :
      user_ends (opened_notice 16 second 7 ∷ notice.Arrived 16 (socket_bits 100) ∷ opened_notice 18 third 101 ∷
      opened_notice 19 third 100 ∷ [])
      ≡ []
  -- the base may come in parts, and what is beyond its 32 bits is ignored
  pub in_parts :
      user_asks (opened_notice 16 second 7 ∷ notice.Arrived 16 (take 20 (socket_bits 100)) ∷
      notice.Arrived 16 (drop 20 (socket_bits 100)) ∷ [])
      ≡ request.Grant 16 1 32 ∷ request.Close 16 ∷ request.OpenReceive second 18 101 ∷
      request.OpenSend second 19 100 8 ∷ []
  pub beyond :
      user_asks (opened_notice 16 second 7 ∷ notice.Arrived 16 (socket_bits 100 ++ socket_bits 7) ∷ [])
      ≡ request.Grant 16 1 32 ∷ request.Close 16 ∷ request.OpenReceive second 18 101 ∷
      request.OpenSend second 19 100 8 ∷ []
  pub too_few :
      user_asks (opened_notice 16 second 7 ∷ notice.Arrived 16 (take 31 (socket_bits 100)) ∷ [])
      ≡ request.Grant 16 1 32 ∷ []
  pub others_bits :
      user_asks (opened_notice 16 second 7 ∷ notice.Arrived 18 (socket_bits 100) ∷ []) ≡ request.Grant 16 1 32 ∷ []
  -- with an odd base the first connection is closed, and then it fails
  pub odd_base :
      user_asks (opened_notice 16 second 7 ∷ notice.Arrived 16 (socket_bits 101) ∷ [])
      ≡ request.Grant 16 1 32 ∷ request.Close 16 ∷ []
  pub odd_base_fails :
      user_ends (opened_notice 16 second 7 ∷ notice.Arrived 16 (socket_bits 101) ∷ [])
      ≡ outcome.Failed failure.BadSocket ∷ []
  -- the first connection may end once the base is known, and no other that it asked for
  pub refused : user_ends (notice.Ended 16 second 7 ∷ []) ≡ outcome.Failed failure.Refused ∷ []
  pub ended_early :
      user_ends (opened_notice 16 second 7 ∷ notice.Arrived 16 (take 31 (socket_bits 100)) ∷ notice.Ended 16 second 7 ∷
      [])
      ≡ outcome.Failed failure.Refused ∷ []
  pub ended :
      user_ends (opened_notice 16 second 7 ∷ notice.Arrived 16 (socket_bits 100) ∷ notice.Ended 16 second 7 ∷ []) ≡ []
  pub end_refused :
      user_ends (opened_notice 16 second 7 ∷ notice.Arrived 16 (socket_bits 100) ∷ notice.Ended 18 second 101 ∷ [])
      ≡ outcome.Failed failure.Refused ∷ []
  pub other_end_refused :
      user_ends (opened_notice 16 second 7 ∷ notice.Arrived 16 (socket_bits 100) ∷ notice.Ended 19 second 100 ∷ [])
      ≡ outcome.Failed failure.Refused ∷ []
  pub others_ended : user_ends (opened_notice 16 second 7 ∷ notice.Ended 18 third 33 ∷ []) ≡ []
  -- a reset of its peer, from the beginning on, and of no other host
  pub reset : user_ends (notice.PairReset second ∷ []) ≡ outcome.Failed failure.Reset ∷ []
  pub others_reset : user_ends (opened_notice 16 second 7 ∷ notice.PairReset third ∷ []) ≡ []
  -- after its outcome it says nothing more
  pub no_more :
      user_ends (notice.PairReset second ∷ opened_notice 16 second 7 ∷ notice.PairReset second ∷ [])
      ≡ outcome.Failed failure.Reset ∷ []
  -- a request that was refused is a failure, once
  pub local :
      user_local (opening_user second 7 16) ncp.NotContacted
      ≡ (record (opening_user second 7 16) { over = true }, Some (outcome.Failed (failure.Local ncp.NotContacted)))
  pub local_after :
      user_local (record (opening_user second 7 16) { over = true }) ncp.InUse
      ≡ (record (opening_user second 7 16) { over = true }, None)

-- What a server says to a user.
pub record WorkedSaying : Type 0 where
  -- the bits that arrive on the socket that asks, in order, once it was opened with the server's socket
  pub said :
      said_to 16 second 7 (opened_notice 16 second 7 ∷ notice.Arrived 16 (true ∷ []) ∷ notice.Arrived 18 (false ∷ []) ∷
      notice.Arrived 16 (false ∷ true ∷ []) ∷ [])
      ≡ true ∷ false ∷ true ∷ []
  -- nothing before that, and nothing where it was opened with another socket or another host
  pub before :
      said_to 16 second 7 (notice.Arrived 16 (true ∷ []) ∷ opened_notice 16 second 7 ∷ notice.Arrived 16 (false ∷ []) ∷
      [])
      ≡ false ∷ []
  pub other_socket : said_to 16 second 7 (opened_notice 16 second 9 ∷ notice.Arrived 16 (true ∷ []) ∷ []) ≡ []
  pub other_host : said_to 16 second 7 (opened_notice 16 third 7 ∷ notice.Arrived 16 (true ∷ []) ∷ []) ≡ []
