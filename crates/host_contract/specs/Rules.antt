-- The rules that a host keeps toward a peer, each about its own log only: what a rule asks, where NIC 8246 has it,
-- and what breaks if one host lacks it and keeps all others. `without/contract` has a script of that for each of the
-- first 24, under its name.

pub data Rule : Type 0 where
  -- RST and RRP each go in a message of their own (RST, RRP). Else a request beside an RRP is taken where its peer
  -- has just forgotten it, and opens an end
  Alone : Rule
  -- RST and RRP go only while no message to that host is without an answer (RST, RRP). Else a message of data from
  -- before the reset is taken in the next connection
  Idle : Rule
  -- data and all other commands go only after a reset of the two hosts (RST, RRP). Else a request is counted at one
  -- end and dropped at the other, and then requests match other requests
  Through : Rule
  -- an RRP that comes before the RFNM of one's own RST doesn't count: it may answer an older one (RRP). Else the host
  -- continues while its peer still forgets what it hears
  Early : Rule
  -- after Dead, Incomplete or NotTaken all with that host is over, and a reset comes first (RST; BBN Report 1822).
  -- Else a receiver counts the next message in place of the lost one
  Failed : Rule
  -- a host that stops has no connections any more (RST). Else it counts data in a connection that is over
  Stopped : Rule
  -- an RST that goes out or comes in drops all connections and requests with that host (RST). Else an end opens with
  -- a request from before the reset
  Forgets : Rule
  -- an end asks once: by an RTS with a link if it receives, by an STR with a byte size if it sends (RTS, STR). Else
  -- the two ends open with different requests
  Once : Rule
  -- an RTS names a link that none of the host's receiving ends with that peer has (RTS). Else a message is counted in
  -- another connection than it was sent in
  Link : Rule
  -- a CLS is sent once for an end, and only where one of its two hosts has asked (CLS). Else a CLS ends the next
  -- connection of the same sockets at one host only
  Closes : Rule
  -- an end is over when both CLS have crossed, and before that its sockets ask for nothing (CLS). Else the answer to
  -- the older request opens the newer connection
  Over : Rule
  -- a sender's CLS waits until all its data are answered (CLS). Else the next connection on that link counts the
  -- last message of the one before
  Drained : Rule
  -- the CLS of an end that opened is sent only if its user closed it, or its partner's CLS came (CLS). Else a user is
  -- notified that its partner ended the connection, and what was sent is lost
  Willed : Rule
  -- a user is notified once that an end is open, when both requests have crossed and no CLS has (RTS, STR). Else a
  -- life has no request of a partner
  Opens : Rule
  -- data go only on the link of a sending end that is open, and whose user knows it (messages of data). Else a
  -- receiver counts a message that no life of the sender has
  Sends : Rule
  -- data are in whole bytes of the size that the STR names (messages of data; STR). Else a message is answered by
  -- RFNM and counted by nobody, and the next one in its place
  Size : Rule
  -- what goes out is within what ALLs have granted, in messages and in bits (ALL). Else more is sent than was granted
  Within : Rule
  -- data are the bits that a user handed over, in order, each once (messages of data). Else what is sent isn't what
  -- was handed over
  Handed : Rule
  -- an ALL says what a user granted, and no more than that (ALL). Else the partner sends more than was granted
  Grants : Rule
  -- what RETs give back is not sent any more (RET, GVB). Else more is sent than was granted, less what was returned
  Returns : Rule
  -- a user is notified of what came on its link: in order, without a gap, within the grants (ALL). Else a life counts
  -- other messages than those that its partner counts
  Takes : Rule
  -- an end that nobody has closed counts all that comes within its grants (messages of data). Else data are answered
  -- by RFNM and lost
  All : Rule
  -- a user is notified of returns as far as RETs have said them, of what isn't used (RET). Else more is taken and
  -- returned than was granted
  Returned : Rule
  -- a user is notified that a connection is over when both CLS have crossed (CLS). Else a user believes that it has
  -- all that was sent
  Ended : Rule
  -- an RRP goes where one is owed for an RST, and nothing else goes before it (RRP). Nothing was seen to break
  -- without it
  Reply : Rule
  -- this profile's range: connections have the links 2 to 31. The protocol allows more
  Links : Rule
  -- this profile's range: an ALL, and so data, wait until both requests have crossed. The protocol allows more
  Waits : Rule
