-- What a program with two connections asks for, one on which it receives and one on which it sends.
use Rattle.std.specs.Prelude.{ℕ, min, Bool, ◌==◌, if◌then◌else◌, List, [], ◌∷◌, length, Option, Some, None}
use Rattle.host_pairs.specs.declared.notice.Notice.{Notice}
use Rattle.host_pairs.specs.declared.notice.Notice.TheVariants as notice
use Rattle.sockets.specs.declared.request.Request.{Request}
use Rattle.sockets.specs.declared.request.Request.TheVariants as request

-- at first four messages and 4096 bits are granted
abbrev pub first_requests : ℕ → List Request
first_requests receive = request.Grant receive 4 4096 ∷ []

-- for each message that arrived one message and its bits are granted again; a grant names 4294967295 bits at most
abbrev pub granted_again : ℕ → List Bool → Request
granted_again receive bits = request.Grant receive 1 (min (length bits) 4294967295)

-- where one of the two connections has ended the other is closed
abbrev pub closing : ℕ → ℕ → ℕ → List Request
closing receive send ended =
    if ended == receive then request.Close send ∷ []
    else (if ended == send then request.Close receive ∷ [] else [])

-- these bits are to be sent; there is nothing to ask for where there are none
abbrev pub sending : ℕ → List Bool → List Request
sending send [] = []
sending send (b ∷ bs) = request.Send send (b ∷ bs) ∷ []

-- the bits that a notice reports, where they arrived on this socket
abbrev pub arrived_on : ℕ → Notice → Option (List Bool)
arrived_on receive (notice.Arrived socket bits) = if socket == receive then Some bits else None
arrived_on receive n = None

-- what a notice makes a program close
abbrev pub closed_by : ℕ → ℕ → Notice → List Request
closed_by receive send (notice.Ended socket peer foreign) = closing receive send socket
closed_by receive send n = []
