-- How a call of the user ends.
use Rattle.std.specs.Prelude.{◌≡◌, true, List, Some, None, Result, Err, MatchResult}
use Rattle.sockets.specs.Pairs.{NcpState}
use Rattle.sockets.specs.Requests.{refusal, served, served_notices}
use Rattle.sockets.specs.declared.fault.NcpFault.{NcpFault}
use Rattle.sockets.specs.declared.fault.NcpFault.TheVariants as fault
use Rattle.host_pairs.specs.declared.notice.Notice.{Notice}
use Rattle.sockets.specs.declared.request.Request.{Request}

-- a request that is refused is answered by the first refusal that applies, and changes nothing
abbrev pub IsRefused : {X : Type 0} → NcpState → Request → Result X NcpFault → NcpState → Type 0
IsRefused {X} old r result new = (f : NcpFault) → refusal old r ≡ Some f → (result ≡ Err f) × (new ≡ old)

-- memory ran out: the program is spent, and no call may follow
abbrev pub IsSpent : NcpFault → NcpState → Type 0
IsSpent f new = (f ≡ fault.OutOfMemory) × (new.spent ≡ true)

-- any other request is served, unless memory runs out
abbrev pub IsServed : {X : Type 0} → (X → List Notice) → NcpState → Request → Result X NcpFault → NcpState → Type 0
IsServed {X} notices old r result new =
    refusal old r ≡ None → MatchResult result (λ x. (new ≡ served old r) × (notices x ≡ served_notices old r)) (λ f. IsSpent f new)

-- something of the network was taken or went out: the one new host and the notices, unless memory runs out
abbrev pub Turns : {X : Type 0} → (X → List Notice) → NcpState × List Notice → Result X NcpFault → NcpState → Type 0
Turns {X} notices turn result new = MatchResult result (λ x. turn ≡ (new, notices x)) (λ f. IsSpent f new)
