-- Leaders and their octets (BBN Report 1822, message leaders).
use Rattle.std.specs.Prelude.{ℕ, ◌%◌, ◌<◌, List, [], ◌∷◌, Option, Some, None, Result, Ok, Err, ◌==◌, if◌then◌else◌}
use Rattle.interface.specs.Host.{Host, IsAddress, address_octet, host_of_octet}
use Rattle.interface.specs.declared.crossing.Answer.{Answer}
use Rattle.interface.specs.declared.crossing.Answer.TheVariants as answer
use Rattle.leader1822.specs.declared.leader.Leader.{Leader}
use Rattle.leader1822.specs.declared.leader.Leader.TheVariants as leader
use Rattle.leader1822.specs.declared.leader.LeaderFault.{LeaderFault}
use Rattle.leader1822.specs.declared.leader.LeaderFault.TheVariants as fault

-- the type of message that carries an answer; NotTaken has no type of its own
abbrev pub answer_type : Answer → ℕ
answer_type answer.Rfnm = 5
answer_type answer.Dead = 7
answer_type answer.Incomplete = 9
answer_type answer.NotTaken = 9

-- a leader about the host that the address octet names; an octet with IMP 0 names none
abbrev pub about : Option Host → (Host → Leader) → Result Leader LeaderFault
about None make = Err fault.BadImp
about (Some host) make = Ok (make host)

abbrev pub regular_leader : ℕ → ℕ → Result Leader LeaderFault
regular_leader address link = about (host_of_octet address) (λ h. leader.Regular h (record { 0 = link }))

abbrev pub answer_leader : Answer → ℕ → ℕ → Result Leader LeaderFault
answer_leader kind address link = about (host_of_octet address) (λ h. leader.Answer kind h (record { 0 = link }))

-- hosts write regular messages (type 0) and NOPs (type 4)
abbrev pub from_host : ℕ → ℕ → ℕ → Result Leader LeaderFault
from_host kind address link =
    if kind == 0 then regular_leader address link
    else (if kind == 4 then Ok leader.Nop
    else Err (fault.UnknownType kind))

-- IMPs write those, and answers of types 5, 7 and 9
abbrev pub from_imp : ℕ → ℕ → ℕ → Result Leader LeaderFault
from_imp kind address link =
    if kind == 0 then regular_leader address link
    else (if kind == 4 then Ok leader.Nop
    else (if kind == 5 then answer_leader answer.Rfnm address link
    else (if kind == 7 then answer_leader answer.Dead address link
    else (if kind == 9 then answer_leader answer.Incomplete address link
    else Err (fault.UnknownType kind)))))

-- the first four octets count: the lower four bits of the first are the type, then come address and link
abbrev pub read_by : (ℕ → ℕ → ℕ → Result Leader LeaderFault) → List ℕ → Result Leader LeaderFault
read_by read (first ∷ address ∷ link ∷ last ∷ rest) = read (first % 16) address link
read_by read octets = Err fault.ShortLeader

abbrev pub read_from_host : List ℕ → Result Leader LeaderFault
read_from_host octets = read_by from_host octets

abbrev pub read_from_imp : List ℕ → Result Leader LeaderFault
read_from_imp octets = read_by from_imp octets

-- how a leader is written
abbrev pub spelling : Leader → List ℕ
spelling leader.Nop = 4 ∷ 0 ∷ 0 ∷ 0 ∷ []
spelling (leader.Regular address link) = 0 ∷ address_octet address ∷ link.0 ∷ 0 ∷ []
spelling (leader.Answer kind address link) = answer_type kind ∷ address_octet address ∷ link.0 ∷ 0 ∷ []

-- the answer that a host reads where this one was written
abbrev pub as_told : Answer → Answer
as_told answer.Rfnm = answer.Rfnm
as_told answer.Dead = answer.Dead
as_told answer.Incomplete = answer.Incomplete
as_told answer.NotTaken = answer.Incomplete

-- the leader that is read where this one was written
abbrev pub as_read : Leader → Leader
as_read leader.Nop = leader.Nop
as_read (leader.Regular address link) = leader.Regular address link
as_read (leader.Answer kind address link) = leader.Answer (as_told kind) address link

-- a leader that can be written: its host has an address, and its link is an octet
abbrev pub IsWritten : Leader → Type 0
IsWritten leader.Nop = Unit {0}
IsWritten (leader.Regular address link) = IsAddress address × (link.0 < 256)
IsWritten (leader.Answer kind address link) = IsAddress address × (link.0 < 256)

-- a leader that hosts write
abbrev pub IsFromHost : Leader → Type 0
IsFromHost leader.Nop = Unit {0}
IsFromHost (leader.Regular address link) = Unit {0}
IsFromHost (leader.Answer kind address link) = ⊥
