-- The laws of src/ that are longer than a line: each is a record, and its fields are the clauses.
use Rattle.std.specs.Prelude.{Err, List, Ok, [], ℕ, ◌*◌, ◌++◌, ◌+◌, ◌<◌, ◌∷◌, ◌≡◌}
use Rattle.interface.specs.declared.crossing.Answer.TheVariants as answer
use Rattle.interface.specs.declared.crossing.Answer.{Answer}
use Rattle.leader1822.specs.Leader.{IsFromHost, IsWritten, answer_type, as_read, read_from_host, read_from_imp}
use Rattle.leader1822.specs.Leader.{spelling}
use Rattle.leader1822.specs.declared.leader.Leader.TheVariants as leader
use Rattle.leader1822.specs.declared.leader.Leader.{Leader}
use Rattle.leader1822.specs.declared.leader.LeaderFault.TheVariants as leader_fault

-- What a leader says is read again, and only its type, address and link are looked at (BBN Report 1822, message
-- leaders).
pub record Leaders : Type 0 where
  -- what was written is read again, whatever follows it; a written NotTaken is read as Incomplete
  pub from_imp : (l : Leader) (rest : List ℕ) → IsWritten l → read_from_imp (spelling l ++ rest) ≡ Ok (as_read l)
  pub from_host : (l : Leader) (rest : List ℕ) → IsWritten l → IsFromHost l → read_from_host (spelling l ++ rest) ≡ Ok l
  -- the flags, the last octet and what follows it change nothing
  pub flags_from_imp :
      (flags kind address link last : ℕ) (rest : List ℕ) → kind < 16 →
      read_from_imp ((16 * flags + kind) ∷ address ∷ link ∷ last ∷ rest)
      ≡ read_from_imp (kind ∷ address ∷ link ∷ 0 ∷ [])
  pub flags_from_host :
      (flags kind address link last : ℕ) (rest : List ℕ) → kind < 16 →
      read_from_host ((16 * flags + kind) ∷ address ∷ link ∷ last ∷ rest)
      ≡ read_from_host (kind ∷ address ∷ link ∷ 0 ∷ [])
  -- nothing but the type of a NOP is looked at
  pub nop : (address link last : ℕ) (rest : List ℕ) → read_from_imp (4 ∷ address ∷ link ∷ last ∷ rest) ≡ Ok leader.Nop

-- Leaders octet by octet, and octets that are none.
pub record WorkedLeaders : Type 0 where
  -- a message from host 1 at IMP 1 on link 5, and the NOP
  pub regular :
      read_from_imp (0 ∷ 65 ∷ 5 ∷ 0 ∷ []) ≡ Ok (leader.Regular (record { imp = 1; host = 1 }) (record { 0 = 5 }))
  pub nop : (read_from_imp (4 ∷ 0 ∷ 0 ∷ 0 ∷ []) ≡ Ok leader.Nop) × (read_from_host (4 ∷ 0 ∷ 0 ∷ 0 ∷ []) ≡ Ok leader.Nop)
  -- what became of a message to host 2 at IMP 2 on link 255: type 5 is RFNM, 7 Dead, 9 Incomplete
  pub rfnm :
      read_from_imp (5 ∷ 130 ∷ 255 ∷ 0 ∷ [])
      ≡ Ok (leader.Answer answer.Rfnm (record { imp = 2; host = 2 }) (record { 0 = 255 }))
  pub dead :
      read_from_imp (7 ∷ 130 ∷ 255 ∷ 0 ∷ [])
      ≡ Ok (leader.Answer answer.Dead (record { imp = 2; host = 2 }) (record { 0 = 255 }))
  pub incomplete :
      read_from_imp (9 ∷ 130 ∷ 255 ∷ 0 ∷ [])
      ≡ Ok (leader.Answer answer.Incomplete (record { imp = 2; host = 2 }) (record { 0 = 255 }))
  -- they are written so, the greatest address as 255, and NotTaken as Incomplete
  pub written :
      (spelling (leader.Regular (record { imp = 63; host = 3 }) (record { 0 = 5 })) ≡ 0 ∷ 255 ∷ 5 ∷ 0 ∷ []) ×
      (spelling leader.Nop ≡ 4 ∷ 0 ∷ 0 ∷ 0 ∷ [])
  pub answer_written :
      (kind : Answer) →
      spelling (leader.Answer kind (record { imp = 2; host = 2 }) (record { 0 = 255 }))
      ≡ answer_type kind ∷ 130 ∷ 255 ∷ 0 ∷ []
  pub types :
      (answer_type answer.Rfnm ≡ 5) × (answer_type answer.Dead ≡ 7) × (answer_type answer.Incomplete ≡ 9) ×
      (answer_type answer.NotTaken ≡ 9)
  -- hosts write no answers, and no one type 8: the lower four bits of the first octet are looked at only
  pub host_answer : read_from_host (5 ∷ 130 ∷ 255 ∷ 0 ∷ []) ≡ Err (leader_fault.UnknownType 5)
  pub unknown :
      (read_from_imp (72 ∷ 130 ∷ 255 ∷ 0 ∷ []) ≡ Err (leader_fault.UnknownType 8)) ×
      (read_from_host (72 ∷ 130 ∷ 255 ∷ 0 ∷ []) ≡ Err (leader_fault.UnknownType 8))
  -- IMP 0 is none, also in an answer; three octets are too few, whatever they are; and an unknown type comes before a
  -- bad IMP
  pub bad_imp :
      (read_from_imp (0 ∷ 64 ∷ 5 ∷ 0 ∷ []) ≡ Err leader_fault.BadImp) ×
      (read_from_imp (5 ∷ 192 ∷ 5 ∷ 0 ∷ []) ≡ Err leader_fault.BadImp) ×
      (read_from_host (0 ∷ 0 ∷ 5 ∷ 0 ∷ []) ≡ Err leader_fault.BadImp)
  pub short :
      (read_from_imp (8 ∷ 0 ∷ 0 ∷ []) ≡ Err leader_fault.ShortLeader) ×
      (read_from_imp [] ≡ Err leader_fault.ShortLeader) ×
      (read_from_host (4 ∷ 0 ∷ 0 ∷ []) ≡ Err leader_fault.ShortLeader)
  pub unknown_first : read_from_imp (8 ∷ 0 ∷ 5 ∷ 0 ∷ []) ≡ Err (leader_fault.UnknownType 8)
