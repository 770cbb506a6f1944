-- A host and one peer of it, as far as resets go.
use Rattle.std.specs.Prelude.{◌≡◌, ◌≢◌, ◌⊎◌, ℕ, Bool, true, false, List, [], ◌∷◌, Option, Some, None, if◌then◌else◌}
use Rattle.interface.specs.Host.{Host}
use Rattle.interface.specs.declared.crossing.Answer.{Answer}
use Rattle.interface.specs.declared.crossing.Answer.TheVariants as answer
use Rattle.ncp_control.specs.Phases.{reset_phase, reply_phase, rfnm_phase, failed_phase}
use Rattle.ncp_control.specs.declared.phase.Phase.{Phase}
use Rattle.ncp_control.specs.declared.phase.Phase.TheVariants.{Closed, Want, Gone, Ready}
use Rattle.reset_law.specs.Events.{Message, Reset, Reply, Other, Event, Part, Call, Send, Take, Hear, Begin, part_of}
use Rattle.reset_law.specs.Boxes.{at_link}

-- what is outstanding on a link
pub data Kind : Type 0 where
  Rst : Kind
  Rrp : Kind
  Plain : Kind

abbrev pub kind_of : Message → Kind
kind_of Reset = Rst
kind_of Reply = Rrp
kind_of (Other text) = Plain

-- how far the reset has come, whether an RRP is owed, whether anything but RST and RRP went out since the connections of the
-- pair were dropped last, and what is outstanding on each link
pub record Pair : Type 0 where
  pub phase : Phase
  pub owed : Bool
  pub begun : Bool
  pub out : ℕ → Option Kind

abbrev pub opening_pair : Pair
opening_pair = record { phase = Closed; owed = false; begun = false; out = λ k. None }

abbrev pub pair_sent : ℕ → Message → Pair → Pair
pair_sent l Reset p = record p { phase = Gone false; out = at_link p.out l (Some Rst) }
pair_sent l Reply p = record p { owed = false; out = at_link p.out l (Some Rrp) }
pair_sent l (Other text) p = record p { begun = true; out = at_link p.out l (Some Plain) }

abbrev pub took : Message → Pair → Pair
took Reset p = record p { phase = reset_phase p.phase; owed = true; begun = false }
took Reply p = record p { phase = reply_phase p.phase }
took (Other text) p = p

abbrev pub failed : ℕ → Pair → Pair
failed l p = record { phase = failed_phase p.phase p.owed; owed = p.owed; begun = if p.owed then p.begun else false; out = at_link p.out l None }

abbrev pub pair_answered : ℕ → Answer → Pair → Pair
pair_answered l answer.Rfnm p = record p { phase = rfnm_phase l p.phase; out = at_link p.out l None }
pair_answered l answer.Dead p = failed l p
pair_answered l answer.Incomplete p = failed l p
pair_answered l answer.NotTaken p = failed l p

abbrev pub pair_moved : Option Part → Pair → Pair
pair_moved None p = p
pair_moved (Some Call) p = record p { phase = Want; begun = false }
pair_moved (Some (Send l m)) p = pair_sent l m p
pair_moved (Some (Take m)) p = took m p
pair_moved (Some (Hear l k)) p = pair_answered l k p
pair_moved (Some Begin) p = opening_pair

-- host `a`'s side of the pair with `b`
abbrev pub pair : Host → Host → List Event → Pair
pair a b [] = opening_pair
pair a b (e ∷ events) = pair_moved (part_of a b e) (pair a b events)

-- ---- what a host does by itself

abbrev pub IsFreePair : (ℕ → Option Kind) → Type 0
IsFreePair out = (k : ℕ) → out k ≡ None

-- RST and RRP each go by themselves, on link 0, the RST first. Nothing else goes while one of them waits, and nothing on a connection's
-- link before a request went out
abbrev pub MaySend : Pair → ℕ → Message → Type 0
MaySend p l Reset = (l ≡ 0) × (p.phase ≡ Want) × IsFreePair p.out
MaySend p l Reply = (l ≡ 0) × (p.owed ≡ true) × (p.phase ≢ Want) × IsFreePair p.out
MaySend p l (Other text) = (p.phase ≡ Ready) × (p.owed ≡ false) × (p.out l ≡ None) × ((l ≡ 0) ⊎ (p.begun ≡ true))
