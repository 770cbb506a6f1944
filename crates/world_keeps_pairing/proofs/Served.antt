-- What users ask for isn't refused, and has numbers of their types.
use Rattle.world_keeps_pairing.proofs.Common.{◌≡◌, Bool, false, List, [], ◌∷◌, None, Host, IsAsked, refusal, Moment, Crossed, Asked, program, Network, Happened}

abbrev pub AreServed : Network → List Moment → Type 0
AreServed hosts [] = Unit {0}
AreServed hosts (Asked h r ∷ moments) = (hosts.strange h ≡ false → (refusal (program h moments) r ≡ None) × IsAsked r) × AreServed hosts moments
AreServed hosts (Crossed c ∷ moments) = AreServed hosts moments

-- so it is in a timeline
pub served_in : (hosts : Network) (moments : List Moment) → Happened hosts moments → AreServed hosts moments
served_in hosts [] time = tt
served_in hosts (Asked h r ∷ moments) time = ((λ off. ((time.0 off).2, (time.0 off).3)), served_in hosts moments time.1)
served_in hosts (Crossed c ∷ moments) time = served_in hosts moments time.1
