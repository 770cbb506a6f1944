-- A line that is put together from its end to its beginning.
use Rattle.replay.proofs.Common.{decimal, Host}
use Rattle.std.proofs.Common.{◌≡◌, ℕ, ◌++◌, List, ◌∷◌, codes, append_assoc}
use Rattle.interface.specs.Printed.{answer_text, crossing_text, flow_text, host_text}
use Rattle.interface.specs.declared.address.Flow.{Flow}
use Rattle.interface.specs.declared.crossing.Answer.{Answer}
use Rattle.interface.specs.declared.crossing.Crossing.TheVariants as crossing

pub host_before : (h : Host) (rest : List ℕ) → decimal h.host ++ 47 ∷ (decimal h.imp ++ rest) ≡ host_text h ++ rest
host_before h rest = simp append_assoc

pub flow_before : (f : Flow) (rest : List ℕ)
    → host_text f.source ++ 32 ∷ (host_text f.destination ++ 32 ∷ (decimal f.link.0 ++ rest)) ≡ flow_text f ++ rest
flow_before f rest = simp append_assoc

pub message_before : (word : List ℕ) (f : Flow) (n : ℕ) (rest : List ℕ)
    → word ++ (flow_text f ++ 32 ∷ (decimal n ++ rest)) ≡ (word ++ (flow_text f ++ (codes " " ++ decimal n))) ++ rest
message_before word f n rest = simp append_assoc

pub answer_before : (kind : Answer) (f : Flow) (rest : List ℕ)
    → (codes "answer " ++ (answer_text kind ++ codes " ")) ++ (flow_text f ++ rest) ≡ crossing_text (crossing.Answer kind f) ++ rest
answer_before kind f rest = simp append_assoc

pub one_before : (word : List ℕ) (h : Host) (rest : List ℕ) → word ++ (host_text h ++ rest) ≡ (word ++ host_text h) ++ rest
one_before word h rest = simp append_assoc
