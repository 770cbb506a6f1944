-- IMPs in which all packets that wait are stuck.
use Rattle.subnet.proofs.Common.{AllByRecursion, list_all, ◌≡◌, ℕ, ◌<◌, Bool, true, false, ◌&&◌, List, [], ◌∷◌, length, Option, Some, None, refl, ap, arith, PacketFields, Inbound, Message, Told, ignored, State, host_at}
use Rattle.std.specs.Prelude.{is_some}
use Rattle.std.proofs.lemmas.Bool.{and_parts}
use Rattle.routing.specs.RouteTable.{next_of}
use Rattle.imp_node.specs.Pump.{packet_sent, pump, sent_on, target}
use Rattle.imp_node.specs.Taking.{first_of, next_for}
use Rattle.imp_node.proofs.lemmas.{Rests, stays, stuck_rests, taking_still}
use Rattle.subnet.specs.Inside.Settled.{is_stuck, is_stuck_by, only_waits}

stuck_stays : (s : State) (p : PacketFields) (o : Option ℕ) → is_stuck_by s o ≡ true → packet_sent s.ports p o ≡ sent_on s.ports 0 p None
stuck_stays s p None is = absurd cc
stuck_stays s p (Some k) is = stays s.ports p k is

all_stuck : (s : State) (ps : List PacketFields) → list_all (is_stuck s) ps ≡ true → AllByRecursion (λ p. packet_sent s.ports p (next_of s.routes (target p)) ≡ sent_on s.ports 0 p None) ps
all_stuck s [] all = tt
all_stuck s (p ∷ ps) all =
    let both = and_parts (is_stuck s p) (list_all (is_stuck s) ps) all in
    (stuck_stays s p _ both.0, all_stuck s ps both.1)

-- the pump then does nothing
pub only_rests : (s : State) → only_waits s ≡ true → pump [] s ≡ ignored s
only_rests s all = stuck_rests s (all_stuck s _ all)

pub none_first : (answers : List Told) (queue : List Message) → length answers ≡ 0 → length queue ≡ 0 → first_of answers queue ≡ None
none_first [] [] answers queue = refl
none_first [] (m ∷ queue) answers some = absurd (omega (arith, some))
none_first (told ∷ answers) queue some none = absurd (omega (arith, some))

-- and a taking of a host for which nothing waits does nothing
pub stuck_takes : (s : State) (h : ℕ) → h < length s.hosts → (host_at s h).up ≡ true → next_for s h ≡ None → only_waits s ≡ true → Rests s h
stuck_takes s h there up none all = taking_still s h there up (ap (λ (o : Option Inbound). is_some o) none) (only_rests s all)
