-- A frame that comes in, case by case.
use Rattle.imp_node.proofs.Common.{PacketFields, answer_to, ChannelFault, Frame, Received, State, port_at, pump, lost_by}
use Rattle.std.proofs.Common.{◌≡◌, ℕ, Bool, true, false, not, Result, Ok, refl, ap, subst, ◌∙◌}
use Rattle.std.specs.Prelude.{if◌then◌else◌}
use Rattle.imp_channel.specs.declared.line.Received.TheVariants as received
use Rattle.imp_node.specs.Arrival.{arrival, arrived, arrival_has_room, acknowledged, frame_taken, ignored, fresh, taken_frame, from_line}
use Rattle.interface.proofs.lemmas.{not_false}

-- a frame that brings a fresh packet and isn't lost: there is room for it
room_of_fresh : (r : Result Received ChannelFault) (s : State) (p : PacketFields) → r ≡ Ok (received.Fresh p) → lost_by r s ≡ false → arrival_has_room (arrival s p) s p ≡ true
room_of_fresh r s p e kept = not_false _ (subst (λ (x : Result Received ChannelFault). lost_by x s ≡ false) e kept)

-- a frame at a live end
at_live_end : (s : State) (k : ℕ) (f : Frame) → (port_at s.ports k).up ≡ true → from_line s k f ≡ taken_frame (answer_to (port_at s.ports k).line f) k f s
at_live_end s k f up = ap (λ (b : Bool). if b then taken_frame (answer_to (port_at s.ports k).line f) k f s else ignored s) up

-- a fresh packet with room
fresh_with_room : (k : ℕ) (f : Frame) (p : PacketFields) (s : State) → arrival_has_room (arrival s p) s p ≡ true
    → fresh k f p s ≡ pump (acknowledged k (frame_taken k f s)) (arrived (arrival s p) p (frame_taken k f s))
fresh_with_room k f p s room =
    ap (λ (b : Bool). if b then pump (acknowledged k (frame_taken k f s)) (arrived (arrival s p) p (frame_taken k f s)) else ignored s) room

-- a fresh packet at a live end, which isn't lost
pub from_line_fresh : (s : State) (k : ℕ) (f : Frame) (p : PacketFields) → (port_at s.ports k).up ≡ true → answer_to (port_at s.ports k).line f ≡ Ok (received.Fresh p)
    → lost_by (answer_to (port_at s.ports k).line f) s ≡ false → from_line s k f ≡ pump (acknowledged k (frame_taken k f s)) (arrived (arrival s p) p (frame_taken k f s))
from_line_fresh s k f p up answer kept =
    at_live_end s k f up
    ∙ (ap (λ (r : Result Received ChannelFault). taken_frame r k f s) answer
    ∙ fresh_with_room k f p s (room_of_fresh _ s p answer kept))
