-- Frames that are sent again.
use Rattle.imp_node.proofs.Common.{PacketFields, Channel, packet_of, packets_in, Frame, Outgoing, Port, on_port, resent_by}
use Rattle.std.proofs.Common.{◌≡◌, ℕ, ◌+◌, ◌<◌, Bool, true, List, [], ◌∷◌, ◌++◌, length, drop, map, Option, Some, None, sym, ap, ◌∙◌, arith}
use Rattle.std.proofs.lemmas.List.{length-map, append_assoc, drop_more, map-append}
use Rattle.imp_channel.specs.Line.{End, opening_channel, channel_at, frames_of, frames_from, resent}

some_by : (e : End) (c : ℕ) (bit : Bool) (packet : Option PacketFields) (rest : List Channel)
    → (0 < length (packets_in rest) → 0 < length (frames_from e (c + 1) rest))
    → 0 < length (packet_of packet ++ packets_in rest) → 0 < length (frames_of e c bit packet ++ frames_from e (c + 1) rest)
some_by e c bit None rest others some = others some
some_by e c bit (Some p) rest others some = omega arith

frames_some : (e : End) (c : ℕ) (channels : List Channel) → 0 < length (packets_in channels) → 0 < length (frames_from e c channels)
frames_some e c [] some = some
frames_some e c (channel ∷ rest) some = some_by e c _ _ rest (frames_some e (c + 1) rest) some

-- one channel more
pub again_more : (k : ℕ) (e : End) (i : ℕ) (done : List Outgoing) → i < length e.sending
    → (done ++ map (on_port k) (frames_of e i (channel_at e i).bit (channel_at e i).packet)) ++ map (on_port k) (frames_from e (i + 1) (drop (i + 1) e.sending))
    ≡ done ++ map (on_port k) (frames_from e i (drop i e.sending))
again_more k e i done within =
    let first : List Frame = frames_of e i (channel_at e i).bit (channel_at e i).packet in
    let rest : List Frame = frames_from e (i + 1) (drop (i + 1) e.sending) in
    append_assoc done (map (on_port k) first) (map (on_port k) rest)
    ∙ ap (λ (l : List Outgoing). done ++ l) (sym (map-append (on_port k) first rest))
    ∙ ap (λ (chs : List Channel). done ++ map (on_port k) (frames_from e i chs)) (sym (drop_more _ i opening_channel within))

-- a live port with a busy channel sends again
pub resent_some : (k : ℕ) (port : Port) → port.up ≡ true → 0 < length (packets_in port.line.sending) → 0 < length (resent_by k port)
resent_some k port up some =
    let frames : 0 < length (resent port.line) = frames_some port.line 0 port.line.sending some in
    rw (up, length-map (resent port.line) (on_port k)) frames
