-- An IMP that sends again and does nothing else: its frames are put on lines one by one.
use Rattle.subnet.proofs.Common.{PacketFields, Channel, Frame, packets_in, Outgoing, Port, on_port, resent_by, resent_from, resend, State, port_at, down_port, Net, Wire, imp_at, put_one, put_all, at_imp, grows_at, call_turn, call_grows}
use Rattle.std.proofs.Common.{◌≡◌, ℕ, ◌+◌, ◌<◌, Bool, true, List, [], ◌∷◌, ◌++◌, length, drop, map, Option, Some, None, IsSome, Result, OnOk, OnErr, refl, ap, sym, ◌∙◌, arith}
use Rattle.std.proofs.lemmas.List.{drop_more, map-append}
use Rattle.imp_channel.specs.Line.{End, opening_channel, channel_at, frames_of, frames_from}
use Rattle.imp_node.proofs.lemmas.{none_resent, pump_with, resent_some}
use Rattle.subnet.specs.declared.imp_call.ImpCall.TheVariants as call
use Rattle.subnet.specs.Inside.Telling.{OnlyResends, resent, sends_again}
use Rattle.subnet.proofs.Calls.Telling.{all_from, put_alone, put_both, put_grows, some_of_all}

-- ---- one channel

pub one_again : (k i : ℕ) (f : Frame) (frames : List Frame) (lines : List Wire) → f ∷ [] ≡ frames → put_one lines i (on_port k f) ≡ put_all lines i (map (on_port k) frames)
one_again k i f frames lines is = ap (λ (fs : List Frame). put_all lines i (map (on_port k) fs)) is

pub one_some : (f : Frame) (frames : List Frame) → f ∷ [] ≡ frames → 0 < length frames
one_some f frames is = omega (arith, ap (λ (fs : List Frame). length fs) is)

pub none_again : (k i : ℕ) (frames : List Frame) (lines : List Wire) → [] ≡ frames → lines ≡ put_all lines i (map (on_port k) frames)
none_again k i frames lines is = ap (λ (fs : List Frame). put_all lines i (map (on_port k) fs)) is

pub busy_some : (e : End) (c : ℕ) (bit : Bool) (packet : Option PacketFields) → IsSome packet → 0 < length (frames_of e c bit packet)
busy_some e c bit None some = cc
busy_some e c bit (Some p) some = omega arith

-- ---- one channel after the other

pub channel_next : (e : End) (k i c : ℕ) (lines : List Wire) → c < length e.sending
    → put_all lines i (map (on_port k) (frames_from e c (drop c e.sending)))
    ≡ put_all (put_all lines i (map (on_port k) (frames_of e c (channel_at e c).bit (channel_at e c).packet))) i (map (on_port k) (frames_from e (c + 1) (drop (c + 1) e.sending)))
channel_next e k i c lines within =
    let first : List Frame = frames_of e c (channel_at e c).bit (channel_at e c).packet in
    let rest : List Frame = frames_from e (c + 1) (drop (c + 1) e.sending) in
    ap (λ (chs : List Channel). put_all lines i (map (on_port k) (frames_from e c chs))) (drop_more _ c opening_channel within)
    ∙ ap (put_all lines i) (map-append (on_port k) first rest)
    ∙ put_both (map (on_port k) first) (map (on_port k) rest) lines i

-- ---- one port after the other

pub none_busy : (at i : ℕ) (port : Port) (lines : List Wire) → length (packets_in port.line.sending) ≡ 0 → lines ≡ put_all lines i (resent_by at port)
none_busy at i port lines none = ap (put_all lines i) (sym (none_resent at port none))

pub some_busy : (at : ℕ) (port : Port) → port.up ≡ true → 0 < length (packets_in port.line.sending) → 0 < length (resent_by at port)
some_busy at port up some = resent_some at port up some

pub port_next : (s : State) (k i : ℕ) (lines : List Wire) → k < length s.ports
    → put_all lines i (resent_from k (drop k s.ports)) ≡ put_all (put_all lines i (resent_by k (port_at s.ports k))) i (resent_from (k + 1) (drop (k + 1) s.ports))
port_next s k i lines within =
    ap (λ (ports : List Port). put_all lines i (resent_from k ports)) (drop_more _ k down_port within)
    ∙ put_both (resent_by k (port_at s.ports k)) (resent_from (k + 1) (drop (k + 1) s.ports)) lines i

pub all_resent : (k : ℕ) (ports : List Port) → resent_from k ports ≡ all_from resent_by k ports
all_resent k [] = refl
all_resent k (port ∷ ports) = ap (λ (outs : List Outgoing). resent_by k port ++ outs) (all_resent (k + 1) ports)

pub some_resent : (s : State) (k : ℕ) → k < length s.ports → 0 < length (resent_by k (port_at s.ports k)) → 0 < length (resent_from 0 s.ports)
some_resent s k within some = some_of_all resent_by _ _ k (all_resent 0 s.ports) within some

-- ---- the subnet

-- where no packet waits, it does nothing else
pub resends_alone : (s : State) → length s.store ≡ 0 → resend s ≡ record { state = s; frames = resent_from 0 s.ports }
resends_alone s none = pump_with _ s none

pub resent_alone : {T E : Type 0} (r : Result T E) (n new : Net) (i : ℕ) → OnlyResends (imp_at n.imps i) → OnOk r (new ≡ record n { lines = put_all n.lines i (resent (imp_at n.imps i)) }) → OnOk r (new ≡ at_imp (imp_at n.imps i) i (call_turn call.Resend) n)
resent_alone r n new i only is = put_alone resend sends_again r n new i only is

pub resent_grows : {T E : Type 0} (r : Result T E) (o : Option State) → OnlyResends o → OnErr r (0 < length (resent o)) → OnErr r (grows_at o (call_grows call.Resend) ≡ true)
resent_grows r o only some = put_grows resend sends_again r o only some
