-- The bits of the channels, which are kept beside them.
use Rattle.std.specs.Prelude.{if◌then◌else◌, not}
use Rattle.std.proofs.Common.{arith, Bool, true, false, cond, List, [], ◌∷◌, Option, Some, None, length, map, set, get_or, replicate, count_by, ℕ, ◌+◌, ◌<◌, ◌≡◌, ◌∙◌, refl, ap, sym, is_some}
use Rattle.std.proofs.lemmas.List.{get_or-map, map-set}
use Rattle.std.proofs.lemmas.List.Sums.{sum_by-set}
use Rattle.std.proofs.Math.Seq.{map-set_same}
use Rattle.packetiser.specs.PacketFields.{PacketFields}
use Rattle.imp_channel.specs.declared.channel.Channel.{Channel}
use Rattle.imp_channel.specs.Line.{opening_channel, differs, acknowledged, all_acknowledged}
use Rattle.imp_channel.proofs.Calls.{none_busy_in}

abbrev bit_of : Channel → Bool
bit_of ch = ch.bit

-- channels that are reset have bit 0
reset_in : (chs : List Channel) → replicate (length chs) false ≡ map (λ ch. ch.bit) (map (λ _. opening_channel) chs)
reset_in [] = refl
reset_in (ch ∷ chs) = ap (λ (bits : List Bool). false ∷ bits) (reset_in chs)

pub reset_bits : (chs : List Channel) (count : ℕ) → length chs ≡ count → replicate count false ≡ map (λ ch. ch.bit) (map (λ _. opening_channel) chs)
reset_bits chs count is = ap (λ (n : ℕ). replicate n false) (sym is) ∙ reset_in chs

-- a packet in a channel leaves its bit
pub filled_bits : (chs : List Channel) (at : ℕ) (x : Channel) (p : PacketFields) → map (λ ch. ch.bit) (set chs at (record { bit = (get_or chs at x).bit; packet = Some p })) ≡ map (λ ch. ch.bit) chs
filled_bits chs at x p = map-set_same bit_of chs at (record { bit = (get_or chs at x).bit; packet = Some p }) x refl

-- the bits stay beside the channels where one of them is acknowledged
pub bits_changed : (bits after : List Bool) (chs : List Channel) (c : ℕ) (x : Channel) (ack : Bool) → bits ≡ map (λ ch. ch.bit) chs → x.bit ≡ ack → after ≡ set bits c ack → after ≡ map (λ ch. ch.bit) (set chs c x)
bits_changed bits after chs c x ack are is now =
    now ∙ ap (λ (b : Bool). set bits c b) (sym is) ∙ ap (λ (all : List Bool). set all c x.bit) are ∙ sym (map-set bit_of chs c x)

pub bits_kept : (bits after : List Bool) (chs : List Channel) (c : ℕ) (x : Channel) → bits ≡ map (λ ch. ch.bit) chs → c < length chs → x.bit ≡ get_or bits c false → after ≡ bits → after ≡ map (λ ch. ch.bit) (set chs c x)
bits_kept bits after chs c x are within is now =
    let read : get_or bits c false ≡ (get_or chs c opening_channel).bit = ap (λ (all : List Bool). get_or all c false) are ∙ get_or-map bit_of chs c opening_channel false within in
    now ∙ are ∙ sym (map-set_same bit_of chs c x opening_channel (is ∙ read))

abbrev weight : Channel → ℕ
weight ch = cond (is_some ch.packet) 1 0

-- and so does the count of those that were freed
pub freed_set : (chs : List Channel) (c : ℕ) (x y : Channel) (gone : Bool) (freed after all : ℕ) → c < length chs
    → cond (is_some y.packet) 1 0 + cond gone 1 0 ≡ cond (is_some (get_or chs c x).packet) 1 0 → after ≡ freed + cond gone 1 0
    → count_by (λ ch. is_some ch.packet) chs + freed ≡ all → count_by (λ ch. is_some ch.packet) (set chs c y) + after ≡ all
freed_set chs c x y gone freed after all within one more so_far = omega (arith, sum_by-set weight chs c y x within, one, more, so_far)

pub one_more : (gone : Bool) (freed after : ℕ) → gone ≡ true → after ≡ freed + 1 → after ≡ freed + cond gone 1 0
one_more gone freed after is more = rw is more

pub none_more : (gone : Bool) (freed after : ℕ) → gone ≡ false → after ≡ freed → after ≡ freed + cond gone 1 0
none_more gone freed after is same = rw is (omega (arith, same))

pub same_differs : (bit : Bool) → differs bit bit ≡ false
same_differs true = refl
same_differs false = refl

either : (b : Bool) (ch : Channel) → cond b ch ch ≡ ch
either true ch = refl
either false ch = refl

stays : (ch : Channel) → acknowledged ch.bit ch ≡ ch
stays ch = rw (same_differs ch.bit) (either (is_some ch.packet) ch)

own : (chs : List Channel) → all_acknowledged (map (λ ch. ch.bit) chs) chs ≡ chs
own [] = refl
own (ch ∷ chs) =
    ap (λ (c : Channel). c ∷ all_acknowledged (map (λ ch. ch.bit) chs) chs) (stays ch) ∙ ap (λ (cs : List Channel). ch ∷ cs) (own chs)

-- the channels' own bits free none
pub own_acknowledged : (acks bits : List Bool) (chs : List Channel) → acks ≡ bits → bits ≡ map (λ ch. ch.bit) chs → all_acknowledged acks chs ≡ chs
own_acknowledged acks bits chs same are = ap (λ (given : List Bool). all_acknowledged given chs) (same ∙ are) ∙ own chs

-- no bit changes a free channel
free_stays : (ack : Bool) (ch : Channel) → ch.packet ≡ None → acknowledged ack ch ≡ ch
free_stays ack ch free =
    ap (λ (p : Option PacketFields). if is_some p then (if differs ack ch.bit then record { bit = not ch.bit; packet = None } else ch) else ch) free

-- nor do any bits change channels of which none is busy
pub none_acknowledged : (acks : List Bool) (chs : List Channel) → count_by (λ ch. is_some ch.packet) chs ≡ 0 → all_acknowledged acks chs ≡ chs
none_acknowledged acks [] none = refl
none_acknowledged [] (ch ∷ chs) none =
    let free = none_busy_in ch chs none in
    ap (λ (c : Channel). c ∷ all_acknowledged [] chs) (free_stays false ch free.0)
    ∙ ap (λ (cs : List Channel). ch ∷ cs) (none_acknowledged [] chs free.1)
none_acknowledged (ack ∷ acks) (ch ∷ chs) none =
    let free = none_busy_in ch chs none in
    ap (λ (c : Channel). c ∷ all_acknowledged acks chs) (free_stays ack ch free.0)
    ∙ ap (λ (cs : List Channel). ch ∷ cs) (none_acknowledged acks chs free.1)
