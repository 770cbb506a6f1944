-- What the calls of an end need of its definitions.
use Rattle.std.specs.Prelude.{nat_lt, not}
use Rattle.std.specs.List.{prefix_len}
use Rattle.std.proofs.Common.{arith, inl, inr, ◌≤◌, ◌==◌, Bool, false, zero, suc, IsSome, subst, ◌≡◌, ℕ, ◌+◌, ◌<◌, List, ◌∷◌, ◌++◌, length, get_or, set, drop, true, is_none, Option, None, Some, refl, sym, ap, ◌∙◌, position, cond, count_by, is_some, []}
use Rattle.std.proofs.lemmas.List.{length-append, append_assoc, drop_more, get_or_read}
use Rattle.std.proofs.lemmas.List.Quantifiers.{position-Some}
use Rattle.std.proofs.lemmas.Bool.{cases_lt, eq-eqb, eqb-true}
use Rattle.std.proofs.lemmas.Bool.Decides.{nat_tests}
use Rattle.std.proofs.lemmas.List.Sums.{sum_by-cons, sum_by-set, count_by-le-length, prefix_len-le-length}
use Rattle.packetiser.specs.PacketFields.{PacketFields}
use Rattle.imp_channel.specs.declared.channel.Channel.{Channel}
use Rattle.imp_channel.specs.declared.frame.Frame.{Frame}
use Rattle.imp_channel.specs.Holding.{packet_of, packets_in}
use Rattle.imp_channel.specs.Line.{End, opening_channel, is_free, submitted, frame_on, frames_of, frames_from}

-- a channel that is free holds nothing
pub none_from : (o : Option PacketFields) → is_none o ≡ true → o ≡ None
none_from None e = refl
none_from (Some p) e = cc

packet_counted : (packet : Option PacketFields) (count : ℕ) (ps : List PacketFields) → count ≡ length ps → cond (is_some packet) 1 0 + count ≡ length (packet_of packet ++ ps)
packet_counted None count ps rest = omega (arith, rest)
packet_counted (Some p) count ps rest = omega (arith, rest)

-- a packet waits in each busy channel
pub packets_counted : (chs : List Channel) → count_by (λ ch. is_some ch.packet) chs ≡ length (packets_in chs)
packets_counted [] = refl
packets_counted (ch ∷ chs) =
    sum_by-cons (λ (other : Channel). cond (is_some other.packet) 1 0) ch chs ∙ packet_counted ch.packet (count_by (λ other. is_some other.packet) chs) (packets_in chs) (packets_counted chs)

some_counted : (packet : Option PacketFields) (ps : List PacketFields) → IsSome packet → 0 < length (packet_of packet ++ ps)
some_counted None ps some = cc
some_counted (Some p) ps some = omega arith

-- where a channel is busy a packet waits
pub busy_counted : (chs : List Channel) (i : ℕ) (x : Channel) → i < length chs → x ≡ get_or chs i x → IsSome x.packet → 0 < length (packets_in chs)
busy_counted [] i x within is busy = absurd (omega arith)
busy_counted (ch ∷ chs) zero x within is busy =
    let P : Channel → Type 0 = λ y. IsSome y.packet in
    some_counted ch.packet (packets_in chs) (subst P is busy)
busy_counted (ch ∷ chs) (suc i) x within is busy =
    let rest : 0 < length (packets_in chs) = busy_counted chs i x (omega arith) is busy in
    omega (arith, rest, length-append (packet_of ch.packet) (packets_in chs))

-- one channel more
pub frames_more : (e : End) (chs : List Channel) (i : ℕ) (x : Channel) (done : List Frame) → i < length chs → x ≡ get_or chs i x
    → (done ++ frames_of e i x.bit x.packet) ++ frames_from e (i + 1) (drop (i + 1) chs) ≡ done ++ frames_from e i (drop i chs)
frames_more e chs i x done within is =
    append_assoc done (frames_of e i x.bit x.packet) (frames_from e (i + 1) (drop (i + 1) chs))
    ∙ ap (λ (l : List Frame). done ++ l)
    (sym (ap (λ (l : List Channel). frames_from e i l) (drop_more chs i x within ∙ ap (λ (y : Channel). y ∷ drop (i + 1) chs) (sym is))))

-- the packet goes into the channel that was found
pub submitted_at : (e : End) (p : PacketFields) (at : ℕ) (x : Channel) → position is_free e.sending ≡ Some at → at < length e.sending → x ≡ get_or e.sending at x
    → submitted e p ≡ Some (record { sending = set e.sending at (record { bit = x.bit; packet = Some p }); expected = e.expected }, frame_on e at x.bit p)
unfolding submitted
submitted_at e p at x found within is =
    let read : get_or e.sending at opening_channel ≡ x = sym (get_or_read e.sending at x within is opening_channel) in
    rw (found, read) refl

-- ---- how many channels are busy

abbrev weight : Option PacketFields → ℕ
weight o = cond (is_some o) 1 0

free_weighs : (o : Option PacketFields) → is_none o ≡ true → weight o ≡ 0
free_weighs None free = refl
free_weighs (Some p) free = cc

-- a packet in a free channel makes one more busy
pub filled_counted : (chs : List Channel) (at : ℕ) (bit : Bool) (p : PacketFields) → position is_free chs ≡ Some at
    → count_by (λ channel. is_some channel.packet) (set chs at (record { bit = bit; packet = Some p })) ≡ count_by (λ channel. is_some channel.packet) chs + 1
filled_counted chs at bit p found =
    let first = position-Some is_free chs at opening_channel found in
    let sums = sum_by-set (λ (ch : Channel). cond (is_some ch.packet) 1 0) chs at (record { bit = bit; packet = Some p }) opening_channel first.0 in
    let none : weight (get_or chs at opening_channel).packet ≡ 0 = free_weighs (get_or chs at opening_channel).packet first.1 in
    omega (arith, sums, none)

none_busy : (o : Option PacketFields) (count : ℕ) → cond (is_some o) 1 0 + count ≡ 0 → (o ≡ None) × (count ≡ 0)
none_busy None count none = (refl, omega (arith, none))
none_busy (Some p) count none = absurd (omega (arith, none))

pub none_busy_in : (ch : Channel) (chs : List Channel) → count_by (λ channel. is_some channel.packet) (ch ∷ chs) ≡ 0 → (ch.packet ≡ None) × (count_by (λ channel. is_some channel.packet) chs ≡ 0)
none_busy_in ch chs none = none_busy ch.packet (count_by (λ channel. is_some channel.packet) chs) (sym (sum_by-cons (λ (other : Channel). cond (is_some other.packet) 1 0) ch chs) ∙ none)

free_sends : (e : End) (c : ℕ) (bit : Bool) (o : Option PacketFields) → o ≡ None → frames_of e c bit o ≡ []
free_sends e c bit o free = ap (frames_of e c bit) free

-- where no channel is busy, nothing is sent again
pub none_sent : (e : End) (c : ℕ) (chs : List Channel) → count_by (λ channel. is_some channel.packet) chs ≡ 0 → frames_from e c chs ≡ []
none_sent e c [] none = refl
none_sent e c (ch ∷ chs) none =
    let free = none_busy_in ch chs none in
    ap (λ (fs : List Frame). fs ++ frames_from e (c + 1) chs) (free_sends e c ch.bit ch.packet free.0) ∙ none_sent e (c + 1) chs free.1

-- ---- whether all channels are busy

abbrev busy_in : List Channel → ℕ
busy_in chs = count_by (λ channel. is_some channel.packet) chs

-- how many are busy before the first free one
abbrev busy_first : List Channel → ℕ
busy_first chs = prefix_len (λ channel. not (is_free channel)) chs

first_of_all : (o : Option PacketFields) (busy first all : ℕ) → busy ≤ all → (busy ≡ all → first ≡ all) → weight o + busy ≡ suc all → cond (not (is_none o)) (1 + first) 0 ≡ suc all
first_of_all None busy first all most rest is = absurd (omega (arith, most, is))
first_of_all (Some p) busy first all most rest is =
    let first_is : first ≡ all = rest (omega (arith, is)) in
    omega (arith, first_is)

all_of_first : (o : Option PacketFields) (busy first all : ℕ) → (first ≡ all → busy ≡ all) → cond (not (is_none o)) (1 + first) 0 ≡ suc all → weight o + busy ≡ suc all
all_of_first None busy first all rest is = absurd (omega (arith, is))
all_of_first (Some p) busy first all rest is =
    let busy_is : busy ≡ all = rest (omega (arith, is)) in
    omega (arith, busy_is)

all_first : (chs : List Channel) → busy_in chs ≡ length chs → busy_first chs ≡ length chs
all_first [] is = refl
all_first (ch ∷ chs) is =
    first_of_all ch.packet (busy_in chs) (busy_first chs) (length chs) (count_by-le-length (λ (channel : Channel). is_some channel.packet) chs) (all_first chs)
    (sym (sum_by-cons (λ (other : Channel). cond (is_some other.packet) 1 0) ch chs) ∙ is)

all_busy : (chs : List Channel) → busy_first chs ≡ length chs → busy_in chs ≡ length chs
all_busy [] is = refl
all_busy (ch ∷ chs) is =
    sum_by-cons (λ (other : Channel). cond (is_some other.packet) 1 0) ch chs ∙ all_of_first ch.packet (busy_in chs) (busy_first chs) (length chs) (all_busy chs) is

not_all : (tested : Bool) (busy first all : ℕ) → (busy == all) ≡ tested → (busy ≡ all → first ≡ all) → first < all → (busy == all) ≡ false
not_all true busy first all is rest less =
    let first_is : first ≡ all = rest (eqb-true busy all is) in
    absurd (omega (arith, first_is, less))
not_all false busy first all is rest less = is

told_by : (busy first all : ℕ) → first ≤ all → (busy ≡ all → first ≡ all) → (first ≡ all → busy ≡ all) → (busy == all) ≡ is_none (cond (nat_lt first all) (Some first) None)
told_by busy first all most there back = elim (cases_lt first all) [
  | inl less ↦
      let tested : nat_lt first all ≡ true = grind (arith, nat_tests, less) in
      let is : (busy == all) ≡ false = not_all (busy == all) busy first all refl there less in
      rw (tested, is) refl
  | inr more ↦
      let tested : nat_lt first all ≡ false = grind (arith, nat_tests, more) in
      let is : (busy == all) ≡ true = eq-eqb busy all (back (omega (arith, most, more))) in
      rw (tested, is) refl
]

-- all channels are busy where as many are as there are
pub full_told : (chs : List Channel) → (count_by (λ channel. is_some channel.packet) chs == length chs) ≡ is_none (position is_free chs)
full_told chs = told_by (busy_in chs) (busy_first chs) (length chs) (prefix_len-le-length (λ (channel : Channel). not (is_free channel)) chs) (all_first chs) (all_busy chs)
