-- What frames, and the calls of an end, are on one channel.
use Rattle.std.proofs.Common.{◌≡◌, ℕ, zero, suc, ◌+◌, ◌<◌, Bool, true, false, not, List, [], ◌∷◌, ◌++◌, length, get_or, map, set, Option, Some, None, Ok, refl, sym, ap, ◌∙◌, subst, ◌⊎◌, inl, inr, cond, eqb, arith}
use Rattle.std.proofs.lemmas.Bool.{cases_eq, eq-eqb, ne_eqb, leb-false}
use Rattle.std.proofs.lemmas.List.{get_or-set_same, get_or-set_other, length-set}
use Rattle.packetiser.specs.PacketFields.{PacketFields}
use Rattle.imp_channel.specs.Carriage.{Carriage}
use Rattle.imp_channel.specs.declared.channel.Channel.{Channel}
use Rattle.imp_channel.specs.declared.channel.TheConstants.{CHANNELS}
use Rattle.imp_channel.specs.declared.frame.Content.{Content}
use Rattle.imp_channel.specs.declared.frame.Content.TheVariants as content
use Rattle.imp_channel.specs.declared.frame.Frame.{Frame}
use Rattle.imp_channel.specs.declared.frame.TheConstants.{ACKS}
use Rattle.imp_channel.specs.declared.line.Received.TheVariants as received
use Rattle.imp_channel.specs.Line.{End, opening_channel, expected_at, differs, frame_on, frames_of, frames_from, acknowledged, all_acknowledged, is_foreign, has_expected_bit, expected_after, brought}
use Rattle.imp_channel.specs.Schedule.{on_channel, given_on}
use Rattle.imp_channel.proofs.Alternating.{Passing, Carries, AllAre, expected_by, given_by}

-- what a frame has for this channel: a packet under its bit, and an acknowledgement bit
abbrev pub way_of : ℕ → Content → Passing
way_of c (content.Packet carried) = cond (eqb carried.channel c) (Some (carried.bit, carried.packet)) None
way_of c content.Nothing = None
way_of c (content.Routes distances) = None

abbrev pub way_in : ℕ → Frame → Passing
way_in c f = way_of c f.content

abbrev pub ack_in : ℕ → Frame → Bool
ack_in c f = get_or f.acks c false

-- Frames written.

frame_acks : (e : End) (c n : ℕ) (bit : Bool) (packet : Option PacketFields) (rest : List Frame) → AllAre (expected_at e c) (map (ack_in c) rest)
    → AllAre (expected_at e c) (map (ack_in c) (frames_of e n bit packet ++ rest))
frame_acks e c n bit None rest next = next
frame_acks e c n bit (Some p) rest next = (refl, next)

-- the frames of busy channels acknowledge with what the end expects
pub AllAre-frames : (e : End) (c n : ℕ) (chs : List Channel) → AllAre (expected_at e c) (map (ack_in c) (frames_from e n chs))
AllAre-frames e c n [] = tt
AllAre-frames e c n (ch ∷ chs) = frame_acks e c n ch.bit ch.packet (frames_from e (n + 1) chs) (AllAre-frames e c (n + 1) chs)

frame_elsewhere : (e : End) (ch : Channel) (c n : ℕ) (bit : Bool) (packet : Option PacketFields) (rest : List Frame) → (n ≡ c → ⊥)
    → Carries ch (map (way_in c) rest) → Carries ch (map (way_in c) (frames_of e n bit packet ++ rest))
frame_elsewhere e ch c n bit None rest other next = next
frame_elsewhere e ch c n bit (Some p) rest other next =
    let P : Bool → Type 0 = λ t. Carries ch (cond t (Some (bit, p)) None ∷ map (way_in c) rest) in subst P (sym (ne_eqb n c other)) next

frame_here : (e : End) (ch : Channel) (c n : ℕ) (packet : Option PacketFields) (rest : List Frame) → n ≡ c → ch.packet ≡ packet
    → Carries ch (map (way_in c) rest) → Carries ch (map (way_in c) (frames_of e n ch.bit packet ++ rest))
frame_here e ch c n None rest same is next = next
frame_here e ch c n (Some p) rest same is next =
    let P : Bool → Type 0 = λ t. Carries ch (cond t (Some (ch.bit, p)) None ∷ map (way_in c) rest) in
    subst P (sym (eq-eqb n c same)) (refl, is, next)

-- frames of later channels have nothing for this one
Carries-later : (e : End) (ch : Channel) (c n : ℕ) (chs : List Channel) → c < n → Carries ch (map (way_in c) (frames_from e n chs))
Carries-later e ch c n [] lt = tt
Carries-later e ch c n (first ∷ chs) lt =
    frame_elsewhere e ch c n first.bit first.packet (frames_from e (n + 1) chs) (λ (same : n ≡ c). omega arith) (Carries-later e ch c (n + 1) chs (omega arith))

-- the frames of busy channels carry, on each channel, what it holds
pub Carries-frames : (e : End) (n k c : ℕ) (chs : List Channel) → c ≡ n + k → Carries (get_or chs k opening_channel) (map (way_in c) (frames_from e n chs))
Carries-frames e n k c [] at = tt
Carries-frames e n zero c (ch ∷ chs) at =
    frame_here e ch c n ch.packet (frames_from e (n + 1) chs) (omega arith) refl (Carries-later e ch c (n + 1) chs (omega arith))
Carries-frames e n (suc k) c (ch ∷ chs) at =
    frame_elsewhere e (get_or chs k opening_channel) c n ch.bit ch.packet (frames_from e (n + 1) chs) (λ (same : n ≡ c). omega arith) (Carries-frames e (n + 1) k c chs (omega arith))

-- a frame on a channel that holds its packet carries it there, and nothing elsewhere
pub Carries-frame_on : (e : End) (k c : ℕ) (bit : Bool) (p : PacketFields) (ch : Channel) → (k ≡ c → (bit ≡ ch.bit) × (ch.packet ≡ Some p))
    → Carries ch (way_in c (frame_on e k bit p) ∷ [])
Carries-frame_on e k c bit p ch holds = ⊎_cases (cases_eq k c)
  where
    P : Bool → Type 0
    P t = Carries ch (cond t (Some (bit, p)) None ∷ [])

    ⊎_cases : (k ≡ c) ⊎ (k ≡ c → ⊥) → P (eqb k c)
    ⊎_cases (inl same) = let is = holds same in subst P (sym (eq-eqb k c same)) (is.0, is.1, tt)
    ⊎_cases (inr other) = subst P (sym (ne_eqb k c other)) tt

-- Frames taken.

-- each channel has its own acknowledgement bit
pub get_or-all_acknowledged : (acks : List Bool) (chs : List Channel) (c : ℕ)
    → get_or (all_acknowledged acks chs) c opening_channel ≡ acknowledged (get_or acks c false) (get_or chs c opening_channel)
get_or-all_acknowledged [] [] c = refl
get_or-all_acknowledged (a ∷ acks) [] c = refl
get_or-all_acknowledged [] (ch ∷ chs) zero = refl
get_or-all_acknowledged [] (ch ∷ chs) (suc c) = get_or-all_acknowledged [] chs c
get_or-all_acknowledged (a ∷ acks) (ch ∷ chs) zero = refl
get_or-all_acknowledged (a ∷ acks) (ch ∷ chs) (suc c) = get_or-all_acknowledged acks chs c

pub length-expected_after : (expected : List Bool) (brings : Content) → length (expected_after expected brings) ≡ length expected
length-expected_after expected (content.Packet carried) = at (has_expected_bit expected carried)
  where
    at : (h : Bool) → length (cond h (set expected carried.channel (not carried.bit)) expected) ≡ length expected
    at true = length-set expected carried.channel (not carried.bit)
    at false = refl
length-expected_after expected content.Nothing = refl
length-expected_after expected (content.Routes distances) = refl

-- the bit expected next on a channel, and what was given on it, as that channel's content by itself says
pub record IsOnChannel (c : ℕ) (expected : List Bool) (brings : Content) : Type 0 where
  pub expects : get_or (expected_after expected brings) c false ≡ expected_by (way_of c brings) (get_or expected c false)
  pub gives : given_on c brings (Ok (brought expected brings)) ≡ given_by (way_of c brings) (get_or expected c false)

written_bit : (h : Bool) (expected : List Bool) (k : ℕ) (v : Bool) → k < length expected
    → get_or (cond h (set expected k v) expected) k false ≡ cond h v (get_or expected k false)
written_bit true expected k v within = get_or-set_same expected k v false within
written_bit false expected k v within = refl

other_bit : (h : Bool) (expected : List Bool) (k c : ℕ) (v : Bool) → (k ≡ c → ⊥)
    → get_or (cond h (set expected k v) expected) c false ≡ get_or expected c false
other_bit true expected k c v other = get_or-set_other expected k c v false (λ (same : c ≡ k). other (sym same))
other_bit false expected k c v other = refl

given_when : (c : ℕ) (carried : Carriage) (h : Bool)
    → given_on c (content.Packet carried) (Ok (cond h (received.Fresh carried.packet) received.Repeat)) ≡ cond h (on_channel c (content.Packet carried) carried.packet) []
given_when c carried true = refl
given_when c carried false = refl

none_either : (h : Bool) → cond {A = List PacketFields} h [] [] ≡ []
none_either true = refl
none_either false = refl

same_gift : (t bit expects : Bool) (p : PacketFields)
    → cond (not (differs bit expects)) (cond t (p ∷ []) []) [] ≡ given_by (cond t (Some (bit, p)) None) expects
same_gift true bit expects p = refl
same_gift false bit expects p = none_either (not (differs bit expects))

carried_here : (expected : List Bool) (carried : Carriage) → carried.channel < length expected
    → IsOnChannel carried.channel expected (content.Packet carried)
carried_here expected carried within =
    let here : eqb carried.channel carried.channel ≡ true = eq-eqb carried.channel carried.channel refl in
    record {
      expects =
          written_bit (has_expected_bit expected carried) expected carried.channel (not carried.bit) within
          ∙ ap (λ (t : Bool). expected_by (cond t (Some (carried.bit, carried.packet)) None) (get_or expected carried.channel false)) (sym here);
      gives = given_when carried.channel carried (has_expected_bit expected carried) ∙ same_gift (eqb carried.channel carried.channel) carried.bit (get_or expected carried.channel false) carried.packet;
    }

carried_elsewhere : (c : ℕ) (expected : List Bool) (carried : Carriage) → (carried.channel ≡ c → ⊥)
    → IsOnChannel c expected (content.Packet carried)
carried_elsewhere c expected carried other =
    let elsewhere : eqb carried.channel c ≡ false = ne_eqb carried.channel c other in
    record {
      expects =
          other_bit (has_expected_bit expected carried) expected carried.channel c (not carried.bit) other
          ∙ ap (λ (t : Bool). expected_by (cond t (Some (carried.bit, carried.packet)) None) (get_or expected c false)) (sym elsewhere);
      gives =
          given_when c carried (has_expected_bit expected carried)
          ∙ (ap (λ (t : Bool). cond (has_expected_bit expected carried) (cond t (carried.packet ∷ []) []) []) elsewhere
          ∙ (none_either (has_expected_bit expected carried)
          ∙ ap (λ (t : Bool). given_by (cond t (Some (carried.bit, carried.packet)) None) (get_or expected c false)) (sym elsewhere)));
    }

pub tells_channel : (c : ℕ) (expected : List Bool) (brings : Content) → length expected ≡ ACKS → is_foreign brings ≡ false → IsOnChannel c expected brings
tells_channel c expected (content.Packet carried) whole used =
    let below : carried.channel < CHANNELS = leb-false CHANNELS carried.channel used in
    let P : ℕ → Type 0 = λ k. IsOnChannel k expected (content.Packet carried) in
    elim (cases_eq carried.channel c) [
      | inl same ↦ subst P same (carried_here expected carried (omega arith))
      | inr other ↦ carried_elsewhere c expected carried other
    ]
tells_channel c expected content.Nothing whole used = record { expects = refl; gives = refl }
tells_channel c expected (content.Routes distances) whole used = record { expects = refl; gives = refl }
