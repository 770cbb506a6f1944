-- The lowest of links, found from the first one on.
use Rattle.std.proofs.Common.{◌≡◌, ℕ, ◌*◌, ◌≤◌, true, false, Bool, if◌then◌else◌, suc, length, take, drop, filter, ◌++◌, List, [], ◌∷◌, Option, Some, None, refl, ap, sym, ◌∙◌, arith}
use Rattle.ncp_control.specs.Command.{is_alone, spelling}
use Rattle.ncp_control.specs.Packing.{packed_count, spellings}
use Rattle.ncp_control.specs.declared.command.Command.{Command}
use Rattle.ncp_control.specs.declared.command.Command.TheVariants as command
use Rattle.ncp_control.proofs.lemmas.{longest_front}
use Rattle.bit_messages.specs.Octets.{bits_of, octet_bits}
use Rattle.bit_messages.proofs.lemmas.{bits_of-append, length-bits_of}
use Rattle.std.proofs.lemmas.List.{append-nil, length-take, take_all, drop_all}
use Rattle.std.specs.Int.{w16, to_be_bytes}
use Rattle.host_pairs.specs.Control.{control_text}
use Rattle.host_pairs.specs.Data.{data_text}
use Rattle.host_pairs.specs.Parcels.{link_of, lower, lowest_link, may_send}
use Rattle.host_pairs.specs.declared.entry.Entry.{Entry}

-- the lower of a link that was found and of one after it
abbrev pub lower_of : Option ℕ → Option ℕ → Option ℕ
lower_of None later = later
lower_of (Some link) later = Some (lower link later)

-- one link more is the lower of it and of what was found
pub lower_more : (found : Option ℕ) (link : ℕ) (later : Option ℕ) → lower_of (Some (lower link found)) later ≡ lower_of found (Some (lower link later))
lower_more None link later = refl
lower_more (Some other) link None = ap (λ (n : ℕ). Some n) (omega arith)
lower_more (Some other) link (Some last) = ap (λ (n : ℕ). Some n) (omega arith)

-- a link that isn't lower than the one that was found leaves it
pub kept_lower : (b : Bool) (found : Option ℕ) (link : ℕ) → Some (lower link found) ≡ found → found ≡ (if b then Some (lower link found) else found)
kept_lower true found link e = sym e
kept_lower false found link e = refl

lower_by : (busy : List ℕ) (e : Entry) (es : List Entry) (found : Option ℕ) (b : Bool) → may_send busy e ≡ b
    → lower_of (if may_send busy e then Some (lower (link_of e.link) found) else found) (lowest_link (filter (may_send busy) es)) ≡ lower_of found (lowest_link (filter (may_send busy) (e ∷ es)))
lower_by busy e es found true is = rw is (lower_more found (link_of e.link) (lowest_link (filter (may_send busy) es)))
lower_by busy e es found false is = rw is refl

-- one end more
pub lower_step : (busy : List ℕ) (e : Entry) (es : List Entry) (found : Option ℕ)
    → lower_of (if may_send busy e then Some (lower (link_of e.link) found) else found) (lowest_link (filter (may_send busy) es)) ≡ lower_of found (lowest_link (filter (may_send busy) (e ∷ es)))
lower_step busy e es found = lower_by busy e es found (may_send busy e) refl

-- with no link after it
pub lower_end : (found : Option ℕ) → lower_of found None ≡ found
lower_end None = refl
lower_end (Some link) = refl

-- ---- octets as bits

whole : (octets : List ℕ) → take (8 * length octets) (bits_of octets) ≡ bits_of octets
whole [] = refl
whole (o ∷ os) =
    let more : 8 * length (o ∷ os) ≡ suc (suc (suc (suc (suc (suc (suc (suc (8 * length os)))))))) = omega arith in
    rw more (ap (λ (bits : List Bool). octet_bits o ++ bits) (whole os))

-- all bits of this many octets
pub whole_octets : (octets : List ℕ) (n : ℕ) → n ≡ length octets → take (8 * n) (bits_of octets) ≡ bits_of octets
whole_octets octets n is = rw is (whole octets)

-- ---- the octets of a control message

-- those of its header, and these after them
abbrev pub message_octets : List ℕ → List ℕ
message_octets octets = 0 ∷ 8 ∷ to_be_bytes w16 (length octets) ++ 0 ∷ octets

pub message_room : (octets : List ℕ) → length octets ≤ 120 → length (message_octets octets) ≤ 125
message_room octets room = omega (arith, room)

-- they end where their buffer ends
pub all_put : (octets before : List ℕ) → length before ≡ 125 → octets ++ drop 125 before ≡ octets
all_put octets before is = ap (λ (ns : List ℕ). octets ++ ns) (drop_all 125 before (omega (arith, is))) ∙ append-nil octets

-- their bits are its text
pub message_bits : (octets : List ℕ) → bits_of (message_octets octets) ≡ control_text octets
message_bits octets = bits_of-append (0 ∷ 8 ∷ to_be_bytes w16 (length octets) ++ 0 ∷ []) octets

-- all of this many bits or fewer
pub all_bits : (count : ℕ) (bits : List Bool) → length bits ≤ count → take count bits ≡ bits
all_bits count bits le = take_all count bits le

pub none_behind : (count : ℕ) (bits : List Bool) → length bits ≤ count → drop count bits ≡ []
none_behind count bits le = drop_all count bits le

-- ---- commands

-- a prefix of whole commands has room in one control message
pub packed_room : (commands : List Command) → length (spellings (take (packed_count commands) commands)) ≤ 120
packed_room commands = (longest_front commands).fits

-- so has an RST or an RRP
pub alone_room : (c : Command) → is_alone c ≡ true → length (spelling c) ≤ 120
alone_room command.Rst e = omega arith
alone_room command.Rrp e = omega arith
alone_room c e = absurd (cc)

-- ---- what a message may hold

pub control_short : (octets : List ℕ) → length octets ≤ 120 → length (control_text octets) ≤ 8063
control_short octets room = omega (arith, room, length-bits_of octets)

pub data_short : (size count : ℕ) (bits : List Bool) → size * count ≤ 8023 → length (data_text size count (take (size * count) bits)) ≤ 8063
data_short size count bits room = omega (arith, room, length-take (size * count) bits)
