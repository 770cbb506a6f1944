-- Each frame has one spelling, and only spellings are read.
use Rattle.std.proofs.Common.{◌≡◌, ℕ, zero, suc, ◌+◌, ◌%◌, ◌/◌, ◌<◌, ◌≤◌, Bool, true, false, List, [], ◌∷◌, length, All, Ok, Err, Result, refl, sym, ap, ◌∙◌, arith, eqb, leb, ltb, subst, if◌then◌else◌}
use Rattle.std.proofs.lemmas.Bool.{leb-true, leb-false, eqb-true}
use Rattle.std.proofs.lemmas.List.Elements.{All-tail}
use Rattle.interface.specs.Host.{most_imps}
use Rattle.packetiser.specs.Format as packets
use Rattle.packetiser.specs.PacketFields.{PacketFields, IsPacket}
use Rattle.packetiser.specs.declared.fault.PacketFault.{PacketFault}
use Rattle.packetiser.proofs.lemmas.{read_again, read_is}
use Rattle.routing.specs.Vector.{is_vector}
use Rattle.routing.proofs.lemmas.{is_vector-true, vector_tested}
use Rattle.imp_channel.specs.Carriage.{Carriage}
use Rattle.imp_channel.specs.declared.fault.ChannelFault.{ChannelFault}
use Rattle.imp_channel.specs.declared.fault.ChannelFault.TheVariants as fault
use Rattle.imp_channel.specs.declared.frame.Content.{Content}
use Rattle.imp_channel.specs.declared.frame.Content.TheVariants as content
use Rattle.imp_channel.specs.declared.frame.Frame.{Frame}
use Rattle.imp_channel.specs.Format.{Brings, IsFrame, version, octet_of, bits_of, channel_octet, kind_octet, rest_of, spelling, carried_as, packet_in, nothing_in, routes_in, content_of, framed, frame_in, read_of}
use Rattle.imp_channel.proofs.FrameLemmas.{bits_of-octet_of, octet_of-bits_of, packet_again, routes_again}

-- ---- what was written is read again

content_again : (b : Content) → Brings b → content_of (kind_octet b) (rest_of b) ≡ Ok b
content_again (content.Packet carried) (below, packet) = packet_again carried below (read_again carried.packet packet)
content_again content.Nothing brings = refl
content_again (content.Routes distances) v = routes_again distances v (is_vector-true distances v)

pub frame_again : (f : Frame) → IsFrame f → read_of (spelling f) ≡ Ok f
frame_again f h =
    let bits : bits_of 8 (octet_of f.acks) ≡ f.acks = subst (λ (n : ℕ). bits_of n (octet_of f.acks) ≡ f.acks) h.acks (bits_of-octet_of f.acks) in
    rw (bits, content_again f.content h.brings) refl

-- ---- what is read was its spelling

-- what a frame of a kind brings, by what follows its acknowledgement bits
abbrev Spells : ℕ → List ℕ → Content → Type 0
Spells kind rest b = (kind ≡ kind_octet b) × (rest ≡ rest_of b) × Brings b

same_content : (a b : Content) → (let x : Result Content ChannelFault = Ok a in let y : Result Content ChannelFault = Ok b in x ≡ y) → a ≡ b
same_content a b e = cc

channel_is : (octet : ℕ) (bit : Bool) → leb 8 octet ≡ bit → octet < 16 → octet ≡ (if bit then octet % 8 + 8 else octet % 8)
channel_is octet true is below = let from : 8 ≤ octet = leb-true 8 octet is in omega (arith, from, below)
channel_is octet false is below = let under : octet < 8 = leb-false 8 octet is in omega (arith, under)

by_packet : (octet : ℕ) (body : List ℕ) (b : Content) (used : Bool) (read : Result PacketFields PacketFault) → leb 16 octet ≡ used → packets.read_of body ≡ read → All (λ n. n < 256) body
    → (if used then Err fault.NotCanonical else carried_as octet read) ≡ Ok b → Spells 0 (octet ∷ body) b
by_packet octet body b true read test said all is = absurd (cc)
by_packet octet body b false (Err e) test said all is = absurd (cc)
by_packet octet body b false (Ok p) test said all is =
    let below : octet < 16 = leb-false 16 octet test in
    let carried : Carriage = record { channel = octet % 8; bit = leb 8 octet; packet = p } in
    let spelled : IsPacket p × (body ≡ packets.spelling p) = read_is body p all said in
    let octets : (octet ∷ body) ≡ rest_of (content.Packet carried) =
    ap (λ (n : ℕ). n ∷ body) (channel_is octet (leb 8 octet) refl below) ∙ ap (λ (rest : List ℕ). channel_octet carried ∷ rest) spelled.1 in
    subst (λ (brings : Content). Spells 0 (octet ∷ body) brings) (same_content (content.Packet carried) b is) (refl, octets, (omega arith, spelled.0))

packet_read : (rest : List ℕ) (b : Content) → All (λ n. n < 256) rest → packet_in rest ≡ Ok b → Spells 0 rest b
packet_read [] b all is = absurd (cc)
packet_read (octet ∷ body) b all is = by_packet octet body b (leb 16 octet) (packets.read_of body) refl refl (All-tail (λ n. n < 256) octet body all) is

nothing_read : (rest : List ℕ) (b : Content) → nothing_in rest ≡ Ok b → Spells 1 rest b
nothing_read [] b is = subst (λ (brings : Content). Spells 1 [] brings) (same_content content.Nothing b is) (refl, refl, tt)
nothing_read (octet ∷ rest) b is = absurd (cc)

by_routes : (rest : List ℕ) (b : Content) (few tested : Bool) → is_vector rest ≡ tested → (if few then Err fault.Short else (if tested then Ok (content.Routes rest) else Err fault.NotCanonical)) ≡ Ok b → Spells 2 rest b
by_routes rest b true tested test is = absurd (cc)
by_routes rest b false false test is = absurd (cc)
by_routes rest b false true test is = subst (λ (brings : Content). Spells 2 rest brings) (same_content (content.Routes rest) b is) (refl, refl, vector_tested rest test)

by_kind : (kind : ℕ) (rest : List ℕ) (b : Content) (zero one two : Bool) → eqb kind 0 ≡ zero → eqb kind 1 ≡ one → eqb kind 2 ≡ two → All (λ n. n < 256) rest
    → (if zero then packet_in rest else (if one then nothing_in rest else (if two then routes_in rest else Err fault.NotCanonical))) ≡ Ok b → Spells kind rest b
by_kind kind rest b true one two z o t all is = let same : kind ≡ 0 = eqb-true kind 0 z in subst (λ (k : ℕ). Spells k rest b) (sym same) (packet_read rest b all is)
by_kind kind rest b false true two z o t all is = let same : kind ≡ 1 = eqb-true kind 1 o in subst (λ (k : ℕ). Spells k rest b) (sym same) (nothing_read rest b is)
by_kind kind rest b false false true z o t all is = let same : kind ≡ 2 = eqb-true kind 2 t in subst (λ (k : ℕ). Spells k rest b) (sym same) (by_routes rest b (ltb (length rest) most_imps) (is_vector rest) refl is)
by_kind kind rest b false false false z o t all is = absurd (cc)

-- a frame and its parts
same_frame : (a b : Frame) → (let x : Result Frame ChannelFault = Ok a in let y : Result Frame ChannelFault = Ok b in x ≡ y) → a ≡ b
same_frame a b e = cc

length-bits_of : (count octet : ℕ) → length (bits_of count octet) ≡ count
unfolding bits_of
length-bits_of zero octet = refl
length-bits_of (suc count) octet = ap (λ (n : ℕ). suc n) (length-bits_of count (octet / 2))

abbrev Written : List ℕ → Frame → Type 0
Written octets f = IsFrame f × (octets ≡ spelling f)

by_content : (kind acks : ℕ) (rest : List ℕ) (f : Frame) (said : Result Content ChannelFault) → content_of kind rest ≡ said → acks < 256 → All (λ n. n < 256) rest
    → framed (bits_of 8 acks) said ≡ Ok f → Written (version ∷ kind ∷ acks ∷ rest) f
by_content kind acks rest f (Err e) says fits all is = absurd (cc)
by_content kind acks rest f (Ok b) says fits all is =
    let spelled : Spells kind rest b = by_kind kind rest b (eqb kind 0) (eqb kind 1) (eqb kind 2) refl refl refl all says in
    let octet : octet_of (bits_of 8 acks) ≡ acks = octet_of-bits_of 8 acks fits in
    subst (Written (version ∷ kind ∷ acks ∷ rest)) (same_frame (record { acks = bits_of 8 acks; content = b }) f is)
    (record { acks = length-bits_of 8 acks; brings = spelled.2 }, rw (sym spelled.0, sym spelled.1, octet) refl)

by_version : (octet : ℕ) (rest : List ℕ) (f : Frame) (same : Bool) → eqb octet version ≡ same → All (λ n. n < 256) (octet ∷ rest) → (if same then frame_in rest else Err fault.BadVersion) ≡ Ok f → Written (octet ∷ rest) f
by_version octet rest f false test all is = absurd (cc)
by_version octet [] f true test all is = absurd (cc)
by_version octet (kind ∷ []) f true test all is = absurd (cc)
by_version octet (kind ∷ acks ∷ rest) f true test all is =
    let same : octet ≡ version = eqb-true octet version test in
    let small : All (λ n. n < 256) rest = All-tail (λ n. n < 256) acks rest (All-tail (λ n. n < 256) kind (acks ∷ rest) (All-tail (λ n. n < 256) octet (kind ∷ acks ∷ rest) all)) in
    let fits : acks < 256 = all 2 0 (omega arith) in
    subst (λ (first : ℕ). Written (first ∷ kind ∷ acks ∷ rest) f) (sym same) (by_content kind acks rest f (content_of kind rest) refl fits small is)

pub frame_read : (octets : List ℕ) (f : Frame) → All (λ n. n < 256) octets → read_of octets ≡ Ok f → IsFrame f × (octets ≡ spelling f)
frame_read [] f all is = absurd (cc)
frame_read (octet ∷ rest) f all is = by_version octet rest f (eqb octet version) refl all is

-- two frames are spelled differently
pub one_frame : (f g : Frame) → IsFrame f → IsFrame g → spelling f ≡ spelling g → f ≡ g
one_frame f g hf hg same = same_frame f g (sym (frame_again f hf) ∙ ap read_of same ∙ frame_again g hg)
