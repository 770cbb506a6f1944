-- Frames and their octets, both ways.
use Rattle.std.proofs.Common.{◌≡◌, ℕ, zero, suc, ◌+◌, ◌-◌, ◌*◌, ◌/◌, ◌%◌, ◌^◌, ◌<◌, ◌≤◌, Bool, true, false, List, [], ◌∷◌, length, ◌++◌, get_or, set, take, drop, Ok, Err, Result, refl, sym, ap, ◌∙◌, arith, eqb, leb, ltb, subst, inl, inr}
use Rattle.std.proofs.lemmas.Bool.{cases_eq, eq-eqb, ne_eqb, le-leb, lt-leb, le-ltb}
use Rattle.std.proofs.Math.Nat.{pow-suc}
use Rattle.std.proofs.lemmas.List.{append_assoc, append-nil, drop_more, length-drop, nil_from_length, take_more_set, take_all, take_rest}
use Rattle.interface.specs.Host.{most_imps}
use Rattle.packetiser.specs.Format as packets
use Rattle.routing.specs.Vector.{is_vector, IsVector}
use Rattle.imp_channel.specs.Carriage.{Carriage}
use Rattle.imp_channel.specs.declared.fault.ChannelFault.{ChannelFault}
use Rattle.imp_channel.specs.declared.fault.ChannelFault.TheVariants as fault
use Rattle.imp_channel.specs.declared.frame.Content.{Content}
use Rattle.imp_channel.specs.declared.frame.Content.TheVariants as content
use Rattle.imp_channel.specs.declared.frame.Frame.{Frame}
use Rattle.imp_channel.specs.declared.frame.TheConstants.{ACKS}
use Rattle.imp_channel.specs.Format.{octet_of, bits_of, bit_value, channel_octet, kind_octet, rest_of, content_of, frame_in, framed, Gives}

-- this many bits make a number below that power of two
octet_of-below : (bits : List Bool) (n : ℕ) → length bits ≤ n → octet_of bits < 2 ^ n
unfolding octet_of
octet_of-below [] zero le = omega arith
octet_of-below [] (suc n) le = let more : 2 ^ suc n ≡ 2 ^ n * 2 = pow-suc 2 n in let some : 0 < 2 ^ n = octet_of-below [] n (omega arith) in omega (arith, more, some)
octet_of-below (bit ∷ bits) zero le = absurd (omega arith)
octet_of-below (true ∷ bits) (suc n) le = let more : 2 ^ suc n ≡ 2 ^ n * 2 = pow-suc 2 n in let rest : octet_of bits < 2 ^ n = octet_of-below bits n (omega arith) in omega (arith, more, rest)
octet_of-below (false ∷ bits) (suc n) le = let more : 2 ^ suc n ≡ 2 ^ n * 2 = pow-suc 2 n in let rest : octet_of bits < 2 ^ n = octet_of-below bits n (omega arith) in omega (arith, more, rest)

-- one bit more in the lowest place
octet_of-from : (bits : List Bool) (c : ℕ) → c < length bits → octet_of (drop c bits) ≡ 2 * octet_of (drop (c + 1) bits) + bit_value (get_or bits c false)
unfolding octet_of
octet_of-from bits c within = let next : drop c bits ≡ get_or bits c false ∷ drop (c + 1) bits = drop_more bits c false within in rw next (omega arith)

pub octet_of-before : (bits : List Bool) (c : ℕ) → 0 < c → c ≤ length bits → octet_of (drop (c - 1) bits) ≡ 2 * octet_of (drop c bits) + bit_value (get_or bits (c - 1) false)
octet_of-before bits c some within =
    let at : c - 1 + 1 ≡ c = omega arith in
    let P : ℕ → Type 0 = λ k. octet_of (drop (c - 1) bits) ≡ 2 * octet_of (drop k bits) + bit_value (get_or bits (c - 1) false) in
    subst P at (octet_of-from bits (c - 1) (omega arith))

-- eight bits fit an octet
pub octet_of-fits : (bits : List Bool) (c : ℕ) → 0 < c → c ≤ 8 → length bits ≡ 8 → 2 * octet_of (drop c bits) + bit_value (get_or bits (c - 1) false) < 256
octet_of-fits bits c some within eight =
    let whole : octet_of (drop (c - 1) bits) < 2 ^ 8 = octet_of-below (drop (c - 1) bits) 8 (omega (arith, length-drop (c - 1) bits, eight)) in
    omega (arith, whole, octet_of-before bits c some (omega (arith, eight)))

-- no bit is left
pub octet_of-none : (bits : List Bool) (c : ℕ) → length bits ≤ c → octet_of (drop c bits) ≡ 0
unfolding octet_of
octet_of-none bits c le = let none : drop c bits ≡ [] = nil_from_length (drop c bits) (omega (arith, length-drop c bits)) in rw none refl

-- one bit more from the lowest place
pub bits_of-more : (n i rest : ℕ) (bits : List Bool) → i < n → length bits ≡ n
    → take (i + 1) (set bits i (eqb (rest % 2) 1)) ++ bits_of (n - (i + 1)) (rest / 2) ≡ take i bits ++ bits_of (n - i) rest
unfolding bits_of
bits_of-more n i rest bits below long =
    let more : n - i ≡ suc (n - (i + 1)) = omega arith in
    rw (more, take_more_set bits i (eqb (rest % 2) 1) (omega arith)) (append_assoc (take i bits) (eqb (rest % 2) 1 ∷ []) (bits_of (n - (i + 1)) (rest / 2)))

-- all bits are there
pub bits_of-all : (n i rest : ℕ) (bits : List Bool) → n ≤ i → length bits ≡ n → take i bits ++ bits_of (n - i) rest ≡ bits
unfolding bits_of
bits_of-all n i rest bits le long =
    let none : n - i ≡ 0 = omega arith in
    rw none (append-nil (take i bits) ∙ take_all i bits (omega arith))

-- the bits of an octet of bits
pub bits_of-octet_of : (bits : List Bool) → bits_of (length bits) (octet_of bits) ≡ bits
unfolding octet_of bits_of
bits_of-octet_of [] = refl
bits_of-octet_of (true ∷ bits) =
    let first : eqb ((1 + 2 * octet_of bits) % 2) 1 ≡ true = eq-eqb ((1 + 2 * octet_of bits) % 2) 1 (omega arith) in
    let rest : (1 + 2 * octet_of bits) / 2 ≡ octet_of bits = omega arith in
    rw (first, rest, bits_of-octet_of bits) refl
bits_of-octet_of (false ∷ bits) =
    let first : eqb ((0 + 2 * octet_of bits) % 2) 1 ≡ false = ne_eqb ((0 + 2 * octet_of bits) % 2) 1 (λ (one : (0 + 2 * octet_of bits) % 2 ≡ 1). omega arith) in
    let rest : (0 + 2 * octet_of bits) / 2 ≡ octet_of bits = omega arith in
    rw (first, rest, bits_of-octet_of bits) refl

bit_value-odd : (n : ℕ) → bit_value (eqb (n % 2) 1) ≡ n % 2
bit_value-odd n =
    elim (cases_eq (n % 2) 1) [
      | inl one ↦ ap bit_value (eq-eqb (n % 2) 1 one) ∙ sym one
      | inr other ↦ ap bit_value (ne_eqb (n % 2) 1 other) ∙ (let zero : 0 ≡ n % 2 = omega arith in zero)
    ]

-- the octet of an octet's bits
pub octet_of-bits_of : (count octet : ℕ) → octet < 2 ^ count → octet_of (bits_of count octet) ≡ octet
unfolding octet_of bits_of
octet_of-bits_of zero octet below = omega arith
octet_of-bits_of (suc count) octet below =
    let half : octet / 2 < 2 ^ count = let twice : 2 ^ suc count ≡ 2 ^ count * 2 = pow-suc 2 count in omega (arith, twice, below) in
    ap (λ (k : ℕ). bit_value (eqb (octet % 2) 1) + 2 * k) (octet_of-bits_of count (octet / 2) half)
    ∙ (let odd : bit_value (eqb (octet % 2) 1) ≡ octet % 2 = bit_value-odd octet in omega (arith, odd))

-- a packet frame's rest is read again, where the packet is
pub packet_again : (carried : Carriage) → carried.channel < ACKS → packets.read_of (packets.spelling carried.packet) ≡ Ok carried.packet
    → content_of (kind_octet (content.Packet carried)) (rest_of (content.Packet carried)) ≡ Ok (content.Packet carried)
packet_again carried below again = at carried.bit carried.channel below
  where
    at : (bit : Bool) (c : ℕ) → c < ACKS
        → content_of 0 (channel_octet (record { channel = c; bit = bit; packet = carried.packet }) ∷ packets.spelling carried.packet) ≡ Ok (content.Packet (record { channel = c; bit = bit; packet = carried.packet }))
    at true c below =
        let used : leb 16 (c + 8) ≡ false = lt-leb 16 (c + 8) (omega arith) in
        let set : leb 8 (c + 8) ≡ true = le-leb 8 (c + 8) (omega arith) in
        let channel : (c + 8) % 8 ≡ c = omega arith in
        rw (used, again, set, channel) refl
    at false c below =
        let used : leb 16 c ≡ false = lt-leb 16 c (omega arith) in
        let clear : leb 8 c ≡ false = lt-leb 8 c (omega arith) in
        let channel : c % 8 ≡ c = omega arith in
        rw (used, again, clear, channel) refl

-- a routes frame's rest is read again
pub routes_again : (distances : List ℕ) → IsVector distances → is_vector distances ≡ true
    → content_of (kind_octet (content.Routes distances)) (rest_of (content.Routes distances)) ≡ Ok (content.Routes distances)
routes_again distances v tested =
    let enough : ltb (length distances) most_imps ≡ false = le-ltb (length distances) most_imps (omega (arith, v.one_each)) in
    rw (enough, tested) refl

-- a fault of what a frame brings is the frame's
framed_fault : (acks : List Bool) (said : Result Content ChannelFault) (e : ChannelFault) → Gives said (Err e) → Gives (framed acks said) (Err e)
framed_fault acks (Ok brings) fault.OutOfMemory h = refl
framed_fault acks (Err other) fault.OutOfMemory h = cc
framed_fault acks said fault.Short h = let F : Result Content ChannelFault → Result Frame ChannelFault = λ r. framed acks r in ap F h
framed_fault acks said fault.NotCanonical h = let F : Result Content ChannelFault → Result Frame ChannelFault = λ r. framed acks r in ap F h
framed_fault acks said fault.BadLength h = let F : Result Content ChannelFault → Result Frame ChannelFault = λ r. framed acks r in ap F h
framed_fault acks said fault.BadVersion h = let F : Result Content ChannelFault → Result Frame ChannelFault = λ r. framed acks r in ap F h

pub read_fault : (octets : List ℕ) (e : ChannelFault) → 2 ≤ length octets
    → Gives (content_of (get_or octets 0 0) (take (length octets - 2) (drop 2 octets))) (Err e) → Gives (frame_in octets) (Err e)
read_fault [] e two h = absurd (omega arith)
read_fault (kind ∷ []) e two h = absurd (omega arith)
read_fault (kind ∷ acks ∷ rest) e two h =
    let P : List ℕ → Type 0 = λ l. Gives (content_of kind l) (Err e) in
    framed_fault (bits_of ACKS acks) (content_of kind rest) e (subst P (take_rest (kind ∷ acks ∷ rest) 2) h)
