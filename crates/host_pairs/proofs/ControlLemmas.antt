-- The octets of control messages, and the orders that are read from them.
use Rattle.std.proofs.Common.{◌≡◌, ℕ, ◌+◌, ◌*◌, ◌<◌, ◌≤◌, Bool, true, false, ◌||◌, nat_lt, if◌then◌else◌, Some, None, List, [], ◌∷◌, length, take, drop, refl, ap, sym, ◌∙◌, arith, zero, suc, subst, length-drop}
use Rattle.std.proofs.lemmas.Bool.{or_parts}
use Rattle.std.proofs.lemmas.Bool.Decides.{nat_tests}
use Rattle.std.proofs.lemmas.List.{drop-drop}
use Rattle.bit_messages.specs.Octets.{octet, octets_of}
use Rattle.interface.specs.Host.{Host}
use Rattle.ncp_control.specs.DataHeader.{data_bits, fields_of, header_of}
use Rattle.ncp_control.specs.declared.data_header.DataHeader.{DataHeader}
use Rattle.ncp_control.proofs.lemmas.{octets_enough}
use Rattle.host_pairs.specs.Turn.{TurnState, orders_taken}
use Rattle.host_pairs.specs.Said.{said_by}
use Rattle.host_pairs.specs.Control.{is_control, orders_by, orders_in, orders_of, orders_within}

-- ---- octets

drop_octet : (bits : List Bool) → octets_of (drop 8 bits) ≡ drop 1 (octets_of bits)
unfolding octets_of
drop_octet [] = refl
drop_octet (a ∷ []) = refl
drop_octet (a ∷ b ∷ []) = refl
drop_octet (a ∷ b ∷ c ∷ []) = refl
drop_octet (a ∷ b ∷ c ∷ d ∷ []) = refl
drop_octet (a ∷ b ∷ c ∷ d ∷ e ∷ []) = refl
drop_octet (a ∷ b ∷ c ∷ d ∷ e ∷ f ∷ []) = refl
drop_octet (a ∷ b ∷ c ∷ d ∷ e ∷ f ∷ g ∷ []) = refl
drop_octet (a ∷ b ∷ c ∷ d ∷ e ∷ f ∷ g ∷ h ∷ rest) = refl

octets_of-drop : (n : ℕ) (bits : List Bool) → octets_of (drop (8 * n) bits) ≡ drop n (octets_of bits)
octets_of-drop zero bits = refl
octets_of-drop (suc n) bits =
    let count : 8 * suc n ≡ 8 + 8 * n = omega arith in
    let one : 1 + n ≡ suc n = omega arith in
    ap (λ (k : ℕ). octets_of (drop k bits)) count
    ∙ ap octets_of (sym (drop-drop (8 * n) 8 bits))
    ∙ octets_of-drop n (drop 8 bits)
    ∙ ap (λ (octets : List ℕ). drop n octets) (drop_octet bits)
    ∙ drop-drop n 1 (octets_of bits)
    ∙ ap (λ (k : ℕ). drop k (octets_of bits)) one

last : (octet n : ℕ) → octet ∷ [] ≡ octet ∷ take n []
last octet zero = refl
last octet (suc n) = refl

take_octet : (n : ℕ) (bits : List Bool) → ((rest : List Bool) → octets_of (take (8 * n) rest) ≡ take n (octets_of rest))
    → octets_of (take (suc (suc (suc (suc (suc (suc (suc (suc (8 * n))))))))) bits) ≡ take (suc n) (octets_of bits)
unfolding octets_of
take_octet n [] more = refl
take_octet n (a ∷ []) more = last (octet a false false false false false false false) n
take_octet n (a ∷ b ∷ []) more = last (octet a b false false false false false false) n
take_octet n (a ∷ b ∷ c ∷ []) more = last (octet a b c false false false false false) n
take_octet n (a ∷ b ∷ c ∷ d ∷ []) more = last (octet a b c d false false false false) n
take_octet n (a ∷ b ∷ c ∷ d ∷ e ∷ []) more = last (octet a b c d e false false false) n
take_octet n (a ∷ b ∷ c ∷ d ∷ e ∷ f ∷ []) more = last (octet a b c d e f false false) n
take_octet n (a ∷ b ∷ c ∷ d ∷ e ∷ f ∷ g ∷ []) more = last (octet a b c d e f g false) n
take_octet n (a ∷ b ∷ c ∷ d ∷ e ∷ f ∷ g ∷ h ∷ rest) more = ap (λ (octets : List ℕ). octet a b c d e f g h ∷ octets) (more rest)

octets_of-take : (n : ℕ) (bits : List Bool) → octets_of (take (8 * n) bits) ≡ take n (octets_of bits)
unfolding octets_of
octets_of-take zero bits = refl
octets_of-take (suc n) bits =
    let count : 8 * suc n ≡ suc (suc (suc (suc (suc (suc (suc (suc (8 * n)))))))) = omega arith in
    ap (λ (k : ℕ). octets_of (take k bits)) count ∙ take_octet n bits (octets_of-take n)

-- the octets of a part of a text
octets_within : (from count : ℕ) (bits : List Bool) → octets_of (take (8 * count) (drop (8 * from) bits)) ≡ take count (drop from (octets_of bits))
octets_within from count bits =
    octets_of-take count (drop (8 * from) bits) ∙ ap (λ (octets : List ℕ). take count octets) (octets_of-drop from bits)

-- ---- the header

header_by : (b : Bool) (text : List Bool) (h : DataHeader) → (nat_lt (length text) 40 || nat_lt (length text) (40 + data_bits (fields_of text))) ≡ b
    → (if b then None else Some (fields_of text)) ≡ Some h → 40 + data_bits h ≤ length text
header_by true text h e is = absurd (cc)
header_by false text h e is =
    let same : fields_of text ≡ h = cc in
    let enough : nat_lt (length text) (40 + data_bits (fields_of text)) ≡ false = (or_parts _ _ e).1 in
    subst (λ (h : DataHeader). 40 + data_bits h ≤ length text) same (grind (arith, nat_tests, enough))

-- what a header announces is there
pub header_covers : (text : List Bool) (h : DataHeader) → header_of text ≡ Some h → 40 + data_bits h ≤ length text
header_covers text h is = header_by (nat_lt (length text) 40 || nat_lt (length text) (40 + data_bits (fields_of text))) text h refl is

pub record HasOctets (count : ℕ) (octets : List ℕ) : Type 0 where
  pub header : 5 ≤ length octets
  pub behind : count ≤ length (drop 5 octets)

-- the octets of a control message are all there
pub octets_there : (text : List Bool) (h : DataHeader) (octets : List ℕ) → header_of text ≡ Some h → h.size ≡ 8 → octets ≡ octets_of text → HasOctets h.count octets
octets_there text h octets is size same =
    let covers : 40 + h.size * h.count ≤ length text = header_covers text h is in
    let eight : h.size * h.count ≡ 8 * h.count = ap (λ (n : ℕ). n * h.count) size in
    let there : length text ≤ 8 * length (octets_of text) = octets_enough text in
    let long : length octets ≡ length (octets_of text) = ap length same in
    record { header = omega arith; behind = simp length-drop (omega arith) }

control_by : (text : List Bool) (h : DataHeader) → is_control h ≡ true → orders_by text (Some h) ≡ orders_in (octets_of (take (8 * h.count) (drop 40 text)))
control_by text h e = rw e refl

-- the octets of a control message's commands are after those of its header
pub control_read : (text : List Bool) (h : DataHeader) (octets behind : List ℕ) → header_of text ≡ Some h → is_control h ≡ true → behind ≡ drop 5 (octets_of text) → octets ≡ take h.count behind
    → orders_of text ≡ orders_in octets
unfolding orders_of
control_read text h octets behind is control after front =
    ap (orders_by text) is
    ∙ control_by text h control
    ∙ ap orders_in (octets_within 5 h.count text ∙ ap (λ (xs : List ℕ). take h.count xs) (sym after) ∙ sym front)

-- ---- orders

-- no octets hold no orders
pub orders_of_none : (more : ℕ) (octets : List ℕ) → orders_within more (drop (length octets) octets) ≡ []
orders_of_none zero octets = refl
orders_of_none (suc more) [] = refl
orders_of_none (suc more) (octet ∷ octets) = orders_of_none (suc more) octets

-- the octets that are left to read: what they hold, taken from here on, comes to this, and says no more than that
pub record IsLeft (peer : Host) (stamp : ℕ) (octets : List ℕ) (now end : TurnState) (total : ℕ) : Type 0 where
  pub most : ℕ
  pub enough : length octets ≤ most
  pub same : orders_taken peer stamp (orders_within most octets) now ≡ end
  pub said : said_by peer stamp (orders_within most octets) now ≤ total

left_none_of : (peer : Host) (stamp most : ℕ) (now end : TurnState) → orders_taken peer stamp (orders_within most []) now ≡ end → now ≡ end
left_none_of peer stamp zero now end same = same
left_none_of peer stamp (suc most) now end same = same

-- nothing is left
pub left_none : (peer : Host) (stamp : ℕ) (octets : List ℕ) (now end : TurnState) (total : ℕ) → length octets ≡ 0 → IsLeft peer stamp octets now end total → now ≡ end
left_none peer stamp [] now end total none left = left_none_of peer stamp left.most now end left.same
left_none peer stamp (octet ∷ octets) now end total none left = absurd (omega (arith, none))

left_after : (peer : Host) (stamp most read : ℕ) (octets rest : List ℕ) (now new end : TurnState) (total : ℕ) → length octets ≤ most
    → orders_taken peer stamp (orders_within most octets) now ≡ end → said_by peer stamp (orders_within most octets) now ≤ total
    → 0 < read → read ≤ length octets → rest ≡ drop read octets
    → ((more : ℕ) → orders_taken peer stamp (orders_within (1 + more) octets) now ≡ orders_taken peer stamp (orders_within more (drop read octets)) new)
    → ((more : ℕ) → said_by peer stamp (orders_within more (drop read octets)) new ≤ said_by peer stamp (orders_within (1 + more) octets) now)
    → IsLeft peer stamp rest new end total
left_after peer stamp zero read octets rest now new end total enough same said some there is first less = absurd (omega arith)
left_after peer stamp (suc most) read octets rest now new end total enough same said some there is first less =
    let fewer : length (drop read octets) ≤ most = simp length-drop (omega arith) in
    let one : 1 + most ≡ suc most = omega arith in
    let whole : orders_taken peer stamp (orders_within (1 + most) octets) now ≡ end = ap (λ (k : ℕ). orders_taken peer stamp (orders_within k octets) now) one ∙ same in
    let before : said_by peer stamp (orders_within (1 + most) octets) now ≡ said_by peer stamp (orders_within (suc most) octets) now =
    ap (λ (k : ℕ). said_by peer stamp (orders_within k octets) now) one in
    let here : said_by peer stamp (orders_within most (drop read octets)) new ≤ said_by peer stamp (orders_within (1 + most) octets) now = less most in
    let still : said_by peer stamp (orders_within most (drop read octets)) new ≤ total = omega (arith, here, before, said) in
    record {
      most = most;
      enough = subst (λ (xs : List ℕ). length xs ≤ most) (sym is) fewer;
      same = subst (λ (xs : List ℕ). orders_taken peer stamp (orders_within most xs) new ≡ end) (sym is) (sym (first most) ∙ whole);
      said = subst (λ (xs : List ℕ). said_by peer stamp (orders_within most xs) new ≤ total) (sym is) still;
    }

-- one order is taken
pub left_more : (peer : Host) (stamp read : ℕ) (octets rest : List ℕ) (now new end : TurnState) (total : ℕ) → IsLeft peer stamp octets now end total
    → 0 < read → read ≤ length octets → rest ≡ drop read octets
    → ((more : ℕ) → orders_taken peer stamp (orders_within (1 + more) octets) now ≡ orders_taken peer stamp (orders_within more (drop read octets)) new)
    → ((more : ℕ) → said_by peer stamp (orders_within more (drop read octets)) new ≤ said_by peer stamp (orders_within (1 + more) octets) now)
    → IsLeft peer stamp rest new end total
left_more peer stamp read octets rest now new end total left some there is first less =
    left_after peer stamp left.most read octets rest now new end total left.enough left.same left.said some there is first less

wanted_of : (peer : Host) (stamp most : ℕ) (octets : List ℕ) (now : TurnState) (total : ℕ) → length octets ≤ most → said_by peer stamp (orders_within most octets) now ≤ total → 0 < length octets
    → ((more : ℕ) → 0 < said_by peer stamp (orders_within (1 + more) octets) now) → 0 < total
wanted_of peer stamp zero octets now total enough said some wants = absurd (omega arith)
wanted_of peer stamp (suc most) octets now total enough said some wants =
    let one : 1 + most ≡ suc most = omega arith in
    let before : said_by peer stamp (orders_within (1 + most) octets) now ≡ said_by peer stamp (orders_within (suc most) octets) now =
    ap (λ (k : ℕ). said_by peer stamp (orders_within k octets) now) one in
    let here : 0 < said_by peer stamp (orders_within (1 + most) octets) now = wants most in
    omega (arith, here, before, said)

-- where the next order needs memory, the octets need it
pub left_wanted : (peer : Host) (stamp : ℕ) (octets : List ℕ) (now end : TurnState) (total : ℕ) → IsLeft peer stamp octets now end total → 0 < length octets
    → ((more : ℕ) → 0 < said_by peer stamp (orders_within (1 + more) octets) now) → 0 < total
left_wanted peer stamp octets now end total left some wants = wanted_of peer stamp left.most octets now total left.enough left.said some wants
