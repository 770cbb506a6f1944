-- The members of an object are printed one after the other.
use Rattle.subnet_trace.proofs.Common.{Appends, Appends-trans, member, object, quoted, array, further, five, three, flat_map, PacketFields, channel_text}
use Rattle.std.proofs.Common.{◌≡◌, ℕ, List, [], ◌∷◌, ◌++◌, codes, Option, subst, ◌∙◌, Bool, None, Some, ap, drop, false, is_some, map, refl, true}
use Rattle.std.proofs.lemmas.List.{append_assoc}

-- ---- packets and messages

-- what is printed of a packet before its octets, in four pieces
abbrev pub packet_one : List ℕ → List ℕ → List ℕ
packet_one kind source = codes "{\"kind\":\"" ++ (kind ++ (codes "\",\"from\":\"" ++ (source ++ codes "\",")))

abbrev pub packet_two : List ℕ → List ℕ → List ℕ
packet_two destination link = codes "\"to\":\"" ++ (destination ++ (codes "\",\"link\":" ++ (link ++ codes ",")))

abbrev pub packet_three : List ℕ → List ℕ → List ℕ
packet_three number place = codes "\"number\":" ++ (number ++ (codes ",\"place\":" ++ (place ++ codes ",")))

abbrev pub packet_four : List ℕ → List ℕ → List ℕ
packet_four last count = codes "\"last\":" ++ (last ++ (codes ",\"bits\":" ++ (count ++ codes ",\"octets\":")))

pub packet_printed : (kind source destination link number place last count octets : List ℕ) (a b c d e f g : Option (List ℕ)) → Appends a b (packet_one kind source) → Appends b c (packet_two destination link) → Appends c d (packet_three number place) → Appends d e (packet_four last count) → Appends e f octets → Appends f g (codes "}")
    → Appends a g (object (member (codes "kind") (quoted kind) ∷ member (codes "from") (quoted source) ∷ member (codes "to") (quoted destination) ∷ member (codes "link") link
    ∷ member (codes "number") number ∷ member (codes "place") place ∷ member (codes "last") last ∷ member (codes "bits") count ∷ member (codes "octets") octets ∷ []))
packet_printed kind source destination link number place last count octets a b c d e f g p1 p2 p3 p4 p5 p6 =
    let whole : packet_one kind source ++ (packet_two destination link ++ (packet_three number place ++ (packet_four last count ++ (octets ++ codes "}"))))
    ≡ object (member (codes "kind") (quoted kind) ∷ member (codes "from") (quoted source) ∷ member (codes "to") (quoted destination) ∷ member (codes "link") link
    ∷ member (codes "number") number ∷ member (codes "place") place ∷ member (codes "last") last ∷ member (codes "bits") count ∷ member (codes "octets") octets ∷ []) = simp append_assoc in
    subst (Appends a g) whole (Appends-trans a b g (packet_one kind source) (packet_two destination link ++ (packet_three number place ++ (packet_four last count ++ (octets ++ codes "}")))) p1
    (five (packet_two destination link) (packet_three number place) (packet_four last count) octets (codes "}") b c d e f g p2 p3 p4 p5 p6))

abbrev pub message_front : List ℕ → List ℕ → List ℕ → List ℕ → List ℕ → List ℕ
message_front source destination link number count =
    codes "{\"from\":\"" ++ (source ++ (codes "\",\"to\":\"" ++ (destination ++ (codes "\",\"link\":" ++ (link ++ (codes ",\"number\":" ++ (number ++ (codes ",\"bits\":" ++ (count ++ codes ",\"octets\":")))))))))

pub message_printed : (source destination link number count octets : List ℕ) (a b c d : Option (List ℕ)) → Appends a b (message_front source destination link number count) → Appends b c octets → Appends c d (codes "}")
    → Appends a d (object (member (codes "from") (quoted source) ∷ member (codes "to") (quoted destination) ∷ member (codes "link") link ∷ member (codes "number") number ∷ member (codes "bits") count ∷ member (codes "octets") octets ∷ []))
message_printed source destination link number count octets a b c d p1 p2 p3 =
    let whole : message_front source destination link number count ++ (octets ++ codes "}")
    ≡ object (member (codes "from") (quoted source) ∷ member (codes "to") (quoted destination) ∷ member (codes "link") link ∷ member (codes "number") number ∷ member (codes "bits") count ∷ member (codes "octets") octets ∷ []) = simp append_assoc in
    subst (Appends a d) whole (three (message_front source destination link number count) octets (codes "}") a b c d p1 p2 p3)

-- ---- channels, hosts and ends of lines

-- a channel without a packet is free
pub free_text : (bit : Bool) (packet : Option PacketFields) → is_some packet ≡ false → channel_text (record { bit = bit; packet = None }) ≡ channel_text (record { bit = bit; packet = packet })
free_text bit None e = refl
free_text bit (Some packet) e = absurd (let both : true ≡ false = e in cc)

-- texts that each come after a comma, and the end, follow another one
after_commas : {X : Type 0} (text : X → List ℕ) (xs : List X) → flat_map (λ x. x) (map (λ x. codes "," ++ text x) xs) ++ codes "]" ≡ further (codes "]") (map text xs)
after_commas text [] = refl
after_commas text (x ∷ xs) =
    let rest : List ℕ = flat_map (λ x. x) (map (λ x. codes "," ++ text x) xs) in
    ap (λ (v : List ℕ). codes "," ++ v) (append_assoc (text x) rest (codes "]") ∙ ap (λ (v : List ℕ). text x ++ v) (after_commas text xs))

-- without the first comma they are the items of an array
pub commas_array : {X : Type 0} (text : X → List ℕ) (xs : List X) → codes "[" ++ (drop 1 (flat_map (λ x. x) (map (λ x. codes "," ++ text x) xs)) ++ codes "]") ≡ array (map text xs)
commas_array text [] = refl
commas_array text (x ∷ xs) =
    let rest : List ℕ = flat_map (λ x. x) (map (λ x. codes "," ++ text x) xs) in
    ap (λ (v : List ℕ). codes "[" ++ v) (append_assoc (text x) rest (codes "]") ∙ ap (λ (v : List ℕ). text x ++ v) (after_commas text xs))

pub channel_printed : (bit packet : List ℕ) (a b c d : Option (List ℕ)) → Appends a b (codes "{\"bit\":" ++ (bit ++ codes ",\"packet\":")) → Appends b c packet → Appends c d (codes "}")
    → Appends a d (object (member (codes "bit") bit ∷ member (codes "packet") packet ∷ []))
channel_printed bit packet a b c d p1 p2 p3 =
    let whole : (codes "{\"bit\":" ++ (bit ++ codes ",\"packet\":")) ++ (packet ++ codes "}") ≡ object (member (codes "bit") bit ∷ member (codes "packet") packet ∷ []) = simp append_assoc in
    subst (Appends a d) whole (three (codes "{\"bit\":" ++ (bit ++ codes ",\"packet\":")) packet (codes "}") a b c d p1 p2 p3)

pub host_printed : (up messages answers : List ℕ) (a b c d e f : Option (List ℕ)) → Appends a b (codes "{\"up\":" ++ (up ++ codes ",\"messages\":")) → Appends b c messages → Appends c d (codes ",\"answers\":") → Appends d e answers → Appends e f (codes "}")
    → Appends a f (object (member (codes "up") up ∷ member (codes "messages") messages ∷ member (codes "answers") answers ∷ []))
host_printed up messages answers a b c d e f p1 p2 p3 p4 p5 =
    let whole : (codes "{\"up\":" ++ (up ++ codes ",\"messages\":")) ++ (messages ++ (codes ",\"answers\":" ++ (answers ++ codes "}"))) ≡ object (member (codes "up") up ∷ member (codes "messages") messages ∷ member (codes "answers") answers ∷ []) = simp append_assoc in
    subst (Appends a f) whole (five (codes "{\"up\":" ++ (up ++ codes ",\"messages\":")) messages (codes ",\"answers\":") answers (codes "}") a b c d e f p1 p2 p3 p4 p5)

pub port_printed : (up sending expected : List ℕ) (a b c d e f : Option (List ℕ)) → Appends a b (codes "{\"up\":" ++ (up ++ codes ",\"sending\":")) → Appends b c sending → Appends c d (codes ",\"expected\":\"") → Appends d e expected → Appends e f (codes "\"}")
    → Appends a f (object (member (codes "up") up ∷ member (codes "sending") sending ∷ member (codes "expected") (quoted expected) ∷ []))
port_printed up sending expected a b c d e f p1 p2 p3 p4 p5 =
    let whole : (codes "{\"up\":" ++ (up ++ codes ",\"sending\":")) ++ (sending ++ (codes ",\"expected\":\"" ++ (expected ++ codes "\"}"))) ≡ object (member (codes "up") up ∷ member (codes "sending") sending ∷ member (codes "expected") (quoted expected) ∷ []) = simp append_assoc in
    subst (Appends a f) whole (five (codes "{\"up\":" ++ (up ++ codes ",\"sending\":")) sending (codes ",\"expected\":\"") expected (codes "\"}") a b c d e f p1 p2 p3 p4 p5)

-- ---- an IMP

pub imp_printed : (hosts ports routes store slots distances next : List ℕ) (a b c d : Option (List ℕ)) → Appends a b (codes "{\"hosts\":" ++ (hosts ++ (codes ",\"ports\":" ++ (ports ++ (codes ",\"routes\":" ++ routes)))))
    → Appends b c (codes ",\"store\":" ++ (store ++ (codes ",\"slots\":" ++ slots))) → Appends c d (codes ",\"distances\":" ++ (distances ++ (codes ",\"next\":" ++ (next ++ codes "}"))))
    → Appends a d (object (member (codes "hosts") hosts ∷ member (codes "ports") ports ∷ member (codes "routes") routes ∷ member (codes "store") store ∷ member (codes "slots") slots
    ∷ member (codes "distances") distances ∷ member (codes "next") next ∷ []))
imp_printed hosts ports routes store slots distances next a b c d ends held concluded =
    let x : List ℕ = codes "{\"hosts\":" ++ (hosts ++ (codes ",\"ports\":" ++ (ports ++ (codes ",\"routes\":" ++ routes)))) in
    let y : List ℕ = codes ",\"store\":" ++ (store ++ (codes ",\"slots\":" ++ slots)) in
    let w : List ℕ = codes ",\"distances\":" ++ (distances ++ (codes ",\"next\":" ++ (next ++ codes "}"))) in
    let whole : x ++ (y ++ w) ≡ object (member (codes "hosts") hosts ∷ member (codes "ports") ports ∷ member (codes "routes") routes ∷ member (codes "store") store ∷ member (codes "slots") slots
    ∷ member (codes "distances") distances ∷ member (codes "next") next ∷ []) = simp append_assoc in
    subst (Appends a d) whole (three x y w a b c d ends held concluded)
