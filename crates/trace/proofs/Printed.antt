-- Objects are printed member by member.
use Rattle.trace.proofs.Common.{◌≡◌, ℕ, Bool, List, [], ◌∷◌, ◌++◌, codes, length, Option, refl, subst, Appends, appends_more, member, object, quoted}
use Rattle.std.proofs.lemmas.List.{append_assoc}
use Rattle.hex.specs.Hex.{encode_upper, encode_with}
use Rattle.bit_messages.specs.Octets.{octets_of}

pub three : (x y z : List ℕ) (a b c d : Option (List ℕ)) → Appends a b x → Appends b c y → Appends c d z → Appends a d (x ++ (y ++ z))
three x y z a b c d px py pz = appends_more a b d x (y ++ z) px (appends_more b c d y z py pz)

pub five : (x y z u v : List ℕ) (a b c d e f : Option (List ℕ)) → Appends a b x → Appends b c y → Appends c d z → Appends d e u → Appends e f v → Appends a f (x ++ (y ++ (z ++ (u ++ v))))
five x y z u v a b c d e f px py pz pu pv = appends_more a b f x (y ++ (z ++ (u ++ v))) px (appends_more b c f y (z ++ (u ++ v)) py (three z u v c d e f pz pu pv))

-- no bits have no octets
pub no_octets : (bits : List Bool) → length bits ≡ 0 → encode_upper (octets_of bits) ≡ []
unfolding encode_with octets_of
no_octets [] none = refl
no_octets (b ∷ bits) none = absurd (cc)

-- ---- messages

-- what is printed of a message before its octets: with a word, if it crossed
abbrev pub message_front : List ℕ → List ℕ → List ℕ → List ℕ → List ℕ → List ℕ
message_front begin source destination link count =
    begin ++ (source ++ (codes "\",\"to\":\"" ++ (destination ++ (codes "\",\"link\":" ++ (link ++ (codes ",\"bits\":" ++ (count ++ codes ",\"octets\":")))))))

pub message_printed : (source destination link count octets : List ℕ) (a b c d : Option (List ℕ)) → Appends a b (message_front (codes "{\"from\":\"") source destination link count) → Appends b c octets → Appends c d (codes "}")
    → Appends a d (object (member (codes "from") (quoted source) ∷ member (codes "to") (quoted destination) ∷ member (codes "link") link ∷ member (codes "bits") count ∷ member (codes "octets") octets ∷ []))
message_printed source destination link count octets a b c d p1 p2 p3 =
    let whole : message_front (codes "{\"from\":\"") source destination link count ++ (octets ++ codes "}")
    ≡ object (member (codes "from") (quoted source) ∷ member (codes "to") (quoted destination) ∷ member (codes "link") link ∷ member (codes "bits") count ∷ member (codes "octets") octets ∷ []) = simp append_assoc in
    subst (Appends a d) whole (three (message_front (codes "{\"from\":\"") source destination link count) octets (codes "}") a b c d p1 p2 p3)

abbrev pub crossed_front : List ℕ → List ℕ → List ℕ → List ℕ → List ℕ → List ℕ
crossed_front word source destination link count = codes "{\"kind\":\"" ++ (word ++ message_front (codes "\",\"from\":\"") source destination link count)

pub crossed_printed : (word source destination link count octets : List ℕ) (a b c d : Option (List ℕ)) → Appends a b (crossed_front word source destination link count) → Appends b c octets → Appends c d (codes "}")
    → Appends a d (object (member (codes "kind") (quoted word) ∷ member (codes "from") (quoted source) ∷ member (codes "to") (quoted destination) ∷ member (codes "link") link ∷ member (codes "bits") count ∷ member (codes "octets") octets ∷ []))
crossed_printed word source destination link count octets a b c d p1 p2 p3 =
    let whole : crossed_front word source destination link count ++ (octets ++ codes "}")
    ≡ object (member (codes "kind") (quoted word) ∷ member (codes "from") (quoted source) ∷ member (codes "to") (quoted destination) ∷ member (codes "link") link ∷ member (codes "bits") count ∷ member (codes "octets") octets ∷ []) = simp append_assoc in
    subst (Appends a d) whole (three (crossed_front word source destination link count) octets (codes "}") a b c d p1 p2 p3)

-- ---- hosts that stop and start

pub down_is : (host : List ℕ) → codes "{\"kind\":\"down\",\"host\":\"" ++ (host ++ codes "\"}") ≡ object (member (codes "kind") (quoted (codes "down")) ∷ member (codes "host") (quoted host) ∷ [])
down_is host = simp append_assoc

pub up_is : (host : List ℕ) → codes "{\"kind\":\"up\",\"host\":\"" ++ (host ++ codes "\"}") ≡ object (member (codes "kind") (quoted (codes "up")) ∷ member (codes "host") (quoted host) ∷ [])
up_is host = simp append_assoc
