-- All parts are printed one after the other.
use Rattle.trace.proofs.Common.{◌≡◌, ℕ, suc, ◌<◌, ◌≤◌, ◌+◌, List, [], ◌∷◌, ◌++◌, codes, get_or, length, map, take, Option, sym, ap, subst, ◌∙◌, arith, Appends, Boxes, Host, host_text, appends_more}
use Rattle.std.proofs.lemmas.List.{append_assoc, map-append, take_all, take_more}
use Rattle.trace.specs.Joined.{begun, comma_before, joined_from}
use Rattle.trace.specs.Parts.{Part, Down, Waiting, all_parts}
use Rattle.trace.specs.Texts.{member, part_name, part_text, parts_text}
use Rattle.trace.proofs.Joined.{joined_more, listed_joined}

abbrev text_of : Boxes → Part → List ℕ
text_of b p = member (part_name p) (part_text b p)

-- a host's name, and what waits for it
pub host_member : (h : Host) (v : List ℕ) (a b c : Option (List ℕ)) → Appends a b (codes "\"host " ++ (host_text h ++ codes "\":")) → Appends b c v → Appends a c (member (part_name (Waiting h)) v)
host_member h v a b c name value =
    let inner : (host_text h ++ 34 ∷ 58 ∷ []) ++ v ≡ (host_text h ++ 34 ∷ []) ++ 58 ∷ v = append_assoc (host_text h) (34 ∷ 58 ∷ []) v ∙ sym (append_assoc (host_text h) (34 ∷ []) (58 ∷ v)) in
    subst (Appends a c) (ap (λ zs. codes "\"host " ++ zs) inner) (appends_more a b c (codes "\"host " ++ (host_text h ++ codes "\":")) v name value)

-- ---- all parts

-- one host more
pub whole_more : (b : Boxes) (hs : List Host) (i : ℕ) (h : Host) (a m n u : Option (List ℕ)) → i < length hs → h ≡ get_or hs i h → Appends a m (begun b (Down ∷ map (λ g. Waiting g) (take i hs))) → Appends m n (codes ",") → Appends n u (text_of b (Waiting h))
    → Appends a u (begun b (Down ∷ map (λ g. Waiting g) (take (i + 1) hs)))
whole_more b hs i h a m n u lt is before comma item =
    let front : take (i + 1) hs ≡ take i hs ++ h ∷ [] = take_more hs i h lt ∙ ap (λ (g : Host). take i hs ++ g ∷ []) (sym is) in
    let parts : map (λ g. Waiting g) (take (i + 1) hs) ≡ map (λ g. Waiting g) (take i hs) ++ Waiting h ∷ [] = ap (λ gs. map (λ g. Waiting g) gs) front ∙ map-append (λ g. Waiting g) (take i hs) (h ∷ []) in
    let texts = map (text_of b) (map (λ g. Waiting g) (take i hs)) in
    let count : 0 + suc (length texts) ≡ suc (length texts) = omega arith in
    let whole : joined_from 0 (map (text_of b) (Down ∷ map (λ g. Waiting g) (take (i + 1) hs))) ≡ joined_from 0 (text_of b Down ∷ texts) ++ (codes "," ++ text_of b (Waiting h)) =
    ap (λ ps. joined_from 0 (text_of b Down ∷ map (text_of b) ps)) parts ∙ ap (λ xs. joined_from 0 (text_of b Down ∷ xs)) (map-append (text_of b) (map (λ g. Waiting g) (take i hs)) (Waiting h ∷ []))
    ∙ joined_more 0 (text_of b Down ∷ texts) (text_of b (Waiting h)) ∙ ap (λ (k : ℕ). joined_from 0 (text_of b Down ∷ texts) ++ (comma_before k ++ text_of b (Waiting h))) count in
    subst (Appends a u) (ap (λ zs. codes "{" ++ zs) (sym whole))
    (appends_more a m u (begun b (Down ∷ map (λ g. Waiting g) (take i hs))) (codes "," ++ text_of b (Waiting h)) before (appends_more m n u (codes ",") (text_of b (Waiting h)) comma item))

pub whole_printed : (b : Boxes) (hs : List Host) (i : ℕ) (a m n : Option (List ℕ)) → length hs ≤ i → hs ≡ b.hosts → Appends a m (begun b (Down ∷ map (λ g. Waiting g) (take i hs))) → Appends m n (codes "}") → Appends a n (parts_text b (all_parts b.hosts))
whole_printed b hs i a m n past same before end =
    let whole : begun b (Down ∷ map (λ g. Waiting g) (take i hs)) ++ codes "}" ≡ parts_text b (all_parts b.hosts) =
    ap (λ (gs : List Host). begun b (all_parts gs) ++ codes "}") (take_all i hs past ∙ same) ∙ ap (λ zs. codes "{" ++ zs) (sym (listed_joined (codes "}") (map (text_of b) (all_parts b.hosts)))) in
    subst (Appends a n) whole (appends_more a m n (begun b (Down ∷ map (λ g. Waiting g) (take i hs))) (codes "}") before end)
