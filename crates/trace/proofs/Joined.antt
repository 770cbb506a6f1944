-- Items are printed one after the other, with commas between.
use Rattle.trace.proofs.Common.{decimal, Appends, ended_line, Crossing, Sizes, appends_more, crossings_shown, RawEvent, TopologyFields, Spot, Fate}
use Rattle.std.proofs.Common.{◌≡◌, ℕ, zero, suc, ◌<◌, ◌≤◌, ◌+◌, List, [], ◌∷◌, ◌++◌, codes, get_or, length, map, take, Option, None, Some, option_map, Result, Ok, Err, slice_get, refl, sym, ap, subst, ◌∙◌, arith}
use Rattle.std.proofs.lemmas.List.{append_assoc, append-nil, length-map, length-take-le, map-append, take_all, take_more}
use Rattle.std.proofs.lemmas.Option.{slice_get-get_or, slice_get_within}
use Rattle.interface.specs.declared.carrier.CarrierFault.{CarrierFault}
use Rattle.replay.specs.Output.{Crossed, Refused, Shown, shown_crossings, shown_refusal, shown_text}
use Rattle.script.specs.Spelling.{spelling}
use Rattle.trace.specs.Joined.{comma_before, fate_text, head_text, joined_from, network_front, outcome_text, refused_text}
use Rattle.trace.specs.Texts.{array, crossing_object, ends_text, fate_word, further, listed, member, object, opening_line, quoted, site_text, strings, trace_line}

-- one more item
pub joined_more : (place : ℕ) (xs : List (List ℕ)) (x : List ℕ) → joined_from place (xs ++ x ∷ []) ≡ joined_from place xs ++ (comma_before (place + length xs) ++ x)
joined_more place [] x = ap (λ (n : ℕ). comma_before n ++ (x ++ [])) (omega arith) ∙ ap (λ ys. comma_before (place + 0) ++ ys) (append-nil x)
joined_more place (y ∷ xs) x =
    let sums : suc place + length xs ≡ place + suc (length xs) = omega arith in
    ap (λ zs. comma_before place ++ (y ++ zs)) (joined_more (suc place) xs x ∙ ap (λ (n : ℕ). joined_from (suc place) xs ++ (comma_before n ++ x)) sums)
    ∙ ap (λ zs. comma_before place ++ zs) (sym (append_assoc y (joined_from _ xs) (comma_before (place + suc (length xs)) ++ x)))
    ∙ sym (append_assoc (comma_before place) (y ++ joined_from _ xs) (comma_before (place + suc (length xs)) ++ x))

-- with the end they are the list
further_joined : (end : List ℕ) (place : ℕ) (xs : List (List ℕ)) → further end xs ≡ joined_from (suc place) xs ++ end
further_joined end place [] = refl
further_joined end place (x ∷ xs) = ap (λ zs. codes "," ++ (x ++ zs)) (further_joined end (suc place) xs) ∙ ap (λ zs. codes "," ++ zs) (sym (append_assoc x (joined_from _ xs) end))

pub listed_joined : (end : List ℕ) (xs : List (List ℕ)) → listed end xs ≡ joined_from 0 xs ++ end
listed_joined end [] = refl
listed_joined end (x ∷ xs) = ap (λ zs. x ++ zs) (further_joined end 0 xs) ∙ sym (append_assoc x (joined_from 1 xs) end)

pub map_twice : {X : Type 0} (text : X → List ℕ) (xs : List X) → map (λ x. quoted (text x)) xs ≡ map quoted (map text xs)
map_twice text [] = refl
map_twice text (x ∷ xs) = ap (λ zs. quoted (text x) ∷ zs) (map_twice text xs)

-- what is printed of the first items
abbrev pub fronts : {X : Type 0} → (X → List ℕ) → ℕ → List X → List ℕ
fronts text i xs = codes "[" ++ joined_from 0 (map (λ x. quoted (text x)) (take i xs))

-- one more string is printed
one_behind : {X : Type 0} (text : X → List ℕ) (xs : List X) (i : ℕ) (x : X) (a b e : Option (List ℕ)) → slice_get xs i ≡ Some x
    → Appends a b (fronts text i xs) → Appends b e (comma_before i ++ quoted (text x)) → Appends a e (fronts text (i + 1) xs)
one_behind {X} text xs i x a b e is before behind =
    let within : i < length xs = slice_get_within xs i x is in
    let same : Some (get_or xs i x) ≡ Some x = sym (slice_get-get_or xs i x within) ∙ is in
    let item_is : get_or xs i x ≡ x = cc in
    let front : take (i + 1) xs ≡ take i xs ++ x ∷ [] = take_more xs i x within ∙ ap (λ (y : X). take i xs ++ y ∷ []) item_is in
    let long : length (map (λ y. quoted (text y)) (take i xs)) ≡ i = length-map (take i xs) (λ y. quoted (text y)) ∙ length-take-le i xs (omega arith) in
    let here : 0 + length (map (λ y. quoted (text y)) (take i xs)) ≡ i = omega (arith, long) in
    let whole : joined_from 0 (map (λ y. quoted (text y)) (take (i + 1) xs)) ≡ joined_from 0 (map (λ y. quoted (text y)) (take i xs)) ++ (comma_before i ++ quoted (text x)) =
    ap (λ ys. joined_from 0 (map (λ y. quoted (text y)) ys)) front ∙ ap (joined_from 0) (map-append (λ y. quoted (text y)) (take i xs) (x ∷ []))
    ∙ joined_more 0 (map (λ y. quoted (text y)) (take i xs)) (quoted (text x)) ∙ ap (λ (n : ℕ). joined_from 0 (map (λ y. quoted (text y)) (take i xs)) ++ (comma_before n ++ quoted (text x))) here in
    subst (Appends a e) (ap (λ zs. codes "[" ++ zs) (sym whole))
    (appends_more a b e (fronts text i xs) (comma_before i ++ quoted (text x)) before behind)

pub one_more : {X : Type 0} (text : X → List ℕ) (xs : List X) (i : ℕ) (x : X) (a b c e : Option (List ℕ)) → slice_get xs i ≡ Some x
    → Appends a b (fronts text i xs) → Appends b c (comma_before i) → Appends c e (quoted (text x)) → Appends a e (fronts text (i + 1) xs)
one_more text xs i x a b c e is before comma item = one_behind text xs i x a b e is before (appends_more b c e (comma_before i) (quoted (text x)) comma item)

-- all are printed, and the end
pub all_printed : {X : Type 0} (text : X → List ℕ) (xs : List X) (i : ℕ) (a b c : Option (List ℕ)) → length xs ≤ i → Appends a b (fronts text i xs) → Appends b c (codes "]") → Appends a c (array (map quoted (map text xs)))
all_printed {X} text xs i a b c past before end =
    let whole : fronts text i xs ++ codes "]" ≡ array (map quoted (map text xs)) =
    ap (λ (ys : List X). codes "[" ++ (joined_from 0 (map (λ y. quoted (text y)) ys) ++ codes "]")) (take_all i xs past)
    ∙ ap (λ ys. codes "[" ++ (joined_from 0 ys ++ codes "]")) (map_twice text xs) ∙ ap (λ zs. codes "[" ++ zs) (sym (listed_joined (codes "]") (map quoted (map text xs)))) in
    subst (Appends a c) whole (appends_more a b c (fronts text i xs) (codes "]") before end)

-- ---- what an event printed

pub crossed_at : (cs : List Crossing) (more : List Shown) (i : ℕ) (c : Crossing) → slice_get cs i ≡ Some c → slice_get (shown_crossings cs ++ more) i ≡ Some (Crossed c)
crossed_at [] more i c e = let past : i < 0 = slice_get_within [] i c e in absurd (omega (arith, past))
crossed_at (x ∷ cs) more zero c e = ap (λ (o : Option Crossing). option_map (λ d. Crossed d) o) e
crossed_at (x ∷ cs) more (suc i) c e = crossed_at cs more i c e

refused_at : (cs : List Crossing) (s : Shown) → slice_get (shown_crossings cs ++ s ∷ []) (length cs) ≡ Some s
refused_at [] s = refl
refused_at (c ∷ cs) s = refused_at cs s

how_many : (cs : List Crossing) (more : List Shown) → length (shown_crossings cs ++ more) ≡ length cs + length more
how_many [] more = omega arith
how_many (c ∷ cs) more = let rest : length (shown_crossings cs ++ more) ≡ length cs + length more = how_many cs more in omega (arith, rest)

-- what crossed is printed, then a refusal, where there is one, and the end
pub shown_printed : (cs : List Crossing) (r : Result (Unit {0}) CarrierFault) (i : ℕ) (a b c d : Option (List ℕ)) → i ≡ length cs → Appends a b (fronts (shown_text Sizes) i (shown_crossings cs ++ shown_refusal r))
    → Appends b c (refused_text (length cs) r) → Appends c d (codes "]") → Appends a d (strings (map (shown_text Sizes) (shown_crossings cs ++ shown_refusal r)))
shown_printed cs (Ok done) i a b c d is before none end =
    let past : length (shown_crossings cs ++ []) ≤ i = omega (arith, how_many cs [], is) in
    all_printed _ _ i a b d past before (appends_more b c d [] (codes "]") none end)
shown_printed cs (Err f) i a b c d is before refused end =
    let past : length (shown_crossings cs ++ Refused f ∷ []) ≤ length cs + 1 = omega (arith, how_many cs (Refused f ∷ [])) in
    let here : Appends a b (fronts (shown_text Sizes) (length cs) (shown_crossings cs ++ Refused f ∷ [])) = subst (λ (n : ℕ). Appends a b (fronts (shown_text Sizes) n (shown_crossings cs ++ Refused f ∷ []))) is before in
    all_printed _ _ _ a c d past (one_behind _ _ _ _ a b c (refused_at cs _) here refused) end

-- ---- a line

pub line_printed : (head fate outcome parts : List ℕ) (a b c d e f g : Option (List ℕ)) → Appends a b head → Appends b c fate → Appends c d outcome → Appends d e (codes ",\"parts\":") → Appends e f parts → Appends f g (codes "}\n")
    → Appends a g (head ++ (fate ++ (outcome ++ (codes ",\"parts\":" ++ (parts ++ codes "}\n")))))
line_printed head fate outcome parts a b c d e f g h0 h1 h2 h3 h4 h5 =
    appends_more a b g head (fate ++ (outcome ++ (codes ",\"parts\":" ++ (parts ++ codes "}\n")))) h0
    (appends_more b c g fate (outcome ++ (codes ",\"parts\":" ++ (parts ++ codes "}\n"))) h1
    (appends_more c d g outcome (codes ",\"parts\":" ++ (parts ++ codes "}\n")) h2
    (appends_more d e g (codes ",\"parts\":") (parts ++ codes "}\n") h3
    (appends_more e f g parts (codes "}\n") h4 h5))))

abbrev front : (line number round event : List ℕ) → List ℕ
front line number round event = codes "{\"line\":" ++ (line ++ (codes ",\"number\":" ++ (number ++ (codes ",\"round\":" ++ (round ++ (codes ",\"event\":" ++ quoted event))))))

-- a line, with its end
ended_parts : (head outcome parts : List ℕ) → head ++ (outcome ++ (codes ",\"parts\":" ++ (parts ++ codes "}\n"))) ≡ (head ++ (outcome ++ (codes ",\"parts\":" ++ (parts ++ codes "}")))) ++ 10 ∷ []
ended_parts head outcome parts = simp append_assoc

plain_object : (line number round event crossed printed parts : List ℕ) → front line number round event ++ ((codes ",\"crossed\":" ++ (crossed ++ (codes ",\"printed\":" ++ printed))) ++ (codes ",\"parts\":" ++ (parts ++ codes "}")))
    ≡ object (member (codes "line") line ∷ member (codes "number") number ∷ member (codes "round") round ∷ member (codes "event") (quoted event) ∷ member (codes "crossed") crossed ∷ member (codes "printed") printed ∷ member (codes "parts") parts ∷ [])
plain_object line number round event crossed printed parts = simp append_assoc

plain_line : (line number round event crossed printed parts : List ℕ) → front line number round event ++ ((codes ",\"crossed\":" ++ (crossed ++ (codes ",\"printed\":" ++ printed))) ++ (codes ",\"parts\":" ++ (parts ++ codes "}\n")))
    ≡ ended_line (object (member (codes "line") line ∷ member (codes "number") number ∷ member (codes "round") round ∷ member (codes "event") (quoted event) ∷ member (codes "crossed") crossed ∷ member (codes "printed") printed ∷ member (codes "parts") parts ∷ []))
plain_line line number round event crossed printed parts =
    ended_parts (front line number round event) (codes ",\"crossed\":" ++ (crossed ++ (codes ",\"printed\":" ++ printed))) parts ∙ ap ended_line (plain_object line number round event crossed printed parts)

fated_object : (line number round event fate crossed printed parts : List ℕ)
    → front line number round event ++ ((codes ",\"fate\":\"" ++ (fate ++ codes "\"")) ++ ((codes ",\"crossed\":" ++ (crossed ++ (codes ",\"printed\":" ++ printed))) ++ (codes ",\"parts\":" ++ (parts ++ codes "}"))))
    ≡ object (member (codes "line") line ∷ member (codes "number") number ∷ member (codes "round") round ∷ member (codes "event") (quoted event) ∷ member (codes "fate") (quoted fate) ∷ member (codes "crossed") crossed ∷ member (codes "printed") printed ∷ member (codes "parts") parts ∷ [])
fated_object line number round event fate crossed printed parts = simp append_assoc

ended_fate : (head fate outcome parts : List ℕ) → head ++ (fate ++ (outcome ++ (codes ",\"parts\":" ++ (parts ++ codes "}\n")))) ≡ (head ++ (fate ++ (outcome ++ (codes ",\"parts\":" ++ (parts ++ codes "}"))))) ++ 10 ∷ []
ended_fate head fate outcome parts = simp append_assoc

fated_line : (line number round event fate crossed printed parts : List ℕ)
    → front line number round event ++ ((codes ",\"fate\":\"" ++ (fate ++ codes "\"")) ++ ((codes ",\"crossed\":" ++ (crossed ++ (codes ",\"printed\":" ++ printed))) ++ (codes ",\"parts\":" ++ (parts ++ codes "}\n"))))
    ≡ ended_line (object (member (codes "line") line ∷ member (codes "number") number ∷ member (codes "round") round ∷ member (codes "event") (quoted event) ∷ member (codes "fate") (quoted fate) ∷ member (codes "crossed") crossed ∷ member (codes "printed") printed ∷ member (codes "parts") parts ∷ []))
fated_line line number round event fate crossed printed parts =
    ended_fate (front line number round event) (codes ",\"fate\":\"" ++ (fate ++ codes "\"")) (codes ",\"crossed\":" ++ (crossed ++ (codes ",\"printed\":" ++ printed))) parts ∙ ap ended_line (fated_object line number round event fate crossed printed parts)

pub line_is : (spot : Spot) (round : ℕ) (e : RawEvent) (fate : Option Fate) (cs : List Crossing) (r : Result (Unit {0}) CarrierFault) (parts : List ℕ)
    → head_text spot round e ++ (fate_text fate ++ (outcome_text cs r ++ (codes ",\"parts\":" ++ (parts ++ codes "}\n")))) ≡ ended_line (trace_line spot (record { round = round; event = e }) fate (shown_crossings cs ++ shown_refusal r) parts)
line_is spot round e None cs r parts =
    plain_line _ _ _ _ (array (map crossing_object cs)) (strings (map (shown_text Sizes) (shown_crossings cs ++ shown_refusal r))) parts
    ∙ ap (λ (crossed : List Crossing). ended_line (object (member (codes "line") (decimal spot.line) ∷ member (codes "number") (decimal spot.number) ∷ member (codes "round") (decimal round) ∷ member (codes "event") (quoted (spelling e))
    ∷ member (codes "crossed") (array (map crossing_object crossed)) ∷ member (codes "printed") (strings (map (shown_text Sizes) (shown_crossings cs ++ shown_refusal r))) ∷ member (codes "parts") parts ∷ []))) (sym (crossings_shown cs r))
line_is spot round e (Some f) cs r parts =
    fated_line _ _ _ _ _ (array (map crossing_object cs)) (strings (map (shown_text Sizes) (shown_crossings cs ++ shown_refusal r))) parts
    ∙ ap (λ (crossed : List Crossing). ended_line (object (member (codes "line") (decimal spot.line) ∷ member (codes "number") (decimal spot.number) ∷ member (codes "round") (decimal round) ∷ member (codes "event") (quoted (spelling e))
    ∷ member (codes "fate") (quoted (fate_word f)) ∷ member (codes "crossed") (array (map crossing_object crossed)) ∷ member (codes "printed") (strings (map (shown_text Sizes) (shown_crossings cs ++ shown_refusal r))) ∷ member (codes "parts") parts ∷ []))) (sym (crossings_shown cs r))

-- ---- the first line

-- after its beginning come the parts and the end
pub opening_is : (t : TopologyFields) (parts : List ℕ) → network_front t ++ (parts ++ codes "}\n") ≡ ended_line (opening_line t parts)
opening_is t parts = whole _ _ (array (map site_text t.imps)) (array (map ends_text t.lines)) where
  ended : (front : List ℕ) → front ++ (parts ++ codes "}\n") ≡ (front ++ (parts ++ codes "}")) ++ 10 ∷ []
  ended front = simp append_assoc

  flat : (carrier raw imps lines : List ℕ) → (codes "{\"trace\":3,\"carrier\":\"" ++ (carrier ++ (codes "\",\"raw\":" ++ (raw ++ (codes ",\"imps\":" ++ (imps ++ (codes ",\"lines\":" ++ (lines ++ codes ",\"parts\":")))))))) ++ (parts ++ codes "}")
      ≡ object (member (codes "trace") (codes "3") ∷ member (codes "carrier") (quoted carrier) ∷ member (codes "raw") raw ∷ member (codes "imps") imps ∷ member (codes "lines") lines ∷ member (codes "parts") parts ∷ [])
  flat carrier raw imps lines = simp append_assoc

  whole : (carrier raw imps lines : List ℕ) → (codes "{\"trace\":3,\"carrier\":\"" ++ (carrier ++ (codes "\",\"raw\":" ++ (raw ++ (codes ",\"imps\":" ++ (imps ++ (codes ",\"lines\":" ++ (lines ++ codes ",\"parts\":")))))))) ++ (parts ++ codes "}\n")
      ≡ ended_line (object (member (codes "trace") (codes "3") ∷ member (codes "carrier") (quoted carrier) ∷ member (codes "raw") raw ∷ member (codes "imps") imps ∷ member (codes "lines") lines ∷ member (codes "parts") parts ∷ []))
  whole carrier raw imps lines =
      ended (codes "{\"trace\":3,\"carrier\":\"" ++ (carrier ++ (codes "\",\"raw\":" ++ (raw ++ (codes ",\"imps\":" ++ (imps ++ (codes ",\"lines\":" ++ (lines ++ codes ",\"parts\":")))))))) ∙ ap ended_line (flat carrier raw imps lines)

pub network_is : (carrier raw imps lines : List ℕ) → (codes "{\"trace\":3,\"carrier\":\"" ++ (carrier ++ (codes "\",\"raw\":" ++ (raw ++ codes ",\"imps\":")))) ++ (imps ++ (codes ",\"lines\":" ++ (lines ++ codes ",\"parts\":")))
    ≡ codes "{\"trace\":3,\"carrier\":\"" ++ (carrier ++ (codes "\",\"raw\":" ++ (raw ++ (codes ",\"imps\":" ++ (imps ++ (codes ",\"lines\":" ++ (lines ++ codes ",\"parts\":")))))))
network_is carrier raw imps lines = simp append_assoc
