-- The texts of all parts determine a subnet, but for its log.
use Rattle.subnet_trace.proofs.Common.{All-head, All-tail, nat_tests, All, range_with_len, State, Flow, Noted, Standing, Net, Wire, imp_at, wire_at, most_imps, vector_of, array, member, object, Imp, Line, told}
use Rattle.std.proofs.Common.{◌≡◌, ℕ, suc, true, nat_lt, List, [], ◌∷◌, codes, length, map, Option, Some, None, is_some, refl, sym, ap, ap₂, ◌∙◌, arith, slice_index_or}
use Rattle.routing.proofs.lemmas.{claims-shown, vector-is}
use Rattle.subnet.specs.Events.{is_imp, site_at}
use Rattle.trace.proofs.lemmas.{AreClosed, Spelled, also_closed, first_same, lists_spelled, member_once, none_closed, object_closed, object_once, rest_same}
use Rattle.subnet_trace.specs.Texts.{finite_from, frame_text, heard_text, host_object, imp_text, line_text, next_from, port_object, slot_text, kept_of, kept_part, source_part, sources_of, imp_members}
use Rattle.subnet_trace.specs.Told.{IsFrameTold, IsHeardTold, IsHostTold, IsKeptTold, IsLineTold, IsOneNetwork, IsPortTold, IsSlotTold, IsSourceTold, IsTold, IsToldAt, SameTexts, ends_of, IsImpTold}
use Rattle.std.proofs.lemmas.List.{get_or_default, same_lists}
use Rattle.std.specs.FinMap as fin
use Rattle.subnet_trace.proofs.Objects.{distances_spelled, finite_closed, frame_spelled, heard_spelled, host_spelled, not_null, packets_spelled, port_spelled, ports_closed, slot_spelled}
use Rattle.subnet_trace.proofs.Spelling.{kept_once, source_once}

-- ---- an IMP

hosts_spelled : Spelled (λ xs. array (map host_object xs)) (All IsHostTold)
hosts_spelled = lists_spelled host_object IsHostTold host_spelled

ports_spelled : Spelled (λ xs. array (map port_object xs)) (All IsPortTold)
ports_spelled = lists_spelled port_object IsPortTold port_spelled

routes_spelled : Spelled (λ xs. array (map heard_text xs)) (All IsHeardTold)
routes_spelled = lists_spelled heard_text IsHeardTold heard_spelled

slots_spelled : Spelled (λ xs. array (map slot_text xs)) (All IsSlotTold)
slots_spelled = lists_spelled slot_text IsSlotTold slot_spelled

-- ---- flows

sources_once : (s t : State) (es fs : List (Flow × Standing)) → All IsSourceTold es → All IsSourceTold fs → map told (map (source_part s) es) ≡ map told (map (source_part t) fs) → es ≡ fs
sources_once s t [] [] p q h = refl
sources_once s t [] (f ∷ fs) p q h = absurd (cc)
sources_once s t (e ∷ es) [] p q h = absurd (cc)
sources_once s t (e ∷ es) (f ∷ fs) p q h =
    ap₂ (λ (x : Flow × Standing) (xs : List (Flow × Standing)). x ∷ xs) (source_once s t e f (All-head IsSourceTold e es p) (All-head IsSourceTold f fs q) (first_same h)) (sources_once s t es fs (All-tail IsSourceTold e es p) (All-tail IsSourceTold f fs q) (rest_same h))

all_kept_once : (es fs : List (Flow × Noted)) → All IsKeptTold es → All IsKeptTold fs → map told (map kept_part es) ≡ map told (map kept_part fs) → es ≡ fs
all_kept_once [] [] p q h = refl
all_kept_once [] (f ∷ fs) p q h = absurd (cc)
all_kept_once (e ∷ es) [] p q h = absurd (cc)
all_kept_once (e ∷ es) (f ∷ fs) p q h =
    ap₂ (λ (x : Flow × Noted) (xs : List (Flow × Noted)). x ∷ xs) (kept_once e f (All-head IsKeptTold e es p) (All-head IsKeptTold f fs q) (first_same h)) (all_kept_once es fs (All-tail IsKeptTold e es p) (All-tail IsKeptTold f fs q) (rest_same h))

-- all texts of an IMP are those of another
record SameImp (o r : Option State) : Type 0 where
  text : imp_text o ≡ imp_text r
  sources : map told (sources_of o) ≡ map told (sources_of r)
  kept : map told (kept_of o) ≡ map told (kept_of r)

-- ---- its members

members_closed : (i : ℕ) (s : State) → IsImpTold i s → AreClosed (imp_members s)
members_closed i s is =
    also_closed (codes "hosts") refl (hosts_spelled.closed s.hosts is.hosts)
    (also_closed (codes "ports") refl (ports_spelled.closed s.ports is.ports)
    (also_closed (codes "routes") refl (routes_spelled.closed s.routes.heard is.routes)
    (also_closed (codes "store") refl (packets_spelled.closed s.store is.store)
    (also_closed (codes "slots") refl (slots_spelled.closed s.slots is.slots)
    (also_closed (codes "distances") refl (object_closed (finite_from 1 (vector_of s.routes)) (finite_closed 1 (vector_of s.routes)))
    (also_closed (codes "next") refl (object_closed (next_from s.routes (range_with_len 1 most_imps)) (ports_closed s.routes (range_with_len 1 most_imps)).all) none_closed))))))

state_once : (i : ℕ) (s t : State) → IsImpTold i s → IsImpTold i t → SameImp (Some s) (Some t) → s ≡ t
state_once i s t p q e =
    let one = object_once (imp_members s) (imp_members t) (members_closed i s p).all (members_closed i t q).all e.text in
    let two = rest_same one in
    let three = rest_same two in
    let four = rest_same three in
    let five = rest_same four in
    let hosts : s.hosts ≡ t.hosts = hosts_spelled.once s.hosts t.hosts p.hosts q.hosts (member_once (codes "hosts") _ _ (first_same one)) in
    let ports : s.ports ≡ t.ports = ports_spelled.once s.ports t.ports p.ports q.ports (member_once (codes "ports") _ _ (first_same two)) in
    let heard : s.routes.heard ≡ t.routes.heard = routes_spelled.once s.routes.heard t.routes.heard p.routes q.routes (member_once (codes "routes") _ _ (first_same three)) in
    let store : s.store ≡ t.store = packets_spelled.once s.store t.store p.store q.store (member_once (codes "store") _ _ (first_same four)) in
    let slots : s.slots ≡ t.slots = slots_spelled.once s.slots t.slots p.slots q.slots (member_once (codes "slots") _ _ (first_same five)) in
    let sources : s.sources ≡ t.sources = fin.same_entries_map s.sources t.sources (sources_once s t (fin.entries s.sources) (fin.entries t.sources) p.sources q.sources e.sources) in
    let kept : s.kept ≡ t.kept = fin.same_entries_map s.kept t.kept (all_kept_once (fin.entries s.kept) (fin.entries t.kept) p.kept q.kept e.kept) in
    let own : s.routes.own ≡ t.routes.own = p.own ∙ sym q.own in
    let told : vector_of s.routes ≡ vector_of t.routes = distances_spelled.once _ _ (vector-is s.routes) (vector-is t.routes) (member_once (codes "distances") _ _ (first_same (rest_same five))) in
    let claims : s.routes.claims ≡ t.routes.claims = claims-shown s.routes t.routes told in
    let spent : s.spent ≡ t.spent = p.live ∙ sym q.live in
    λ j. record { spent = spent j; hosts = hosts j; ports = ports j; routes = record { own = own j; heard = heard j; claims = claims j }; store = store j; slots = slots j; sources = sources j; kept = kept j }

imp_once : (i : ℕ) (o r : Option State) → IsToldAt i o → IsToldAt i r → SameImp o r → o ≡ r
imp_once i None None p q e = refl
imp_once i None (Some t) p q e = absurd (not_null _ e.text)
imp_once i (Some s) None p q e = absurd (not_null _ (sym e.text))
imp_once i (Some s) (Some t) p q e = ap (λ (x : State). Some x) (state_once i s t p q e)

-- ---- a line

frames_spelled : Spelled (λ xs. array (map frame_text xs)) (All IsFrameTold)
frames_spelled = lists_spelled frame_text IsFrameTold frame_spelled

abbrev line_members : Wire → List (List ℕ)
line_members w = member (codes "+") (array (map frame_text w.forward)) ∷ member (codes "-") (array (map frame_text w.back)) ∷ []

line_closed : (w : Wire) → IsLineTold w → AreClosed (line_members w)
line_closed w is =
    also_closed (codes "+") refl (frames_spelled.closed w.forward is.forward)
    (also_closed (codes "-") refl (frames_spelled.closed w.back is.back) none_closed)

line_once : (v w : Wire) → IsLineTold v → IsLineTold w → ends_of v ≡ ends_of w → line_text v ≡ line_text w → v ≡ w
line_once v w p q ends e =
    let all = object_once (line_members v) (line_members w) (line_closed v p).all (line_closed w q).all e in
    let forward : v.forward ≡ w.forward = frames_spelled.once v.forward w.forward p.forward q.forward (member_once (codes "+") _ _ (first_same all)) in
    let back : v.back ≡ w.back = frames_spelled.once v.back w.back p.back q.back (member_once (codes "-") _ _ (first_same (rest_same all))) in
    λ i. record { a = (ends i).0; b = (ends i).1; forward = forward i; back = back i }

first_place : (n : ℕ) → nat_lt 0 (suc n) ≡ true
first_place n = grind (arith, nat_tests)

next_place : (l n : ℕ) → nat_lt l n ≡ true → nat_lt (suc l) (suc n) ≡ true
next_place l n less = grind (arith, nat_tests)

lines_once : (vs ws : List Wire) → All IsLineTold vs → All IsLineTold ws → map ends_of vs ≡ map ends_of ws → ((l : ℕ) → nat_lt l (length vs) ≡ true → line_text (wire_at vs l) ≡ line_text (wire_at ws l)) → vs ≡ ws
lines_once [] [] p q ends texts = refl
lines_once [] (w ∷ ws) p q ends texts = absurd (cc)
lines_once (v ∷ vs) [] p q ends texts = absurd (cc)
lines_once (v ∷ vs) (w ∷ ws) p q ends texts =
    ap₂ (λ (x : Wire) (xs : List Wire). x ∷ xs) (line_once v w (All-head IsLineTold v vs p) (All-head IsLineTold w ws q) (first_same ends) (texts 0 (first_place _)))
    (lines_once vs ws (All-tail IsLineTold v vs p) (All-tail IsLineTold w ws q) (rest_same ends) (λ l there. texts (suc l) (next_place l _ there)))

-- ---- a subnet

-- the IMPs of two subnets, place by place
imp_same : (n m : Net) → IsTold n → IsTold m → n.sites ≡ m.sites → ((i : ℕ) → is_imp n i ≡ true → SameImp (imp_at n.imps i) (imp_at m.imps i)) → (i : ℕ) → imp_at n.imps i ≡ imp_at m.imps i
imp_same n m p q sites texts i = by (site_at n i) refl where
  by : (o : Option ℕ) → site_at n i ≡ o → imp_at n.imps i ≡ imp_at m.imps i
  by None none = p.there i none ∙ sym (q.there i (sym (ap (λ (ss : List (Option ℕ)). slice_index_or ss i None) sites) ∙ none))
  by (Some count) some = imp_once i _ _ (p.imps i) (q.imps i) (texts i (ap is_some some))

same_imps : (n m : Net) → IsTold n → IsTold m → n.sites ≡ m.sites → ((i : ℕ) → is_imp n i ≡ true → SameImp (imp_at n.imps i) (imp_at m.imps i)) → n.imps ≡ m.imps
same_imps n m p q sites texts =
    let long : length n.imps ≡ length m.imps = p.places ∙ ap length sites ∙ sym q.places in
    same_lists n.imps m.imps long (λ i d less. get_or_default n.imps i d None less ∙ imp_same n m p q sites texts i ∙ sym (get_or_default m.imps i d None (omega (arith, less, long))))

pub whole : (n m : Net) → IsTold n → IsTold m → IsOneNetwork n m → SameTexts n m → m ≡ record n { log = m.log }
whole n m p q same texts =
    let imps : n.imps ≡ m.imps = same_imps n m p q same.sites (λ i there. record { text = texts.parts (Imp i) there; sources = texts.sources i there; kept = texts.kept i there }) in
    let lines : n.lines ≡ m.lines = lines_once _ _ p.lines q.lines same.lines (λ l there. texts.parts (Line l) there) in
    λ j. record { hosts = sym same.hosts j; sites = sym same.sites j; imps = sym imps j; lines = sym lines j; log = m.log }
