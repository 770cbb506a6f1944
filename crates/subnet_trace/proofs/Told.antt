-- What is traced of a calm of a subnet says all of it: a still round leaves the subnet as it was, and so do all rounds
-- after it.
use Rattle.subnet_trace.proofs.Common.{length-map, false≢true, eqb-true, nat_tests, range_with_len, flat_map, Host, Crossing, Direction, NetEvent, Shown, Happens, RawEvent, Kept, is_imp, Net, imp_at, ends_of, IsOneNetwork, IsTold, SameTexts, IsReached, subnet_calls, Ends, subnet_inside, Spot, kept_of, sources_of, AllParts}
use Rattle.std.proofs.Common.{◌≡◌, ◌⊎◌, inl, inr, ◌==◌, ◌<◌, ◌≤◌, ◌+◌, ℕ, zero, suc, nat_lt, Bool, false, List, [], ◌∷◌, ◌++◌, if◌then◌else◌, filter, length, map, Option, None, is_some, refl, sym, ap, ◌∙◌, arith, true, slice_index_or}
use Rattle.subnet_trace.specs.Parts.{Imp, Line, all_parts, is_part, part_name, parts_members, all_flows, flows_at, parts_of_net, Part, part_text}
use Rattle.subnet_trace.specs.Elements.{all_refreshing, all_turning, calling, can_resend, carrying, delivering, from_subnet, is_heard, is_working, live_frames, numbers_from, round_from_line, round_of, round_of_hosts, sending, telling, turning, dropping}
use Rattle.trace.specs.Elements.{Course, no_course, then_course}
use Rattle.trace.proofs.lemmas.{AllRoundsGo, Goes, Traced, first_same, member_once, rest_same, AreRounds, IsIn, all_takings_in, says_all, then_in}
use Rattle.trace.specs.Traces.{IsStill, TellsEvent, SaysAll}
use Rattle.interface.specs.declared.NetEvent.TheVariants as net
use Rattle.interface.specs.declared.event.Direction.TheVariants as way
use Rattle.subnet_trace.proofs.Calms.{Held, goes_round, held_by, traced}
use Rattle.subnet_trace.proofs.NoChoice.{subnet_settled}
use Rattle.subnet_trace.proofs.Reached.{Holds, one_opening, reached_holds, round_holds}
use Rattle.subnet_trace.proofs.Whole.{whole}
use Rattle.subnet_trace.proofs.Known.{told}
use Rattle.trace.specs.Flows as flow

-- ---- all elementary events of a round have its number

if_in : (round : ℕ) (b : Bool) (c : Course Net) (n : Net) → IsIn round c → IsIn round (if b then c else no_course n)
if_in round true c n h = h
if_in round false c n h = tt

call_in : (round : ℕ) (e : NetEvent) (n : Net) → IsIn round (calling round e n)
call_in round e n = (refl, tt)

refresh_in : (round : ℕ) (numbers : List ℕ) (n : Net) → IsIn round (all_refreshing round numbers n)
refresh_in round [] n = tt
refresh_in round (i ∷ numbers) n =
    then_in round _ (all_refreshing round numbers)
    (then_in round (telling round i n) (sending round i)
    (if_in round (is_working n i) (calling round (net.Route i) n) n (call_in round (net.Route i) n))
    (λ m. if_in round (can_resend m i) (calling round (net.Resend i) m) m (call_in round (net.Resend i) m)))
    (λ m. refresh_in round numbers m)

carry_in : (round l : ℕ) (d : Direction) (frames : ℕ) (n : Net) → IsIn round (carrying round l d frames n)
carry_in round l d zero n = tt
carry_in round l d (suc frames) n =
    if_in round (nat_lt 0 (live_frames n l d))
    (then_course (then_course (delivering round l d n) (dropping round l d)) (carrying round l d frames)) n
    (then_in round (then_course (delivering round l d n) (dropping round l d)) (carrying round l d frames)
    (then_in round (delivering round l d n) (dropping round l d)
    (if_in round (is_heard n l d) (calling round (net.Deliver l d 0) n) n
    (call_in round (net.Deliver l d 0) n)) (λ m. call_in round (net.Drop l d 0) m))
    (λ m. carry_in round l d frames m))

turns_in : (round : ℕ) (lines : List ℕ) (n : Net) → IsIn round (all_turning round lines n)
turns_in round [] n = tt
turns_in round (l ∷ lines) n =
    then_in round _ (all_turning round lines)
    (then_in round (turning round l way.Forward n) (turning round l way.Back)
    (carry_in round l way.Forward (live_frames n l way.Forward) n)
    (λ m. carry_in round l way.Back (live_frames m l way.Back) m))
    (λ m. turns_in round lines m)

round_in : (round : ℕ) (n : Net) → IsIn round (round_of round n)
round_in round n =
    then_in round (all_refreshing round (numbers_from 0 (length n.imps)) n) (round_from_line round 0)
    (refresh_in round (numbers_from 0 (length n.imps)) n)
    (λ m. then_in round (all_turning round (numbers_from 0 (length m.lines)) m) (round_of_hosts round)
    (turns_in round _ m) (λ o. all_takings_in from_subnet round o.hosts o))

-- ---- the same members are the same texts

-- it is among these
abbrev IsAmong : {X : Type 0} → X → List X → Type 0
IsAmong x [] = ⊥
IsAmong x (y ∷ ys) = (y ≡ x) ⊎ IsAmong x ys

among_front : {X : Type 0} (x : X) (xs ys : List X) → IsAmong x xs → IsAmong x (xs ++ ys)
among_front x [] ys h = absurd h
among_front x (y ∷ xs) ys (inl same) = inl same
among_front x (y ∷ xs) ys (inr h) = inr (among_front x xs ys h)

among_back : {X : Type 0} (x : X) (xs ys : List X) → IsAmong x ys → IsAmong x (xs ++ ys)
among_back x [] ys h = h
among_back x (y ∷ xs) ys h = inr (among_back x xs ys h)

among_made : {X Y : Type 0} (f : X → Y) (x : X) (xs : List X) → IsAmong x xs → IsAmong (f x) (map f xs)
among_made f x [] h = absurd h
among_made f x (y ∷ xs) (inl same) = inl (ap f same)
among_made f x (y ∷ xs) (inr h) = inr (among_made f x xs h)

among_kept : (test : ℕ → Bool) (x : ℕ) (xs : List ℕ) → test x ≡ true → IsAmong x xs → IsAmong x (filter test xs)
among_kept test x [] is h = absurd h
among_kept test x (y ∷ xs) is h = by (λ k. among_kept test x xs is k) (test y) refl h where
  by : (IsAmong x xs → IsAmong x (filter test xs)) → (b : Bool) → test y ≡ b → (y ≡ x) ⊎ IsAmong x xs
      → IsAmong x (if b then y ∷ filter test xs else filter test xs)
  by more true e (inl same) = inl same
  by more true e (inr h) = inr (more h)
  by more false e (inl same) = absurd (false≢true (sym e ∙ ap test same ∙ is))
  by more false e (inr h) = more h

in_range : (from count x : ℕ) → from ≤ x → x < from + count → IsAmong x (range_with_len from count)
in_range from zero x low high = absurd (omega (arith, low, high))
in_range from (suc count) x low high =
    by (λ above. in_range (from + 1) count x above (omega (arith, high))) (from == x) refl where
      by : (from + 1 ≤ x → IsAmong x (range_with_len (from + 1) count)) → (b : Bool) → (from == x) ≡ b → (from ≡ x)
          ⊎ IsAmong x (range_with_len (from + 1) count)
      by more true e = inl (eqb-true from x e)
      by more false e = inr (more (grind (arith, nat_tests, low, e)))

same_made : {X Y : Type 0} (f g : X → Y) (xs : List X) → map f xs ≡ map g xs → (x : X) → IsAmong x xs → f x ≡ g x
same_made f g [] same x h = absurd h
same_made f g (y ∷ xs) same x (inl here) = ap f (sym here) ∙ first_same same ∙ ap g here
same_made f g (y ∷ xs) same x (inr h) = same_made f g xs (rest_same same) x h

site_within : (sites : List (Option ℕ)) (i : ℕ) → is_some (slice_index_or sites i None) ≡ true → i < length sites
site_within [] zero some = absurd (cc)
site_within [] (suc i) some = absurd (cc)
site_within (site ∷ sites) zero some = omega arith
site_within (site ∷ sites) (suc i) some = let less : i < length sites = site_within sites i some in omega (arith, less)

listed : (n : Net) → length n.imps ≡ length n.sites → (p : Part) → is_part n p ≡ true → IsAmong p (all_parts n)
listed n places (Imp i) is =
    let less : i < length n.sites = site_within _ i is in
    among_front _ _
    _
    (among_made _ i _
    (among_kept _ i _ is
    (in_range 0 (length n.imps) i (omega arith) (omega (arith, less, places)))))
listed n places (Line l) is =
    let less : l < length n.lines = grind (arith, nat_tests, is) in
    among_back _ _
    _
    (among_made _ l (range_with_len 0 (length n.lines))
    (in_range 0 (length n.lines) l (omega arith) (omega (arith, less))))

-- two states of one network have the same parts
same_parts : (n m : Net) → IsTold n → IsTold m → IsOneNetwork n m → all_parts m ≡ all_parts n
same_parts n m p q same =
    let imps : length m.imps ≡ length n.imps = q.places
    ∙ ap (λ (sites : List (Option ℕ)). length sites) (sym same.sites) ∙ sym p.places in
    let lines : length m.lines ≡ length n.lines = sym (length-map m.lines ends_of)
    ∙ ap (λ (ends : List (ℕ × ℕ)). length ends) (sym same.lines) ∙ length-map n.lines ends_of in
    ap (λ (sites : List (Option ℕ)). map (λ i. Imp i)
    (filter (λ i. is_some (slice_index_or sites i None)) (range_with_len 0 (length m.imps))) ++ map
    (λ l. Line l) (range_with_len 0 (length m.lines))) (sym same.sites)
    ∙ ap (λ (count : ℕ). map (λ i. Imp i) (filter (is_imp n) (range_with_len 0 count)) ++ map (λ l. Line l)
    (range_with_len 0 (length m.lines))) imps
    ∙ ap (λ (count : ℕ). map (λ i. Imp i) (filter (is_imp n) (range_with_len 0 (length n.imps))) ++ map
    (λ l. Line l) (range_with_len 0 count)) lines

-- the flows of each IMP, of which there are two lists
same_lists_of : (n m : Net) (xs : List ℕ) → flat_map (flows_at n) xs ≡ flat_map (flows_at m) xs → (i : ℕ)
    → IsAmong i xs → (sources_of (imp_at n.imps i) ≡ sources_of (imp_at m.imps i))
    × (kept_of (imp_at n.imps i) ≡ kept_of (imp_at m.imps i))
same_lists_of n m [] same i h = absurd h
same_lists_of n m (x ∷ xs) same i (inl here) = (
  ap (λ (k : ℕ). sources_of (imp_at n.imps k)) (sym here) ∙ first_same same
      ∙ ap (λ (k : ℕ). sources_of (imp_at m.imps k)) here,
  ap (λ (k : ℕ). kept_of (imp_at n.imps k)) (sym here) ∙ first_same (rest_same same)
      ∙ ap (λ (k : ℕ). kept_of (imp_at m.imps k)) here,
)
same_lists_of n m (x ∷ xs) same i (inr h) = same_lists_of n m xs (rest_same (rest_same same)) i h

same_flows : (n m : Net) → IsTold n → IsTold m → IsOneNetwork n m → all_flows m ≡ all_flows n → (i : ℕ)
    → is_imp n i ≡ true → (sources_of (imp_at n.imps i) ≡ sources_of (imp_at m.imps i))
    × (kept_of (imp_at n.imps i) ≡ kept_of (imp_at m.imps i))
same_flows n m p q same flows i is =
    let long : length m.imps ≡ length n.imps = q.places
    ∙ ap (λ (sites : List (Option ℕ)). length sites) (sym same.sites) ∙ sym p.places in
    let numbers : filter (is_imp m) (range_with_len 0 (length m.imps))
    ≡ filter (is_imp n) (range_with_len 0 (length n.imps)) =
    ap (λ (sites : List (Option ℕ)). filter (λ k. is_some (slice_index_or sites k None))
    (range_with_len 0 (length m.imps))) (sym same.sites)
    ∙ ap (λ (count : ℕ). filter (is_imp n) (range_with_len 0 count)) long in
    let less : i < length n.sites = site_within _ i is in
    same_lists_of n m _
    (sym flows ∙ ap (flat_map (flows_at m)) numbers) i
    (among_kept _ i _ is
    (in_range 0 (length n.imps) i (omega arith) (omega (arith, less, p.places))))

same_texts : (n m : Net) → IsTold n → IsTold m → IsOneNetwork n m → parts_of_net m ≡ parts_of_net n → SameTexts n m
same_texts n m p q same all =
    let here : parts_members n (all_parts n) ≡ parts_members m (all_parts n) =
    sym (ap (λ (x : AllParts). x.fixed) all)
    ∙ ap (λ (ps : List Part). parts_members m ps) (same_parts n m p q same) in
    let flows : all_flows m ≡ all_flows n = ap (λ (x : AllParts). x.flows) all in
    record {
      parts = λ part is. member_once (part_name part) (part_text n part) (part_text m part)
          (same_made _ _
          _ here part (listed n p.places part is));
      sources = λ i is. ap (map flow.told) (same_flows n m p q same flows i is).0;
      kept = λ i is. ap (map flow.told) (same_flows n m p q same flows i is).1;
    }

-- ---- a still round leaves the subnet as it was

-- a subnet that a replay comes to, in a calm
abbrev reached : Net → List Host → ℕ → Traced Kept Net
reached o hosts lines = record {
  calls = subnet_calls;
  view = λ k. k.net;
  Holds = λ k. Held hosts lines k.net
      × Holds o k;
  giving = from_subnet;
}

stays : (o : Net) (old new : Kept) → Holds o old → Holds o new → IsStill subnet_calls subnet_inside old new → new ≡ old
stays o old new p q still =
    let one : IsTold old.net = told old.net (p.working.whole p.runs) p.known in
    let other : IsTold new.net = told new.net (q.working.whole q.runs) q.known in
    let network : IsOneNetwork old.net new.net = one_opening o _ _ p.known.network q.known.network in
    let is : new.net ≡ record old.net { log = new.net.log } =
    whole _ _ one other network (same_texts _ _ one other network still.parts) in
    let left : new.net ≡ old.net = is ∙ ap (λ (log : List Crossing). record old.net { log = log }) still.log in
    let stopped : new.stopped ≡ old.stopped = q.runs ∙ sym p.runs in
    λ i. record { net = left i; stopped = stopped i }

go : (o : Net) (hosts : List Host) (lines : ℕ) → AllRoundsGo (reached o hosts lines) round_of
go o hosts lines round old r new holds k goes =
    let g : Goes (traced hosts lines) old (round_of round old.net) r new =
    goes_round hosts lines round old r new holds.0 k goes in
    record { ok = g.ok; left = g.left; holds = (g.holds, round_holds old new r k goes holds.1); run = g.run }

subnet_rounds : (o : Net) (hosts : List Host) (lines : ℕ) → AreRounds (reached o hosts lines) subnet_inside round_of
subnet_rounds o hosts lines = record {
  go = go o hosts lines;
  settled = subnet_settled;
  numbered = round_in;
  stays = λ round old new holds goes still. stays o old new holds.1 goes.holds.1 still;
  calm = λ k rounds. refl;
}

-- ---- the law

pub says : (o : Net) (old new other : Kept) (spot : Spot) (e : RawEvent) (lines : List (List ℕ))
    (shown : List Shown) → Holds o old → TellsEvent subnet_calls subnet_inside old (spot, e) new lines
    → Happens subnet_calls old e other shown
    → SaysAll subnet_calls subnet_inside spot old new lines other shown
says o old new other spot e lines shown holds t k =
    let one : IsTold old.net = told old.net (holds.working.whole holds.runs) holds.known in
    says_all (reached o _ _) subnet_inside round_of
    (subnet_rounds o _ _) spot old new other e lines shown
    (held_by _ one.there, holds) t k

pub says_reached : (sites : List (Option ℕ)) (ends : List Ends) (old new other : Kept) (spot : Spot) (e : RawEvent)
    (lines : List (List ℕ)) (shown : List Shown) → IsReached sites ends old
    → TellsEvent subnet_calls subnet_inside old (spot, e) new lines
    → Happens subnet_calls old e other shown → SaysAll subnet_calls subnet_inside spot old new lines other shown
says_reached sites ends old new other spot e lines shown is t k =
    says _ old new other spot e lines shown
    (reached_holds sites ends old is) t k
