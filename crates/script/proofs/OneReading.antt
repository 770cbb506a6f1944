-- What is read is one thing: no two events are spelled alike, and an input is parted in one way.
use Rattle.script.proofs.Common.{false≢true, nat_tests, decimal_injective, All-head, All-tail, decimal, All, flat_map, list_any, bits_of, octets_of, Host, flow_text, host_text, Flow, Direction, HostMessage, IsParted, ended_line, RawEvent}
use Rattle.std.proofs.Common.{◌≡◌, ◌≢◌, ℕ, ◌<◌, ◌≤◌, Bool, List, [], ◌∷◌, ◌++◌, ◌+◌, ◌^◌, ◌==◌, ◌⊎◌, inl, inr, count_by, Ok, length, take, map, codes, refl, sym, ap, ap₂, ◌∙◌, arith, lit<, subst}
use Rattle.std.proofs.lemmas.List.Splits.{length-slice_split}
use Rattle.hex.proofs.HexLemmas.{decode_of-encode_upper}
use Rattle.hex.specs.Hex.{decode_of}
use Rattle.interface.specs.declared.event.Direction.TheVariants as way
use Rattle.script.specs.Script.{AskFor, AskForAs, lines_of}
use Rattle.script.specs.Spelling.{IsEvent, IsFlow, IsHost, IsImp, IsMessage, direction_text, message_text, octets_text, spelling}
use Rattle.script.specs.Steps.{IsFrame, frame_text, pair_text}
use Rattle.script.proofs.Keywords.{unmarked_where, Kind, Messages, Hosts, Flows, Imps, Twos, Frames, Ends, Counts, OperandOf, text_of, IsMeant, keyword, made, operand, made_again, spelled, is_meant, plain}
use Rattle.script.proofs.Places.{direction_unmarked, imp_small}
use Rattle.script.proofs.Hosts.{front_unmarked, host_range, host_unmarked}
use Rattle.script.proofs.Messages.{message_words}
use Rattle.script.proofs.Numbers.{All-unmarked_decimal}
use Rattle.script.proofs.Texts.{octets_are_small, text_again}
use Rattle.script.proofs.Words.{SameCut, SameThree, same_cut, same_parts, same_three}

-- ---- hosts, flows and messages

pub host_once : (g h : Host) → IsHost g → IsHost h → host_text g ≡ host_text h → g ≡ h
host_once g h gs hs e =
    let cut : SameCut (decimal g.host) (decimal g.imp) (decimal h.host) (decimal h.imp) =
    same_cut 47 (decimal g.host) (decimal g.imp) (decimal h.host) (decimal h.imp) (front_unmarked g gs) (front_unmarked h hs) e in
    let g_host : g.host ≤ 3 = (host_range g gs).host in
    let h_host : h.host ≤ 3 = (host_range h hs).host in
    let g_imp : g.imp ≤ 63 = (host_range g gs).imp in
    let h_imp : h.imp ≤ 63 = (host_range h hs).imp in
    let same_host : g.host ≡ h.host = decimal_injective g.host h.host (omega arith) (omega arith) cut.front in
    let same_imp : g.imp ≡ h.imp = decimal_injective g.imp h.imp (omega arith) (omega arith) cut.back in
    λ i. record { imp = same_imp i; host = same_host i }

flow_same : (f g : Flow) → IsFlow f → IsFlow g → SameThree (host_text f.source) (host_text f.destination) (decimal f.link.0) (host_text g.source) (host_text g.destination) (decimal g.link.0) → f ≡ g
flow_same f g fs gs same =
    let f_link : f.link.0 < 256 = fs.2 in
    let g_link : g.link.0 < 256 = gs.2 in
    let source : f.source ≡ g.source = host_once f.source g.source fs.0 gs.0 same.first in
    let destination : f.destination ≡ g.destination = host_once f.destination g.destination fs.1 gs.1 same.second in
    let link : f.link.0 ≡ g.link.0 = decimal_injective f.link.0 g.link.0 (omega arith) (omega arith) same.third in
    λ i. record { source = source i; destination = destination i; link = record { 0 = link i } }

pub flow_once : (f g : Flow) → IsFlow f → IsFlow g → flow_text f ≡ flow_text g → f ≡ g
flow_once f g fs gs e = flow_same f g fs gs
    (same_three 32 (host_text f.source) (host_text f.destination) (decimal f.link.0) (host_text g.source) (host_text g.destination) (decimal g.link.0)
    (host_unmarked 32 f.source (lit< tt) fs.0) (host_unmarked 32 f.destination (lit< tt) fs.1) (host_unmarked 32 g.source (lit< tt) gs.0) (host_unmarked 32 g.destination (lit< tt) gs.1) e)

-- two texts of one length
pub text_once : (a b : List Bool) → length a ≡ length b → octets_text a ≡ octets_text b → a ≡ b
text_once [] [] long e = refl
text_once [] (y ∷ ys) long e = absurd (omega (arith, long))
text_once (x ∷ xs) [] long e = absurd (omega (arith, long))
text_once (x ∷ xs) (y ∷ ys) long e =
    let read : Ok (octets_of (x ∷ xs)) ≡ Ok (octets_of (y ∷ ys)) =
    sym (decode_of-encode_upper (octets_of (x ∷ xs)) (octets_are_small (x ∷ xs))) ∙ ap decode_of e ∙ decode_of-encode_upper (octets_of (y ∷ ys)) (octets_are_small (y ∷ ys)) in
    let octets : octets_of (x ∷ xs) ≡ octets_of (y ∷ ys) = cc in
    sym (text_again (x ∷ xs)) ∙ ap₂ (λ n os. take n (bits_of os)) long octets ∙ text_again (y ∷ ys)

pub message_once : (m n : HostMessage) → IsMessage m → IsMessage n → message_text m ≡ message_text n → m ≡ n
message_once m n ms ns e =
    let m_link : m.flow.link.0 < 256 = ms.0.2 in
    let n_link : n.flow.link.0 < 256 = ns.0.2 in
    let m_long : length m.text ≤ 8063 = ms.1 in
    let n_long : length n.text ≤ 8063 = ns.1 in
    let words = sym (message_words m) ∙ e ∙ message_words n in
    let outer = same_three 32 (host_text m.flow.source) (host_text m.flow.destination) (decimal m.flow.link.0 ++ 32 ∷ (decimal (length m.text) ++ 32 ∷ octets_text m.text))
    (host_text n.flow.source) (host_text n.flow.destination) (decimal n.flow.link.0 ++ 32 ∷ (decimal (length n.text) ++ 32 ∷ octets_text n.text))
    (host_unmarked 32 m.flow.source (lit< tt) ms.0.0) (host_unmarked 32 m.flow.destination (lit< tt) ms.0.1) (host_unmarked 32 n.flow.source (lit< tt) ns.0.0) (host_unmarked 32 n.flow.destination (lit< tt) ns.0.1) words in
    let inner = same_three 32 (decimal m.flow.link.0) (decimal (length m.text)) (octets_text m.text) (decimal n.flow.link.0) (decimal (length n.text)) (octets_text n.text)
    (All-unmarked_decimal 32 m.flow.link.0 (lit< tt) (omega arith)) (All-unmarked_decimal 32 (length m.text) (lit< tt) (omega arith))
    (All-unmarked_decimal 32 n.flow.link.0 (lit< tt) (omega arith)) (All-unmarked_decimal 32 (length n.text) (lit< tt) (omega arith)) outer.third in
    let flow : m.flow ≡ n.flow = flow_same m.flow n.flow ms.0 ns.0 (record { first = outer.first; second = outer.second; third = inner.first }) in
    let long : length m.text ≡ length n.text = decimal_injective (length m.text) (length n.text) (omega arith) (omega arith) inner.second in
    let text : m.text ≡ n.text = text_once m.text n.text long inner.third in
    λ i. record { flow = flow i; text = text i }

-- ---- numbers

record SamePair (a b c d : ℕ) : Type 0 where
  first : a ≡ c
  second : b ≡ d

pair_once : (a b c d : ℕ) → a < 2 ^ 64 → b < 2 ^ 64 → c < 2 ^ 64 → d < 2 ^ 64 → pair_text (a, b) ≡ pair_text (c, d) → SamePair a b c d
pair_once a b c d la lb lc ld e =
    let cut : SameCut (decimal a) (decimal b) (decimal c) (decimal d) = same_cut 32 (decimal a) (decimal b) (decimal c) (decimal d) (All-unmarked_decimal 32 a (lit< tt) la) (All-unmarked_decimal 32 c (lit< tt) lc) e in
    record { first = decimal_injective a c la lc cut.front; second = decimal_injective b d lb ld cut.back }

abbrev is_back : List ℕ → Bool
is_back word = list_any (λ x. x == 45) word

direction_once : (c d : Direction) → direction_text c ≡ direction_text d → c ≡ d
direction_once way.Forward way.Forward e = refl
direction_once way.Forward way.Back e = absurd (false≢true (ap is_back e))
direction_once way.Back way.Forward e = absurd (false≢true (ap is_back (sym e)))
direction_once way.Back way.Back e = refl

frame_once : (a b : ℕ × Direction × ℕ) → IsFrame a → IsFrame b → frame_text a ≡ frame_text b → a ≡ b
frame_once (l, c, k) (m, d, n) p q e =
    let small : l < 2 ^ 32 = p.0 in
    let few : m < 2 ^ 32 = q.0 in
    let low : k < 2 ^ 32 = p.1 in
    let less : n < 2 ^ 32 = q.1 in
    let same : SameThree (decimal l) (direction_text c) (decimal k) (decimal m) (direction_text d) (decimal n) =
    same_three 32 (decimal l) (direction_text c) (decimal k) (decimal m) (direction_text d) (decimal n) (All-unmarked_decimal 32 l (lit< tt) (omega arith)) (direction_unmarked c) (All-unmarked_decimal 32 m (lit< tt) (omega arith)) (direction_unmarked d) e in
    let line : l ≡ m = decimal_injective l m (omega arith) (omega arith) same.first in
    let place : k ≡ n = decimal_injective k n (omega arith) (omega arith) same.third in
    λ i. (line i, direction_once c d same.second i, place i)

-- ---- events

-- two operands of one kind
operand_once : (k : Kind) (x y : OperandOf k) → IsMeant k x → IsMeant k y → text_of k x ≡ text_of k y → x ≡ y
operand_once Messages x y p q e = message_once x y p q e
operand_once Hosts x y p q e = host_once x y p q e
operand_once Flows x y p q e = flow_once x y p q e
operand_once Imps x y p q e =
    let small : x ≤ 63 = imp_small x p in
    let few : y ≤ 63 = imp_small y q in
    decimal_injective x y (omega arith) (omega arith) e
operand_once Twos (a, b) (c, d) p q e =
    let la : a ≤ 63 = imp_small a p.0 in
    let lb : b ≤ 63 = imp_small b p.1 in
    let lc : c ≤ 63 = imp_small c q.0 in
    let ld : d ≤ 63 = imp_small d q.1 in
    let same : SamePair a b c d = pair_once a b c d (omega arith) (omega arith) (omega arith) (omega arith) e in
    λ i. (same.first i, same.second i)
operand_once Frames x y p q e = frame_once x y p q e
operand_once Counts x y p q e = decimal_injective x y (omega (arith, p)) (omega (arith, q)) e
operand_once Ends (a, b) (c, d) p q e =
    let la : a ≤ 63 = imp_small a p.0 in
    let lb : b < 2 ^ 32 = p.1 in
    let lc : c ≤ 63 = imp_small c q.0 in
    let ld : d < 2 ^ 32 = q.1 in
    let same : SamePair a b c d = pair_once a b c d (omega arith) (omega arith) (omega arith) (omega arith) e in
    λ i. (same.first i, same.second i)

-- one keyword with operands that are spelled alike makes one event
made_once : (word other : List ℕ) → word ≡ other → (x : OperandOf (made word).0) (y : OperandOf (made other).0) → IsMeant (made word).0 x → IsMeant (made other).0 y
    → text_of (made word).0 x ≡ text_of (made other).0 y → (made word).1 x ≡ (made other).1 y
made_once word other same x y p q e =
    let F : List ℕ → Type 0 = λ w. (z : OperandOf (made w).0) → IsMeant (made w).0 z → text_of (made word).0 x ≡ text_of (made w).0 z → (made word).1 x ≡ (made w).1 z in
    let here : F word = λ z is alike. ap (made word).1 (operand_once (made word).0 x z p is alike) in
    subst F same here y q e

pub event_once : (d e : RawEvent) → IsEvent d → IsEvent e → spelling d ≡ spelling e → d ≡ e
event_once d e p q same =
    let cut : SameCut (keyword d) (text_of (made (keyword d)).0 (operand d)) (keyword e) (text_of (made (keyword e)).0 (operand e)) =
    same_cut 32 (keyword d) (text_of (made (keyword d)).0 (operand d)) (keyword e) (text_of (made (keyword e)).0 (operand e)) (unmarked_where 32 (keyword d) (plain d)) (unmarked_where 32 (keyword e) (plain e)) (sym (spelled d) ∙ same ∙ spelled e) in
    sym (made_again d) ∙ made_once (keyword d) (keyword e) cut.front (operand d) (operand e) (is_meant d p) (is_meant e q) cut.back ∙ made_again e

-- where no two valid events are spelled alike, lines ask for one list of events
pub asked_once_as : {E : Type 0} (spell : E → List ℕ) (IsValid : E → Type 0) → ((d e : E) → IsValid d → IsValid e → spell d ≡ spell e → d ≡ e) → (ds es : List E) (lines : List (List ℕ)) → AskForAs spell IsValid ds lines → AskForAs spell IsValid es lines → ds ≡ es
asked_once_as {E} spell IsValid once ds es lines d e = events_once ds es d.meant e.meant (d.spelled ∙ sym e.spelled) where
  events_once : (ds es : List E) → All IsValid ds → All IsValid es → map spell ds ≡ map spell es → ds ≡ es
  events_once [] [] p q e = refl
  events_once [] (y ∷ es) p q e = absurd cc
  events_once (x ∷ ds) [] p q e = absurd cc
  events_once (x ∷ ds) (y ∷ es) p q e =
      let first : spell x ≡ spell y = cc in
      let rest : map spell ds ≡ map spell es = cc in
      ap₂ (λ z zs. z ∷ zs) (once x y (All-head IsValid x ds p) (All-head IsValid y es q) first) (events_once ds es (All-tail IsValid x ds p) (All-tail IsValid y es q) rest)

pub asked_once : (ds es : List RawEvent) (lines : List (List ℕ)) → AskFor ds lines → AskFor es lines → ds ≡ es
asked_once ds es lines d e = asked_once_as spelling IsEvent event_once ds es lines d e

-- ---- inputs

-- a text has a line
some_line : (text : List ℕ) → lines_of text ≢ []
some_line text e =
    let counted : length (lines_of text) ≡ count_by (λ b. b == 10) text + 1 = length-slice_split (λ b. b == 10) text in
    let none : length (lines_of text) ≡ 0 = ap length e in
    absurd (omega arith)

pub record SameInput (topology script other more : List ℕ) : Type 0 where
  pub topologies : topology ≡ other
  pub scripts : lines_of script ≡ lines_of more

pub parted_once : (input topology script other more : List ℕ) → IsParted input topology script → IsParted input other more → SameInput topology script other more
parted_once input topology script other more p q = by p.lines q.lines
  where
    both : (xs ys : List (List ℕ)) → lines_of input ≡ p.before ++ codes "%" ∷ xs → lines_of input ≡ q.before ++ codes "%" ∷ ys → SameCut p.before xs q.before ys
    both xs ys h k = same_parts (codes "%") p.before xs q.before ys p.unmarked q.unmarked (sym h ∙ k)

    fronts : p.before ≡ q.before → topology ≡ other
    fronts e = p.front ∙ ap (flat_map ended_line) e ∙ sym q.front

    by : (lines_of input ≡ p.before ++ codes "%" ∷ lines_of script) ⊎ ((lines_of input ≡ p.before ++ codes "%" ∷ []) × (script ≡ []))
        → (lines_of input ≡ q.before ++ codes "%" ∷ lines_of more) ⊎ ((lines_of input ≡ q.before ++ codes "%" ∷ []) × (more ≡ [])) → SameInput topology script other more
    by (inl h) (inl k) = let s = both (lines_of script) (lines_of more) h k in record { topologies = fronts s.front; scripts = s.back }
    by (inl h) (inr k) = absurd (some_line script (both (lines_of script) [] h k.0).back)
    by (inr h) (inl k) = absurd (some_line more (sym (both [] (lines_of more) h.0 k).back))
    by (inr h) (inr k) = let s = both [] [] h.0 k.0 in record { topologies = fronts s.front; scripts = ap lines_of (h.1 ∙ sym k.1) }
