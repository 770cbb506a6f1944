-- What is known of a flow has a text of its own.
use Rattle.trace.proofs.Common.{◌≡◌, ℕ, ◌==◌, false, List, [], ◌∷◌, ◌++◌, codes, if◌then◌else◌, lit<, refl, sym, ap, ◌∙◌, All-append, All-cons, decimal, list_any, bytes_eq, Host, Flow, Lacks, SameCut, same_cut, unmarked_where, IsFlowNamed, IsHostNamed, IsShort, member, object, quoted, FlowPart, FlowState, Side}
use Rattle.std.proofs.lemmas.List.{append_assoc}
use Rattle.interface.specs.Printed.{flow_text, host_text}
use Rattle.trace.specs.Flows.{flow_members, flow_name, side_word, state_name, state_word, told}
use Rattle.trace.specs.declared.flow_part.FlowState.TheVariants as state
use Rattle.trace.specs.declared.flow_part.Side.TheVariants as side
use Rattle.trace.proofs.Closed.{AreClosed, also_closed, first_same, member_once, none_closed, object_once, other_first}
use Rattle.trace.proofs.Closed.{quoted_once, rest_same, string_closed}
use Rattle.trace.proofs.Decimals.{decimal_closed, decimal_lacks, short_once}
use Rattle.trace.proofs.Named.{host_words}

-- ---- words

state_in : List ℕ → FlowState
state_in word =
    if bytes_eq word (codes "outstanding") then state.Outstanding
    else if bytes_eq word (codes "answered") then state.Answered
    else if bytes_eq word (codes "idle") then state.Idle
    else if bytes_eq word (codes "waits") then state.Waits
    else if bytes_eq word (codes "taken") then state.Taken
    else if bytes_eq word (codes "dead") then state.Dead
    else state.Never

state_again : (x : FlowState) → state_in (state_word x) ≡ x
unfolding state_in
state_again state.Outstanding = refl
state_again x = refl

state_plain : (x : FlowState) → Lacks 34 (state_word x)
state_plain state.Outstanding = unmarked_where 34 (codes "outstanding") refl
state_plain state.Answered = unmarked_where 34 (codes "answered") refl
state_plain state.Idle = unmarked_where 34 (codes "idle") refl
state_plain state.Waits = unmarked_where 34 (codes "waits") refl
state_plain state.Taken = unmarked_where 34 (codes "taken") refl
state_plain state.Dead = unmarked_where 34 (codes "dead") refl
state_plain state.Never = unmarked_where 34 (codes "never") refl

name_plain : (x : Side) → list_any (λ c. c == 34) (state_name x) ≡ false
name_plain side.Source = refl
name_plain side.Kept = refl

side_once : (x y : Side) → side_word x ≡ side_word y → x ≡ y
side_once side.Source side.Source e = refl
side_once side.Source side.Kept e = absurd (other_first refl e)
side_once side.Kept side.Source e = absurd (other_first refl e)
side_once side.Kept side.Kept e = refl

side_plain : (x : Side) → Lacks 34 (side_word x)
side_plain side.Source = unmarked_where 34 (codes "source") refl
side_plain side.Kept = unmarked_where 34 (codes "kept") refl

side_whole : (x : Side) → Lacks 32 (side_word x)
side_whole side.Source = unmarked_where 32 (codes "source") refl
side_whole side.Kept = unmarked_where 32 (codes "kept") refl

-- ---- flows

host_whole : (h : Host) → Lacks 32 (host_text h)
host_whole h =
    let P : ℕ → Type 0 = λ x. (x == 32) ≡ false in
    All-append P (decimal h.host) (47 ∷ decimal h.imp) (decimal_lacks 32 h.host (lit< tt))
    (All-cons P 47 (decimal h.imp) refl (decimal_lacks 32 h.imp (lit< tt)))

host_plain : (h : Host) → Lacks 34 (host_text h)
host_plain h =
    let P : ℕ → Type 0 = λ x. (x == 34) ≡ false in
    All-append P (decimal h.host) (47 ∷ decimal h.imp) (decimal_lacks 34 h.host (lit< tt))
    (All-cons P 47 (decimal h.imp) refl (decimal_lacks 34 h.imp (lit< tt)))

flow_plain : (f : Flow) → Lacks 34 (flow_text f)
flow_plain f =
    let P : ℕ → Type 0 = λ x. (x == 34) ≡ false in
    All-append P (host_text f.source) (32 ∷ (host_text f.destination ++ 32 ∷ decimal f.link.0)) (host_plain _)
    (All-cons P 32 (host_text f.destination ++ 32 ∷ decimal f.link.0) refl
    (All-append P (host_text f.destination) (32 ∷ decimal f.link.0) (host_plain _)
    (All-cons P 32 (decimal f.link.0) refl (decimal_lacks 34 _ (lit< tt)))))

flow_text_once : (f g : Flow) → IsFlowNamed f → IsFlowNamed g → flow_text f ≡ flow_text g → f ≡ g
flow_text_once f g p q e =
    let first = same_cut 32 (host_text f.source) (host_text f.destination ++ 32 ∷ decimal f.link.0) (host_text g.source)
    (host_text g.destination ++ 32 ∷ decimal g.link.0) (host_whole _) (host_whole _) e in
    let second = same_cut 32 (host_text f.destination) (decimal f.link.0) (host_text g.destination) (decimal g.link.0)
    (host_whole _) (host_whole _) first.back in
    let source : f.source ≡ g.source = host_words.once f.source g.source p.source q.source first.front in
    let destination : f.destination ≡ g.destination = host_words.once f.destination g.destination p.destination q.destination second.front in
    let link : f.link.0 ≡ g.link.0 = short_once _ _ p.link q.link second.back in
    λ i. record { source = source i; destination = destination i; link = record { 0 = link i } }

name_closed : (p : FlowPart) → Lacks 34 (flow_name p)
name_closed p =
    let P : ℕ → Type 0 = λ x. (x == 34) ≡ false in
    All-append P (side_word p.side) (32 ∷ flow_text p.flow) (side_plain p.side)
    (All-cons P 32 (flow_text p.flow) refl (flow_plain p.flow))

-- ---- a part

abbrev known_members : Side → FlowState → ℕ → List (List ℕ)
known_members s x n = member (state_name s) (quoted (state_word x)) ∷ member (codes "number") (decimal n) ∷ []

known_closed : (s : Side) (x : FlowState) (n : ℕ) → AreClosed (known_members s x n)
known_closed s x n = also_closed (state_name s) (name_plain s) (string_closed _ (state_plain x))
    (also_closed (codes "number") refl (decimal_closed n) none_closed)

record SameKnown (x y : FlowState) (m n : ℕ) : Type 0 where
  state : x ≡ y
  number : m ≡ n

known_once : (s : Side) (x y : FlowState) (m n : ℕ) → IsShort m → IsShort n
    → object (known_members s x m) ≡ object (known_members s y n) → SameKnown x y m n
known_once s x y m n p q e =
    let all = object_once (known_members s x m) (known_members s y n) (known_closed s x m).all
    (known_closed s y n).all e in
    let words : state_word x ≡ state_word y = quoted_once (state_word x) (state_word y)
    (member_once (state_name s) (quoted (state_word x)) (quoted (state_word y)) (first_same all)) in record {
      state = sym (state_again x) ∙ ap state_in words ∙ state_again y;
      number = short_once m n p q (member_once (codes "number") (decimal m) (decimal n) (first_same (rest_same all)));
    }

-- its name, and then what is known
parted : (p : FlowPart) → told p ≡ 34 ∷ (flow_name p ++ 34 ∷ (58 ∷ object (flow_members p)))
parted p = ap (λ (xs : List ℕ). 34 ∷ xs) (append_assoc (flow_name p) (34 ∷ []) (58 ∷ object (flow_members p)))

-- the numbers in it are not too long
pub record IsFlowPartNamed (p : FlowPart) : Type 0 where
  pub flow : IsFlowNamed p.flow
  pub number : IsShort p.number

pub part_once : (p q : FlowPart) → IsFlowPartNamed p → IsFlowPartNamed q → told p ≡ told q → p ≡ q
part_once p q np nq e =
    let cut = same_cut 34 (flow_name p) (58 ∷ object (flow_members p)) (flow_name q) (58 ∷ object (flow_members q))
    (name_closed p) (name_closed q) (rest_same (sym (parted p) ∙ e ∙ parted q)) in
    let names = same_cut 32 (side_word p.side) (flow_text p.flow) (side_word q.side) (flow_text q.flow)
    (side_whole p.side) (side_whole q.side) cut.front in
    let sides : p.side ≡ q.side = side_once p.side q.side names.front in
    let flows : p.flow ≡ q.flow = flow_text_once p.flow q.flow np.flow nq.flow names.back in
    let behind : object (known_members p.side p.state p.number) ≡ object (known_members p.side q.state q.number) =
    rest_same cut.back ∙ ap (λ (s : Side). object (known_members s q.state q.number)) (sym sides) in
    let known = known_once p.side _ _ _ _ np.number nq.number behind in
    λ i. record { side = sides i; flow = flows i; state = known.state i; number = known.number i }
