-- What the first request of two sockets names, in a text and in what crossed at a place.
use Rattle.world_keeps_lives.proofs.Common.{Contains, IsSome, eqb-true, same_flow, Host, Flow, Crossing, HostMessage, same_flow-refl, same_flow-true, not_true, contains_head, contains_tail, is_receive_socket, Command, Legal, Order, Wrong, orders_of, both, control_flow, Amount, Life}
use Rattle.std.proofs.Common.{◌≡◌, inl, inr, ℕ, ◌<◌, ◌==◌, ◌&&◌, not, Bool, if◌then◌else◌, zero, suc, List, [], ◌∷◌, length, slice_index_or, Option, Some, None, refl, ap, sym, subst, ◌∙◌, arith, eq-eqb, true, false}
use Rattle.promise.specs.Formed.{CrossedAt, IsFormed, named_in, request, text_of, named_by, named_of, named_at}
use Rattle.std.specs.Option.{option_or}
use Rattle.interface.specs.declared.crossing.Crossing.TheVariants as crossing
use Rattle.ncp_control.specs.declared.command.Command.TheVariants as command
use Rattle.world_keeps_lives.proofs.Grounds.{crossed_below}

-- ---- one command

pub named_again : (own foreign n : ℕ) → named_by own foreign (request own foreign n) ≡ Some n
named_again own foreign n = by (is_receive_socket own) refl where
  o : (own == own) ≡ true
  o = eq-eqb own own refl

  f : (foreign == foreign) ≡ true
  f = eq-eqb foreign foreign refl

  rts : is_receive_socket own ≡ true → named_by own foreign (command.Rts own foreign n) ≡ Some n
  rts e = rw (e, o, f) refl

  str : is_receive_socket own ≡ false → named_by own foreign (command.Str own foreign n) ≡ Some n
  str e = rw (e, o, f) refl

  by : (r : Bool) → is_receive_socket own ≡ r → named_by own foreign (if is_receive_socket own then command.Rts own foreign n else command.Str own foreign n) ≡ Some n
  by true e = ap (λ (v : Bool). named_by own foreign (if v then command.Rts own foreign n else command.Str own foreign n)) e ∙ rts e
  by false e = ap (λ (v : Bool). named_by own foreign (if v then command.Rts own foreign n else command.Str own foreign n)) e ∙ str e

if_some : (n k : ℕ) (v : Bool) → (if v then Some n else None) ≡ Some k → (v ≡ true) × (n ≡ k)
if_some n k true e = (refl, (let same : n ≡ k = cc in same))
if_some n k false e = absurd (let none : None ≡ Some k = e in cc)

pub named_is : (own foreign k : ℕ) (c : Command) → named_by own foreign c ≡ Some k → c ≡ request own foreign k
named_is own foreign k (command.Rts a b n) e =
    let i : ((is_receive_socket own && own == a && foreign == b) ≡ true) × (n ≡ k) = if_some n k _ e in
    let two : ((is_receive_socket own && own == a) ≡ true) × ((foreign == b) ≡ true) = both (is_receive_socket own && own == a) (foreign == b) i.0 in
    let one : (is_receive_socket own ≡ true) × ((own == a) ≡ true) = both (is_receive_socket own) (own == a) two.0 in
    ap (λ (x : ℕ). command.Rts x b n) (sym (eqb-true own a one.1)) ∙ ap (λ (x : ℕ). command.Rts own x n) (sym (eqb-true foreign b two.1)) ∙ ap (λ (x : ℕ). command.Rts own foreign x) i.1
    ∙ ap (λ (v : Bool). if v then command.Rts own foreign k else command.Str own foreign k) (sym one.0)
named_is own foreign k (command.Str a b n) e =
    let i : ((not (is_receive_socket own) && own == a && foreign == b) ≡ true) × (n ≡ k) = if_some n k _ e in
    let two : ((not (is_receive_socket own) && own == a) ≡ true) × ((foreign == b) ≡ true) = both (not (is_receive_socket own) && own == a) (foreign == b) i.0 in
    let one : (not (is_receive_socket own) ≡ true) × ((own == a) ≡ true) = both (not (is_receive_socket own)) (own == a) two.0 in
    ap (λ (x : ℕ). command.Str x b n) (sym (eqb-true own a one.1)) ∙ ap (λ (x : ℕ). command.Str own x n) (sym (eqb-true foreign b two.1)) ∙ ap (λ (x : ℕ). command.Str own foreign x) i.1
    ∙ ap (λ (v : Bool). if v then command.Rts own foreign k else command.Str own foreign k) (sym (not_true _ one.0))
named_is own foreign k c e = absurd (let none : None ≡ Some k = e in cc)

-- ---- a text

-- the first request of a text that holds one
pub record Names (own foreign : ℕ) (orders : List Order) : Type 0 where
  pub named : ℕ
  pub is : named_in own foreign orders ≡ Some named
  pub there : Contains orders (Legal (request own foreign named))

later_names : (own foreign : ℕ) (o : Order) (orders : List Order) → named_in own foreign (o ∷ orders) ≡ named_in own foreign orders → Names own foreign orders → Names own foreign (o ∷ orders)
later_names own foreign o orders e n = record { named = n.named; is = e ∙ n.is; there = contains_tail o orders _ n.there }

names_at : (own foreign n : ℕ) (orders : List Order) (i : ℕ) → i < length orders → slice_index_or orders i (Legal (request own foreign n)) ≡ Legal (request own foreign n) → Names own foreign orders
names_at own foreign n [] i less is = absurd (omega (arith, less))
names_at own foreign n (Wrong code octets ∷ orders) zero less is = absurd (cc)
names_at own foreign n (Wrong code octets ∷ orders) (suc i) less is = later_names own foreign _ orders refl (names_at own foreign n orders i (omega (arith, less)) is)
names_at own foreign n (Legal c ∷ orders) zero less is =
    let same : c ≡ request own foreign n = cc in
    record {
      named = n;
      is = ap (λ (d : Command). option_or (named_by own foreign d) (named_in own foreign orders)) same ∙ ap (λ (o : Option ℕ). option_or o (named_in own foreign orders)) (named_again own foreign n);
      there = subst (λ (d : Command). Contains (Legal c ∷ orders) (Legal d)) same (contains_head (Legal c) orders);
    }
names_at own foreign n (Legal c ∷ orders) (suc i) less is = by (named_by own foreign c) refl (names_at own foreign n orders i (omega (arith, less)) is) where
  by : (o : Option ℕ) → named_by own foreign c ≡ o → Names own foreign orders → Names own foreign (Legal c ∷ orders)
  by None e rest = later_names own foreign (Legal c) orders (ap (λ (o : Option ℕ). option_or o (named_in own foreign orders)) e) rest
  by (Some k) e rest = record {
    named = k;
    is = ap (λ (o : Option ℕ). option_or o (named_in own foreign orders)) e;
    there = subst (λ (d : Command). Contains (Legal c ∷ orders) (Legal d)) (named_is own foreign k c e) (contains_head (Legal c) orders);
  }

pub names_of : (own foreign n : ℕ) (orders : List Order) → Contains orders (Legal (request own foreign n)) → Names own foreign orders
names_of own foreign n orders there = names_at own foreign n orders there.0 there.1 there.2

-- ---- what crossed at a place

-- how messages cross that come in, or go out
abbrev pub way_of : Bool → HostMessage → Crossing
way_of true m = crossing.In m
way_of false m = crossing.Out m

text_here : (comes : Bool) (f : Flow) (m : HostMessage) → m.flow ≡ f → text_of comes f (way_of comes m) ≡ m.text ∷ []
text_here true f m e = let same : same_flow f m.flow ≡ true = subst (λ (g : Flow). same_flow f g ≡ true) (sym e) (same_flow-refl f) in rw same refl
text_here false f m e = let same : same_flow f m.flow ≡ true = subst (λ (g : Flow). same_flow f g ≡ true) (sym e) (same_flow-refl f) in rw same refl

pub named_there : (comes : Bool) (from to : Host) (own foreign place : ℕ) (m : HostMessage) (log : List Crossing) → m.flow ≡ control_flow from to → CrossedAt place (way_of comes m) log
    → named_at comes from to own foreign place log ≡ named_in own foreign (orders_of m.text)
named_there comes from to own foreign place m [] flow i = absurd i
named_there comes from to own foreign place m (c ∷ log) flow (inl i) =
    let here : (place == length log) ≡ true = eq-eqb place (length log) i.1 in
    ap (λ (v : Bool). if v then named_of own foreign (text_of comes (control_flow from to) c) else named_at comes from to own foreign place log) here
    ∙ ap (λ (d : Crossing). named_of own foreign (text_of comes (control_flow from to) d)) (sym i.0) ∙ ap (named_of own foreign) (text_here comes _ m flow)
named_there comes from to own foreign place m (c ∷ log) flow (inr i) =
    ap (λ (v : Bool). if v then named_of own foreign (text_of comes (control_flow from to) c) else named_at comes from to own foreign place log) before
    ∙ named_there comes from to own foreign place m log flow i where
      before : (place == length log) ≡ false
      before = by (place == length log) refl where
        by : (v : Bool) → (place == length log) ≡ v → v ≡ false
        by false e = refl
        by true e = absurd (let less : place < length log = crossed_below place _ log i in let same : place ≡ length log = eqb-true place (length log) e in omega (arith, less, same))

-- a message crossed at a place, and the first request of two sockets in it names this
pub record NamedAt (comes : Bool) (from to : Host) (own foreign place n : ℕ) (log : List Crossing) : Type 0 where
  pub message : HostMessage
  pub flow : message.flow ≡ control_flow from to
  pub crossed : CrossedAt place (way_of comes message) log
  pub named : named_in own foreign (orders_of message.text) ≡ Some n

-- which message has a text on a flow
record HasText (comes : Bool) (f : Flow) (own foreign n : ℕ) (c : Crossing) : Type 0 where
  message : HostMessage
  same : c ≡ way_of comes message
  flow : message.flow ≡ f
  named : named_in own foreign (orders_of message.text) ≡ Some n

if_text : (comes : Bool) (f : Flow) (own foreign n : ℕ) (m : HostMessage) (v : Bool) → same_flow f m.flow ≡ v → named_of own foreign (if v then m.text ∷ [] else []) ≡ Some n → HasText comes f own foreign n (way_of comes m)
if_text comes f own foreign n m true e k = record { message = m; same = refl; flow = sym (same_flow-true f m.flow e); named = k }
if_text comes f own foreign n m false e k = absurd (let none : None ≡ Some n = k in cc)

pub none_some : {A : Type 0} (n : ℕ) → None ≡ Some n → A
none_some n e = absurd (let none : None ≡ Some n = e in cc)

has_text : (comes : Bool) (f : Flow) (own foreign n : ℕ) (c : Crossing) → named_of own foreign (text_of comes f c) ≡ Some n → HasText comes f own foreign n c
has_text true f own foreign n (crossing.In m) k = if_text true f own foreign n m _ refl k
has_text false f own foreign n (crossing.Out m) k = if_text false f own foreign n m _ refl k
has_text false f own foreign n (crossing.In m) k = none_some n k
has_text true f own foreign n (crossing.Out m) k = none_some n k
has_text true f own foreign n (crossing.Answer kind g) k = none_some n k
has_text false f own foreign n (crossing.Answer kind g) k = none_some n k
has_text true f own foreign n (crossing.Down g) k = none_some n k
has_text false f own foreign n (crossing.Down g) k = none_some n k
has_text true f own foreign n (crossing.Up g) k = none_some n k
has_text false f own foreign n (crossing.Up g) k = none_some n k

pub found_at : (comes : Bool) (from to : Host) (own foreign place n : ℕ) (log : List Crossing) → named_at comes from to own foreign place log ≡ Some n → NamedAt comes from to own foreign place n log
found_at comes from to own foreign place n [] k = none_some n k
found_at comes from to own foreign place n (c ∷ log) k = by (place == length log) refl k (found_at comes from to own foreign place n log) where
  by : (v : Bool) → (place == length log) ≡ v → (if v then named_of own foreign (text_of comes (control_flow from to) c) else named_at comes from to own foreign place log) ≡ Some n
      → (named_at comes from to own foreign place log ≡ Some n → NamedAt comes from to own foreign place n log) → NamedAt comes from to own foreign place n (c ∷ log)
  by true e h rest =
      let t : HasText comes (control_flow from to) own foreign n c = has_text comes _ own foreign n c h in
      record { message = t.message; flow = t.flow; crossed = inl (sym t.same, eqb-true place (length log) e); named = t.named }
  by false e h rest = let r : NamedAt comes from to own foreign place n log = rest h in record { message = r.message; flow = r.flow; crossed = inr r.crossed; named = r.named }

-- where something is named, this is
pub some_named : (o : Option ℕ) → IsSome o → (n : ℕ) × (o ≡ Some n)
some_named None s = absurd (let none : false ≡ true = s in cc)
some_named (Some n) s = (n, refl)

-- ---- a life's bits

pub determined : (log : List Crossing) (x : Life) (bits : List Bool) (given back : Amount) (over : Bool) → IsFormed log x → IsFormed log (record x { bits = bits; granted = given; returned = back; ended = over }) → bits ≡ x.bits
determined log x bits given back over f g = let same : Some bits ≡ Some x.bits = sym g.bits ∙ f.bits in cc
