-- The texts on a life's link, as more crosses.
use Rattle.world_keeps_lives.proofs.Common.{ltb-true, Flow, Crossing, carried, before, receives, Life}
use Rattle.std.proofs.Common.{◌≡◌, ℕ, zero, suc, ◌+◌, ◌<◌, ◌≤◌, ◌&&◌, max, nat_lt, Bool, true, false, if◌then◌else◌, List, [], ◌∷◌, ◌++◌, take, drop, length, Option, Some, None, refl, ap, sym, ◌∙◌, arith, append-nil, lt-ltb, ◌-◌}
use Rattle.std.proofs.lemmas.List.{append_assoc, length-append, take-append-le}
use Rattle.promise.specs.Formed.{coming, data_in, going, joined, request, text_of, texts_for, flow_of, texts_of}
use Rattle.world_keeps_lives.proofs.Grounds.{still_crossed}
use Rattle.world_keeps_lives.proofs.Firsts.Linked.{HasRequests, IsFirst, Linked, all_data}

-- ---- places

drop_more : (n p : ℕ) (c : Crossing) (log : List Crossing) → p ≤ n → drop (suc n - p) (c ∷ log) ≡ drop (n - p) log
drop_more n p c log less = let e : suc n - p ≡ suc (n - p) = omega (arith, less) in ap (λ (k : ℕ). drop k (c ∷ log)) e

-- what was before a place stays
pub before_still : (place : ℕ) (c : Crossing) (log : List Crossing) → place ≤ length log → before place (c ∷ log) ≡ before place log
before_still place c log less = drop_more _ place c log less

pub before_all : (log : List Crossing) → before (length log) log ≡ log
before_all log = let e : length log - length log ≡ 0 = omega arith in ap (λ (k : ℕ). drop k log) e

pub before_here : (c : Crossing) (log : List Crossing) → before (length log) (c ∷ log) ≡ log
before_here c log = before_still _ c log (omega arith) ∙ before_all log

-- ---- texts

none_early : (comes : Bool) (f : Flow) (a b n : ℕ) (c : Crossing) → n ≤ max a b → (if nat_lt a n && nat_lt b n then text_of comes f c else []) ≡ []
none_early comes f a b n c less = by (nat_lt a n) (nat_lt b n) refl refl where
  by : (v w : Bool) → nat_lt a n ≡ v → nat_lt b n ≡ w → (if nat_lt a n && nat_lt b n then text_of comes f c else []) ≡ []
  by false w e g = rw e refl
  by true false e g = rw (e, g) refl
  by true true e g = absurd (omega (arith, ltb-true a n e, ltb-true b n g, less))

-- before both requests there are none
pub texts_none : (comes : Bool) (f : Flow) (a b : ℕ) (log : List Crossing) → length log ≤ suc (max a b) → texts_of comes f a b log ≡ []
texts_none comes f a b [] less = refl
texts_none comes f a b (c ∷ log) less =
    let shorter : length log ≤ max a b = omega (arith, less) in
    let early : texts_of comes f a b log ≡ [] = texts_none comes f a b log (omega (arith, shorter)) in
    ap (λ (ts : List (List Bool)). ts ++ (if nat_lt a (length log) && nat_lt b (length log) then text_of comes f c else [])) early ∙ none_early comes f a b _ c shorter

-- what isn't on the link adds none
pub texts_same : (comes : Bool) (f : Flow) (a b : ℕ) (c : Crossing) (log : List Crossing) → text_of comes f c ≡ [] → texts_of comes f a b (c ∷ log) ≡ texts_of comes f a b log
texts_same comes f a b c log none = by (nat_lt a (length log) && nat_lt b (length log)) where
  by : (v : Bool) → texts_of comes f a b log ++ (if v then text_of comes f c else []) ≡ texts_of comes f a b log
  by true = ap (λ (ts : List (List Bool)). texts_of comes f a b log ++ ts) none ∙ append-nil (texts_of comes f a b log)
  by false = append-nil (texts_of comes f a b log)

-- and what is on it, after both requests, adds one
pub texts_one : (comes : Bool) (f : Flow) (a b : ℕ) (c : Crossing) (log : List Crossing) (text : List Bool) → a < length log → b < length log → text_of comes f c ≡ text ∷ [] → texts_of comes f a b (c ∷ log) ≡ texts_of comes f a b log ++ text ∷ []
texts_one comes f a b c log text after behind one =
    let v : nat_lt a (length log) ≡ true = lt-ltb a (length log) after in
    let w : nat_lt b (length log) ≡ true = lt-ltb b (length log) behind in
    ap (λ (t : Bool). texts_of comes f a b log ++ (if t && nat_lt b (length log) then text_of comes f c else [])) v
    ∙ ap (λ (t : Bool). texts_of comes f a b log ++ (if t then text_of comes f c else [])) w ∙ ap (λ (ts : List (List Bool)). texts_of comes f a b log ++ ts) one

-- ---- data

joined_nil : (o : Option (List Bool)) → joined o (Some []) ≡ joined (Some []) o
joined_nil None = refl
joined_nil (Some bits) = ap (λ (bs : List Bool). Some bs) (append-nil bits)

joined_assoc : (o p q : Option (List Bool)) → joined o (joined p q) ≡ joined (joined o p) q
joined_assoc None p q = refl
joined_assoc (Some a) None q = refl
joined_assoc (Some a) (Some b) None = refl
joined_assoc (Some a) (Some b) (Some c) = ap (λ (bs : List Bool). Some bs) (sym (append_assoc a b c))

pub data_more : (comes : Bool) (ts : List (List Bool)) (t : List Bool) → all_data comes (ts ++ t ∷ []) ≡ joined (all_data comes ts) (data_in comes t)
data_more comes [] t = joined_nil _
data_more comes (u ∷ ts) t = ap (λ (o : Option (List Bool)). joined (data_in comes u) o) (data_more comes ts t) ∙ joined_assoc _ _ _

pub take_whole : (n : ℕ) (ts : List (List Bool)) → n ≡ length ts → take n ts ≡ ts
take_whole zero [] e = refl
take_whole zero (t ∷ ts) e = absurd (omega (arith, e))
take_whole (suc n) [] e = absurd (omega (arith, e))
take_whole (suc n) (t ∷ ts) e = ap (λ (us : List (List Bool)). t ∷ us) (take_whole n ts (omega (arith, e)))

-- ---- a life

-- all that its link has is its own
abbrev pub IsFull : List Crossing → Life → ℕ → Type 0
IsFull log x link = x.messages ≡ length (texts_for x link log)

-- its requests stay in the log
asked_still : (c : Crossing) (log : List Crossing) (p : Linked) → HasRequests log p → HasRequests (c ∷ log) p
asked_still c log p a = record {
  size = a.size;
  own = still_crossed going p.life.host p.life.peer p.life.own_stamp _ c log a.own;
  partner = still_crossed coming p.life.peer p.life.host p.life.partner_stamp _ c log a.partner;
}

-- what crosses later comes after its messages
pub first_still : (c : Crossing) (log : List Crossing) (p : Linked) → IsFirst log p → IsFirst (c ∷ log) p
first_still c log p f = record {
  asked = asked_still c log p f.asked;
  enough = (let e : p.life.messages ≤ length (texts_for p.life p.link log) = f.enough in let g : length (texts_for p.life p.link log ++ more) ≡ length (texts_for p.life p.link log) + length more = length-append (texts_for p.life p.link log) more in omega (arith, e, g));
  bits = ap (all_data _) (take-append-le p.life.messages (texts_for p.life p.link log) more f.enough) ∙ f.bits;
} where
  more : List (List Bool)
  more = if nat_lt p.life.own_stamp (length log) && nat_lt p.life.partner_stamp (length log) then text_of (receives p.life) (flow_of p.life p.link) c else []

-- one message more, of one whose link has no other
module _ (c : Crossing) (log : List Crossing) (p : Linked) (f : IsFirst log p) (full : IsFull log p.life p.link) (text bits : List Bool) (after : p.life.own_stamp < length log) (behind : p.life.partner_stamp < length log)
    (one : text_of (receives p.life) (flow_of p.life p.link) c ≡ text ∷ []) (datum : data_in (receives p.life) text ≡ Some bits) where
  now : texts_for p.life p.link (c ∷ log) ≡ texts_for p.life p.link log ++ text ∷ []
  now = texts_one _ _ p.life.own_stamp p.life.partner_stamp c log text after behind one

  pub full_more : IsFull (c ∷ log) (carried bits p.life) p.link
  full_more = ap (λ (n : ℕ). n + 1) full ∙ sym (length-append (texts_for p.life p.link log) (text ∷ [])) ∙ sym (ap length now)

  all_bits : all_data (receives p.life) (texts_for p.life p.link log) ≡ Some p.life.bits
  all_bits = ap (all_data _) (sym (take_whole p.life.messages _ full)) ∙ f.bits

  pub first_more : IsFirst (c ∷ log) (record p { life = carried bits p.life })
  first_more = record {
    asked = (let a : HasRequests (c ∷ log) p = asked_still c log p f.asked in record { size = a.size; own = a.own; partner = a.partner });
    enough = (let e : p.life.messages + 1 ≡ length (texts_for p.life p.link (c ∷ log)) = full_more in omega (arith, e));
    bits = ap (all_data _) (take_whole _ _ full_more ∙ now)
        ∙ data_more (receives p.life) _ text ∙ ap (λ (o : Option (List Bool)). joined o (data_in (receives p.life) text)) all_bits ∙ ap (λ (o : Option (List Bool)). joined (Some p.life.bits) o) datum;
  }
