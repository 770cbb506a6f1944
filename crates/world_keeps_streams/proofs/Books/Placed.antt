-- Where messages of a run crossed: what was before a place, the texts that came in since, and what a message that
-- comes in was when it went out.
use Rattle.world_keeps_streams.proofs.Common.{length-append, Host, went_out, Flow, Crossing, HostMessage, same_Some}
use Rattle.std.proofs.Common.{◌≡◌, inl, inr, ℕ, ◌+◌, ◌<◌, ◌≤◌, ◌==◌, ◌&&◌, nat_lt, Bool, true, false, if◌then◌else◌, List, ◌∷◌, ◌++◌, drop, length, Some, refl, ap, sym, subst, ◌∙◌, arith, ◌-◌, [], ne_eqb}
use Rattle.interface.specs.Mailboxes.{box_of, IsRun, Waiting, WaitsWith}
use Rattle.interface.proofs.lemmas.{or_false, same_flow-refl, waits_with}
use Rattle.promise.specs.Formed.{CrossedAt, text_of, texts_of, link_of, named_at}
use Rattle.promise.specs.Safe.{last_out, before, receives}
use Rattle.world_keeps_lives.proofs.lemmas.{texts_one, crossed_below, before_still}
use Rattle.std.proofs.Math.Seq.{drop-append_seam}
use Rattle.interface.specs.Flow.{same_flow}
use Rattle.interface.specs.declared.crossing.Crossing.TheVariants as crossing
use Rattle.promise.specs.declared.life.Life.{Life}
use Rattle.world_keeps_streams.proofs.Books.Answered.{Waits, waiting}

-- ---- places

pub crossed_end : (xs ys : List Crossing) (c : Crossing) → CrossedAt (length ys) c (xs ++ c ∷ ys)
crossed_end [] ys c = inl (refl, refl)
crossed_end (x ∷ xs) ys c = inr (crossed_end xs ys c)

-- one thing crosses at a place
pub crossed_one : (place : ℕ) (c d : Crossing) (log : List Crossing) → CrossedAt place c log → CrossedAt place d log
    → c ≡ d
crossed_one place c d [] i j = absurd i
crossed_one place c d (e ∷ log) (inl i) (inl j) = i.0 ∙ sym j.0
crossed_one place c d (e ∷ log) (inl i) (inr j) = absurd
    (let less : place < length log = crossed_below place d log j in let is : place ≡ length log =
    i.1 in omega (arith, less, is))
crossed_one place c d (e ∷ log) (inr i) (inl j) = absurd
    (let less : place < length log = crossed_below place c log i in let is : place ≡ length log =
    j.1 in omega (arith, less, is))
crossed_one place c d (e ∷ log) (inr i) (inr j) = crossed_one place c d log i j

-- what was before a place stays
pub before_later : (xs ys : List Crossing) (place : ℕ) → place ≤ length ys → before place (xs ++ ys) ≡ before place ys
before_later [] ys place less = refl
before_later (x ∷ xs) ys place less =
    let more : length (xs ++ ys) ≡ length xs + length ys = length-append xs ys in
    before_still place x _ (omega (arith, less, more)) ∙ before_later xs ys place less

pub before_end : (xs ys : List Crossing) → before (length ys) (xs ++ ys) ≡ ys
before_end xs ys =
    let all : length (xs ++ ys) ≡ length xs + length ys = length-append xs ys in
    let e : length (xs ++ ys) - length ys ≡ length xs = omega (arith, all) in
    ap (λ (k : ℕ). drop k (xs ++ ys)) e ∙ drop-append_seam xs ys

-- ---- what a life's requests name

named_later : (comes : Bool) (from to : Host) (own foreign place : ℕ) (xs ys : List Crossing) → place < length ys
    → named_at comes from to own foreign place (xs ++ ys) ≡ named_at comes from to own foreign place ys
named_later comes from to own foreign place [] ys less = refl
named_later comes from to own foreign place (x ∷ xs) ys less =
    let more : length (xs ++ ys) ≡ length xs + length ys = length-append xs ys in
    let off : (place == length (xs ++ ys)) ≡ false = ne_eqb place (length (xs ++ ys)) (λ e. absurd (omega (arith, less, more, e))) in
    rw off (named_later comes from to own foreign place xs ys less)

pub link_later : (xs ys : List Crossing) (x : Life) → x.own_stamp < length ys → x.partner_stamp < length ys
    → link_of (xs ++ ys) x ≡ link_of ys x
link_later xs ys x own partner = by (receives x) where
  by : (v : Bool) → (if v then named_at false x.host x.peer x.socket x.foreign x.own_stamp
      (xs ++ ys) else named_at true x.peer x.host x.foreign x.socket x.partner_stamp (xs ++ ys))
      ≡ (if v then named_at false x.host x.peer x.socket x.foreign x.own_stamp ys
      else named_at true x.peer x.host x.foreign x.socket x.partner_stamp ys)
  by true = named_later false x.host x.peer x.socket x.foreign x.own_stamp xs ys own
  by false = named_later true x.peer x.host x.foreign x.socket x.partner_stamp xs ys partner

-- ---- texts

texts_more : (comes : Bool) (f : Flow) (a b : ℕ) (xs ys : List Crossing)
    → length (texts_of comes f a b ys) ≤ length (texts_of comes f a b (xs ++ ys))
texts_more comes f a b [] ys = omega arith
texts_more comes f a b (x ∷ xs) ys =
    let less : length (texts_of comes f a b ys) ≤ length (texts_of comes f a b (xs ++ ys)) =
    texts_more comes f a b xs ys in
    let all : length (texts_of comes f a b (xs ++ ys) ++ new) ≡ length (texts_of comes f a b (xs ++ ys)) + length new =
    length-append (texts_of comes f a b (xs ++ ys)) new in
    omega (arith, less, all) where
      new : List (List Bool)
      new = if nat_lt a (length (xs ++ ys)) && nat_lt b (length (xs ++ ys)) then text_of comes f x else []

text_there : (f g : Flow) (text : List Bool) → f ≡ g → (if same_flow f g then text ∷ [] else []) ≡ text ∷ []
text_there f g text e = let same : same_flow f g ≡ true =
    subst (λ (h : Flow). same_flow f h ≡ true) e (same_flow-refl f) in rw same refl

-- one that came in after both requests is one more
pub texts_past : (f : Flow) (a b : ℕ) (m : HostMessage) (xs ys : List Crossing) → f ≡ m.flow → a < length ys
    → b < length ys → length (texts_of true f a b ys) < length (texts_of true f a b (xs ++ crossing.In m ∷ ys))
texts_past f a b m xs ys same after behind =
    let one : texts_of true f a b (crossing.In m ∷ ys) ≡ texts_of true f a b ys ++ m.text ∷ [] =
    texts_one true f a b (crossing.In m) ys m.text after behind (text_there f m.flow m.text same) in
    let long : length (texts_of true f a b (crossing.In m ∷ ys)) ≡ length (texts_of true f a b ys) + 1 =
    ap (λ (ts : List (List Bool)). length ts) one ∙ length-append (texts_of true f a b ys) (m.text ∷ []) in
    let less : length (texts_of true f a b (crossing.In m ∷ ys))
    ≤ length (texts_of true f a b (xs ++ crossing.In m ∷ ys)) = texts_more true f a b xs (crossing.In m ∷ ys) in
    omega (arith, long, less)

-- ---- what went out last

last_since : (f : Flow) (m : HostMessage) (since ys : List Crossing) → f ≡ m.flow → went_out f since ≡ false
    → last_out f (since ++ crossing.Out m ∷ ys) ≡ Some (length ys)
last_since f m [] ys same none = let here : same_flow f m.flow ≡ true =
    subst (λ (h : Flow). same_flow f h ≡ true) same (same_flow-refl f) in rw here refl
last_since f m (crossing.Out n ∷ since) ys same none =
    let off : (same_flow f n.flow ≡ false) × (went_out f since ≡ false) =
    or_false (same_flow f n.flow) _ none in
    rw off.0 (last_since f m since ys same off.1)
last_since f m (crossing.In n ∷ since) ys same none = last_since f m since ys same none
last_since f m (crossing.Answer kind g ∷ since) ys same none = last_since f m since ys same none
last_since f m (crossing.Down h ∷ since) ys same none = last_since f m since ys same none
last_since f m (crossing.Up h ∷ since) ys same none = last_since f m since ys same none

pub none_out : (f : Flow) (xs ys : List Crossing) → went_out f xs ≡ false → went_out f ys ≡ false
    → went_out f (xs ++ ys) ≡ false
none_out f [] ys a b = b
none_out f (crossing.Out n ∷ xs) ys a b =
    let off : (same_flow f n.flow ≡ false) × (went_out f xs ≡ false) =
    or_false (same_flow f n.flow) _ a in
    rw off.0 (none_out f xs ys off.1 b)
none_out f (crossing.In n ∷ xs) ys a b = none_out f xs ys a b
none_out f (crossing.Answer kind g ∷ xs) ys a b = none_out f xs ys a b
none_out f (crossing.Down h ∷ xs) ys a b = none_out f xs ys a b
none_out f (crossing.Up h ∷ xs) ys a b = none_out f xs ys a b

-- what comes in at a place is the message that went out last before
pub record WentAt (m : HostMessage) (place : ℕ) (log : List Crossing) : Type 0 where
  pub message : HostMessage
  pub crossed : CrossedAt place (crossing.Out message) log
  pub text : message.text ≡ m.text

pub went_at : (hosts : List Host) (log : List Crossing) → IsRun hosts log → (taken place : ℕ) (m : HostMessage)
    → CrossedAt taken (crossing.In m) log → last_out m.flow (before taken log) ≡ Some place → WentAt m place log
went_at hosts [] run taken place m i last = absurd i
went_at hosts (c ∷ log) run taken place m (inl i) last =
    let needs : WaitsWith (box_of m.flow log) m.text =
    (subst (λ (d : Crossing). IsRun hosts (d ∷ log)) (sym i.0) run).0.1 in
    let box : (at : ℕ) × (box_of m.flow log ≡ Waiting at m.text) = waits_with (box_of m.flow log) m.text needs in
    let w : Waits m.flow m.text log = waiting m.flow log box.0 m.text box.1 in
    let here : before taken (c ∷ log) ≡ log = ap (λ (n : ℕ). before n (c ∷ log)) i.1 ∙ before_end (c ∷ []) log in
    let is : length w.out.before ≡ place =
    same_Some (length w.out.before) place
    (sym (last_since m.flow w.out.message w.out.since w.out.before (sym w.out.flow) w.out.last)
    ∙ ap (last_out m.flow) (sym w.out.parts) ∙ ap (last_out m.flow) (sym here) ∙ last) in
    record {
      message = w.out.message;
      crossed = inr (subst (λ (xs : List Crossing). CrossedAt place (crossing.Out w.out.message) xs) (sym w.out.parts)
          (subst (λ (n : ℕ). CrossedAt n (crossing.Out w.out.message)
          (w.out.since ++ crossing.Out w.out.message ∷ w.out.before)) is
          (crossed_end w.out.since w.out.before (crossing.Out w.out.message))));
      text = w.text_is;
    }
went_at hosts (c ∷ log) run taken place m (inr i) last =
    let less : taken < length log = crossed_below taken (crossing.In m) log i in
    let w : WentAt m place log = went_at hosts log run.1 taken place m i
    (ap (last_out m.flow) (sym (before_still taken c log (omega (arith, less)))) ∙ last) in
    record { message = w.message; crossed = inr w.crossed; text = w.text }
