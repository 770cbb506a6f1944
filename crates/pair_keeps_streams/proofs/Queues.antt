-- How many CLS were said of two sockets, where ends change, come and go.
use Rattle.pair_keeps_streams.proofs.Common.{◌≡◌, ℕ, suc, ◌==◌, ◌&&◌, not, Bool, if◌then◌else◌, List, [], ◌∷◌, ◌++◌, map, filter, find, Option, Some, None, is_some, refl, ap, sym, subst, ◌∙◌, eq-eqb, append-nil, eqb-true, ne_eqb, Command, Word, changed_first, cls_of, entry_at, has_cls, is_at, Closing, Entry, both, gone_by, named, numbers, is_among, AreApart, own_name, stays, unlike, plain, counted, has_said, said_of, closings_in, with_closing, receiver_word, receiver_words, sender_word, sender_words}
use Rattle.std.proofs.Common.{true, false}
use Rattle.host_pairs.specs.declared.entry.Closing.TheVariants as closing
use Rattle.host_keeps_streams.proofs.lemmas.{found_among}

-- ---- before and after

-- whether a CLS was said of an end that was there, or is
abbrev pub is_said : Option Entry → Option Entry → Bool
is_said None after = has_said after
is_said (Some e) None = true
is_said (Some e) (Some f) = has_cls f.closing

value : (o p : Option Entry) (g : ℕ) → counted (has_said p) (if is_some o && not (is_some p) then suc g else g) ≡ counted (is_said o p) g
value None None g = refl
value None (Some f) g = refl
value (Some e) None g = refl
value (Some e) (Some f) g = refl

pub said_after : (gone : ℕ → ℕ → ℕ) (es after : List Entry) (x y : ℕ) → said_of (gone_by es after gone) after x y ≡ counted (is_said (entry_at x y es) (entry_at x y after)) (gone x y)
said_after gone es after x y = value (entry_at x y es) (entry_at x y after) (gone x y)

-- nothing was said meanwhile
abbrev pub IsKept : List Entry → List Entry → Type 0
IsKept es after = (x y : ℕ) → is_said (entry_at x y es) (entry_at x y after) ≡ has_said (entry_at x y es)

kept_counts : (gone : ℕ → ℕ → ℕ) (es after : List Entry) → IsKept es after → (x y : ℕ) → said_of (gone_by es after gone) after x y ≡ said_of gone es x y
kept_counts gone es after k x y = said_after gone es after x y ∙ ap (λ (v : Bool). counted v (gone x y)) (k x y)

-- ---- what a call queues, and what its moves say

-- of ends and a queue before, and of both afterwards
pub record Told (number : ℕ → ℕ → ℕ → ℕ) (link : ℕ) (gone : ℕ → ℕ → ℕ) (before : List Entry) (queue : List Command) (after : List Entry) (later : List Command) (asked : ℕ → Bool) (receiver_said sender_said : List Word) : Type 0 where
  pub new : List Command
  pub adds : later ≡ queue ++ new
  pub counts : (x y : ℕ) → said_of (gone_by before after gone) after x y ≡ closings_in new (said_of gone before) x y
  pub received : map plain receiver_said ≡ receiver_words number link asked (said_of gone before) new
  pub sent : map plain sender_said ≡ sender_words number link (said_of gone before) new

module _ (number : ℕ → ℕ → ℕ → ℕ) (link : ℕ) (gone : ℕ → ℕ → ℕ) (before : List Entry) (queue : List Command) (after : List Entry) (asked : ℕ → Bool) where
  -- nothing
  pub silent : IsKept before after → (rs ss : List Word) → rs ≡ [] → ss ≡ [] → Told number link gone before queue after queue asked rs ss
  silent k rs ss r s = record {
    new = [];
    adds = sym (append-nil queue);
    counts = kept_counts gone before after k;
    received = ap (map plain) r;
    sent = ap (map plain) s;
  }

  -- one command that is no CLS
  pub one_told : IsKept before after → (c : Command) → ((n : ℕ → ℕ → ℕ) (x y : ℕ) → with_closing c n x y ≡ n x y) → (rs ss : List Word)
      → map plain rs ≡ receiver_word number link asked (said_of gone before) c → map plain ss ≡ sender_word number link (said_of gone before) c → Told number link gone before queue after (queue ++ c ∷ []) asked rs ss
  one_told k c still rs ss r s = record {
    new = c ∷ [];
    adds = refl;
    counts = λ x y. kept_counts gone before after k x y ∙ sym (still _ x y);
    received = r ∙ sym (append-nil (receiver_word number link asked (said_of gone before) c));
    sent = s ∙ sym (append-nil (sender_word number link (said_of gone before) c));
  }

-- ---- ends that change

kept_option : (o : Option Entry) → is_said o o ≡ has_said o
kept_option None = refl
kept_option (Some e) = refl

pub kept_same : (es : List Entry) → IsKept es es
kept_same es x y = kept_option _

-- both are there or none, and of both a CLS was said or of none
abbrev pub IsAlike : Option Entry → Option Entry → Type 0
IsAlike o p = (is_some p ≡ is_some o) × (has_said p ≡ has_said o)

alike_kept : (o p : Option Entry) → IsAlike o p → is_said o p ≡ has_said o
alike_kept None p a = a.1
alike_kept (Some e) None a = absurd (let l : false ≡ true = a.0 in cc)
alike_kept (Some e) (Some f) a = a.1

-- an end keeps its sockets
pub record Stays (change : Entry → Entry) : Type 0 where
  pub own : (e : Entry) → (change e).own ≡ e.own
  pub foreign : (e : Entry) → (change e).foreign ≡ e.foreign

pub at_changed : (change : Entry → Entry) → Stays change → (x y : ℕ) (e : Entry) → is_at x y (change e) ≡ is_at x y e
at_changed change s x y e = ap (λ (n : ℕ). n == x && (change e).foreign == y) (s.own e) ∙ ap (λ (n : ℕ). e.own == x && n == y) (s.foreign e)

changed_step : (test : Entry → Bool) (change : Entry → Entry) → Stays change → (x y : ℕ) (z : Entry) (zs : List Entry) → (test z ≡ true → has_cls (change z).closing ≡ has_cls z.closing)
    → (test z ≡ false → IsAlike (entry_at x y zs) (entry_at x y (changed_first test change zs)))
    → (b c : Bool) → test z ≡ b → is_at x y z ≡ c → IsAlike (entry_at x y (z ∷ zs)) (entry_at x y (changed_first test change (z ∷ zs)))
changed_step test change s x y z zs said rest true true t a = let after : is_at x y (change z) ≡ true = at_changed change s x y z ∙ a in rw (t, a, after) (refl, said t)
changed_step test change s x y z zs said rest true false t a = let after : is_at x y (change z) ≡ false = at_changed change s x y z ∙ a in rw (t, a, after) (refl, refl)
changed_step test change s x y z zs said rest false true t a = rw (t, a) (refl, refl)
changed_step test change s x y z zs said rest false false t a = rw (t, a) (rest t)

first_found : (test : Entry → Bool) (z : Entry) (zs : List Entry) → test z ≡ true → find test (z ∷ zs) ≡ Some z
first_found test z zs t = rw t refl

later_found : (test : Entry → Bool) (z e : Entry) (zs : List Entry) → test z ≡ false → find test zs ≡ Some e → find test (z ∷ zs) ≡ Some e
later_found test z e zs t f = rw t f

-- the end that is found is changed, and stays as far as it has said its CLS
pub changed_alike : (test : Entry → Bool) (change : Entry → Entry) → Stays change → (es : List Entry) → ((e : Entry) → find test es ≡ Some e → has_cls (change e).closing ≡ has_cls e.closing) → (x y : ℕ)
    → IsAlike (entry_at x y es) (entry_at x y (changed_first test change es))
changed_alike test change s [] said x y = (refl, refl)
changed_alike test change s (z ∷ zs) said x y =
    changed_step test change s x y z zs (λ t. said z (first_found test z zs t)) (λ t. changed_alike test change s zs (λ e f. said e (later_found test z e zs t f)) x y) _ _ refl refl

pub changed_kept : (test : Entry → Bool) (change : Entry → Entry) → Stays change → (es : List Entry) → ((e : Entry) → find test es ≡ Some e → has_cls (change e).closing ≡ has_cls e.closing) → IsKept es (changed_first test change es)
changed_kept test change s es said x y = alike_kept _ _ (changed_alike test change s es said x y)

-- ---- a new end

append_step : (e z : Entry) (x y : ℕ) (zs : List Entry) → has_cls e.closing ≡ false → is_said (entry_at x y zs) (entry_at x y (zs ++ e ∷ [])) ≡ has_said (entry_at x y zs)
    → (b : Bool) → is_at x y z ≡ b → is_said (entry_at x y (z ∷ zs)) (entry_at x y (z ∷ zs ++ e ∷ [])) ≡ has_said (entry_at x y (z ∷ zs))
append_step e z x y zs unsaid rest true a = rw a refl
append_step e z x y zs unsaid rest false a = rw a rest

alone_kept : (e : Entry) (x y : ℕ) → has_cls e.closing ≡ false → (b : Bool) → is_at x y e ≡ b → has_said (entry_at x y (e ∷ [])) ≡ false
alone_kept e x y unsaid true a = rw a unsaid
alone_kept e x y unsaid false a = rw a refl

-- one that said no CLS
pub append_kept : (es : List Entry) (e : Entry) → has_cls e.closing ≡ false → IsKept es (es ++ e ∷ [])
append_kept [] e unsaid x y = alone_kept e x y unsaid _ refl
append_kept (z ∷ zs) e unsaid x y = append_step e z x y zs unsaid (append_kept zs e unsaid x y) _ refl

-- ---- sockets

same_number : (m n : ℕ) (b : Bool) → (m == n) ≡ b → (n == m) ≡ b
same_number m n true e = eq-eqb n m (sym (eqb-true m n e))
same_number m n false e = ne_eqb n m (λ same. absurd (unlike (m == n) (eq-eqb m n (sym same)) e))

pub turned_number : (m n : ℕ) → (m == n) ≡ (n == m)
turned_number m n = sym (same_number m n (m == n) refl)

turned_at : (x y a b : ℕ) → (x == a && y == b) ≡ (a == x && b == y)
turned_at x y a b = ap (λ (v : Bool). v && y == b) (turned_number x a) ∙ ap (λ (v : Bool). a == x && v) (turned_number y b)

-- no two have the same sockets
abbrev pub AreSeparate : List Entry → Type 0
AreSeparate [] = Unit {0}
AreSeparate (z ∷ zs) = (entry_at z.own z.foreign zs ≡ None) × AreSeparate zs

pub separate : (name : ℕ → ℕ → ℕ) (es : List Entry) → AreApart (numbers name es) → AreSeparate es
separate name [] a = tt
separate name (z ∷ zs) a = (by (entry_at z.own z.foreign zs) refl, separate name zs a.1) where
  by : (o : Option Entry) → entry_at z.own z.foreign zs ≡ o → entry_at z.own z.foreign zs ≡ None
  by None f = f
  by (Some e) f =
      let there : is_among (named name e) (numbers name zs) ≡ true = found_among name _ e zs f in
      let same : named name e ≡ named name z = own_name name 0 z.own _ e zs f in
      absurd (unlike (is_among (named name z) (numbers name zs)) (subst (λ (n : ℕ). is_among n (numbers name zs) ≡ true) same there) a.0)

pub none_at : (x y : ℕ) (z : Entry) (zs : List Entry) → is_at x y z ≡ true → entry_at z.own z.foreign zs ≡ None → entry_at x y zs ≡ None
none_at x y z zs a none =
    let t : ((z.own == x) ≡ true) × ((z.foreign == y) ≡ true) = both (z.own == x) (z.foreign == y) a in
    subst (λ (n : ℕ). entry_at n y zs ≡ None) (eqb-true z.own x t.0) (subst (λ (n : ℕ). entry_at z.own n zs ≡ None) (eqb-true z.foreign y t.1) none)

-- ---- ends that go

abbrev pub kept_if : Option Entry → Option Entry
kept_if None = None
kept_if (Some e) = if stays e then Some e else None

sweep_step : (x y : ℕ) (z : Entry) (zs : List Entry) → (is_at x y z ≡ true → entry_at x y zs ≡ None) → entry_at x y (filter stays zs) ≡ kept_if (entry_at x y zs)
    → (b c : Bool) → stays z ≡ b → is_at x y z ≡ c → entry_at x y (filter stays (z ∷ zs)) ≡ kept_if (entry_at x y (z ∷ zs))
sweep_step x y z zs none rest true true s a = rw (s, a, s) refl
sweep_step x y z zs none rest true false s a = rw (s, a) rest
sweep_step x y z zs none rest false true s a = rw (s, a, s) (rest ∙ ap kept_if (none a))
sweep_step x y z zs none rest false false s a = rw (s, a) rest

pub sweep_found : (es : List Entry) → AreSeparate es → (x y : ℕ) → entry_at x y (filter stays es) ≡ kept_if (entry_at x y es)
sweep_found [] a x y = refl
sweep_found (z ∷ zs) a x y = sweep_step x y z zs (λ t. none_at x y z zs t a.0) (sweep_found zs a.1 x y) _ _ refl refl

over_said : (e : Entry) → stays e ≡ false → has_cls e.closing ≡ true
over_said e s = of _ refl where
  of : (v : Closing) → e.closing ≡ v → has_cls v ≡ true
  of closing.No same = absurd (let r : true ≡ false = rw same at s in cc)
  of closing.Due same = absurd (let r : true ≡ false = rw same at s in cc)
  of closing.Queued same = refl
  of closing.Sent same = refl

sweep_said : (o : Option Entry) (e : Entry) → is_some o ≡ true → (b : Bool) → stays e ≡ b → is_said o (if b then Some e else None) ≡ has_cls e.closing
sweep_said None e there b s = absurd (let l : false ≡ true = there in cc)
sweep_said (Some f) e there true s = refl
sweep_said (Some f) e there false s = sym (over_said e s)

sweep_option : (o p : Option Entry) → is_some p ≡ is_some o → is_said o (kept_if p) ≡ has_said p
sweep_option None None same = refl
sweep_option (Some e) None same = absurd (let l : false ≡ true = same in cc)
sweep_option o (Some e) same = sweep_said o e (sym same) _ refl

-- those of which both CLS have passed go: theirs was said
pub swept_said : (es after : List Entry) → AreSeparate after → (x y : ℕ) → is_some (entry_at x y after) ≡ is_some (entry_at x y es) → is_said (entry_at x y es) (entry_at x y (filter stays after)) ≡ has_said (entry_at x y after)
swept_said es after a x y same = ap (λ (o : Option Entry). is_said (entry_at x y es) o) (sweep_found after a x y) ∙ sweep_option _ _ same

-- ---- many CLS

abbrev pub passes_at : (Entry → Bool) → Option Entry → Bool
passes_at test None = false
passes_at test (Some e) = test e

pub closing_there : (z : Entry) (n : ℕ → ℕ → ℕ) (x y : ℕ) → is_at x y z ≡ true → with_closing (cls_of z) n x y ≡ suc (n x y)
closing_there z n x y a = let t : (x == z.own && y == z.foreign) ≡ true = turned_at x y z.own _ ∙ a in rw t refl

pub closing_elsewhere : (z : Entry) (n : ℕ → ℕ → ℕ) (x y : ℕ) → is_at x y z ≡ false → with_closing (cls_of z) n x y ≡ n x y
closing_elsewhere z n x y a = let t : (x == z.own && y == z.foreign) ≡ false = turned_at x y z.own _ ∙ a in rw t refl

closings_step : (test : Entry → Bool) (z : Entry) (zs : List Entry) → (x y : ℕ) → (is_at x y z ≡ true → entry_at x y zs ≡ None)
    → ((n : ℕ → ℕ → ℕ) → closings_in (map cls_of (filter test zs)) n x y ≡ counted (passes_at test (entry_at x y zs)) (n x y)) → (n : ℕ → ℕ → ℕ)
    → (b c : Bool) → test z ≡ b → is_at x y z ≡ c → closings_in (map cls_of (filter test (z ∷ zs))) n x y ≡ counted (passes_at test (entry_at x y (z ∷ zs))) (n x y)
closings_step test z zs x y none rest n true true t a =
    rw (t, a, t) (rest (with_closing (cls_of z) n) ∙ ap (λ (o : Option Entry). counted (passes_at test o) (with_closing (cls_of z) n x y)) (none a) ∙ closing_there z n x y a)
closings_step test z zs x y none rest n true false t a =
    rw (t, a) (rest (with_closing (cls_of z) n) ∙ ap (λ (k : ℕ). counted (passes_at test (entry_at x y zs)) k) (closing_elsewhere z n x y a))
closings_step test z zs x y none rest n false true t a = rw (t, a, t) (rest n ∙ ap (λ (o : Option Entry). counted (passes_at test o) (n x y)) (none a))
closings_step test z zs x y none rest n false false t a = rw (t, a) (rest n)

-- one of each end that passes
pub many_closings : (test : Entry → Bool) (es : List Entry) → AreSeparate es → (n : ℕ → ℕ → ℕ) (x y : ℕ) → closings_in (map cls_of (filter test es)) n x y ≡ counted (passes_at test (entry_at x y es)) (n x y)
many_closings test [] a n x y = refl
many_closings test (z ∷ zs) a n x y = closings_step test z zs x y (λ t. none_at x y z zs t a.0) (λ m. many_closings test zs a.1 m x y) n _ _ refl refl
