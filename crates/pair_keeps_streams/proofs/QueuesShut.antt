-- The CLS of all ends that close at once are what the moves say.
use Rattle.pair_keeps_streams.proofs.Common.{◌≡◌, ℕ, suc, ◌==◌, ◌&&◌, Bool, true, false, if◌then◌else◌, List, [], ◌∷◌, ◌++◌, map, filter, Option, Some, None, is_some, refl, ap, sym, subst, ◌∙◌, eq-eqb, Command, Word, Cls, Receiver, Sender, changed_first, cls_of, entry_at, has_cls, is_at, is_due, is_link, is_receiving, must_close, receives_on, Entry, both, closes, named, numbers, AreApart, name_of, numbers_mapped, shut_one, stays, plain, counted, has_said, said_of, sent_words, closings_in, with_closing, receiver_word, receiver_words, sender_words}
use Rattle.stream_law.specs.Senders as senders
use Rattle.host_pairs.specs.Entries.{closed_when, is_drained}
use Rattle.host_keeps_streams.proofs.lemmas.{due_open}
use Rattle.pair_keeps_streams.proofs.Joint.{AreLinked}
use Rattle.pair_keeps_streams.proofs.Queues.{AreSeparate, IsAlike, Told, closing_elsewhere, is_said, many_closings, none_at, passes_at, said_after, separate, swept_said}

-- ---- as many CLS as these ends have said

abbrev pub Counts : (ℕ → ℕ → ℕ) → (ℕ → ℕ → ℕ) → List Entry → Type 0
Counts gone n es = (x y : ℕ) (e : Entry) → entry_at x y es ≡ Some e → n x y ≡ counted (has_cls e.closing) (gone x y)

none_some : (o : Option Entry) (e : Entry) → o ≡ None → o ≡ Some e → ⊥
none_some o e n s = let l : None ≡ Some e = sym n ∙ s in absurd (cc)

counts_rest : (gone n : ℕ → ℕ → ℕ) (z : Entry) (zs : List Entry) → entry_at z.own z.foreign zs ≡ None → Counts gone n (z ∷ zs) → Counts gone n zs
counts_rest gone n z zs none k x y e f = by (is_at x y z) refl where
  by : (b : Bool) → is_at x y z ≡ b → n x y ≡ counted (has_cls e.closing) (gone x y)
  by true a = absurd (none_some _ e (none_at x y z zs a none) f)
  by false a = k x y e (rw a f)

counts_closed : (gone n : ℕ → ℕ → ℕ) (z : Entry) (zs : List Entry) → entry_at z.own z.foreign zs ≡ None → Counts gone n (z ∷ zs) → Counts gone (with_closing (cls_of z) n) zs
counts_closed gone n z zs none k x y e f = by (is_at x y z) refl where
  by : (b : Bool) → is_at x y z ≡ b → with_closing (cls_of z) n x y ≡ counted (has_cls e.closing) (gone x y)
  by true a = absurd (none_some _ e (none_at x y z zs a none) f)
  by false a = closing_elsewhere z n x y a ∙ k x y e (rw a f)

own_at : (z : Entry) → is_at z.own z.foreign z ≡ true
own_at z = let a : (z.own == z.own) ≡ true = eq-eqb z.own z.own refl in let b : (z.foreign == z.foreign) ≡ true = eq-eqb z.foreign z.foreign refl in rw (a, b) refl

counts_first : (gone n : ℕ → ℕ → ℕ) (z : Entry) (zs : List Entry) → Counts gone n (z ∷ zs) → has_cls z.closing ≡ false → n z.own z.foreign ≡ gone z.own z.foreign
counts_first gone n z zs k unsaid =
    let a : is_at z.own z.foreign z ≡ true = own_at z in
    let found : entry_at z.own z.foreign (z ∷ zs) ≡ Some z = (rw a refl) in
    k z.own z.foreign z found ∙ ap (λ (v : Bool). counted v (gone z.own z.foreign)) unsaid

-- an end that has to close hasn't said its CLS
must_unsaid : (busy : List ℕ) (e : Entry) → must_close busy e ≡ true → has_cls e.closing ≡ false
must_unsaid busy e m = due_open _ (both (is_due e.closing) (is_drained busy e) m).0

and_same : (a b c : Bool) → (a ≡ true → b ≡ c) → (a && b) ≡ (a && c)
and_same true b c same = same refl
and_same false b c same = refl

-- ---- the words

module _ (number : ℕ → ℕ → ℕ → ℕ) (link : ℕ) (gone : ℕ → ℕ → ℕ) (busy : List ℕ) where
  abbrev pub closed_words : List Entry → List Word
  closed_words es = map (λ (e : Entry). Cls (named (name_of number gone) e)) es

  module _ (r : Receiver) where
    -- the CLS of an end that receives is a word if it was asked for on the link
    word_is : (n : ℕ → ℕ → ℕ) (z : Entry) → n z.own z.foreign ≡ gone z.own z.foreign → (is_receiving z ≡ true → r.asked (named (name_of number gone) z) ≡ is_link link z.link)
        → receiver_word number link r.asked n (cls_of z) ≡ (if receives_on link z then Cls (named (name_of number gone) z) ∷ [] else [])
    word_is n z same linked =
        ap (λ (k : ℕ). if is_receiving z && r.asked (number z.own z.foreign k) then Cls (number z.own z.foreign k) ∷ [] else []) same
        ∙ ap (λ (v : Bool). if v then Cls (named (name_of number gone) z) ∷ [] else []) (and_same _ _ _ linked)

    received_step : (z : Entry) (zs : List Entry) (n : ℕ → ℕ → ℕ)
        → (must_close busy z ≡ true → receiver_word number link r.asked n (cls_of z) ≡ (if receives_on link z then Cls (named (name_of number gone) z) ∷ [] else []))
        → receiver_words number link r.asked (with_closing (cls_of z) n) (map cls_of (filter (must_close busy) zs)) ≡ closed_words (filter (must_close busy) (filter (receives_on link) zs))
        → receiver_words number link r.asked n (map cls_of (filter (must_close busy) zs)) ≡ closed_words (filter (must_close busy) (filter (receives_on link) zs))
        → (b c : Bool) → must_close busy z ≡ b → receives_on link z ≡ c
        → receiver_words number link r.asked n (map cls_of (filter (must_close busy) (z ∷ zs))) ≡ closed_words (filter (must_close busy) (filter (receives_on link) (z ∷ zs)))
    received_step z zs n word closed left true true m o =
        let one : receiver_word number link r.asked n (cls_of z) ≡ Cls (named (name_of number gone) z) ∷ [] = word m ∙ ap (λ (v : Bool). if v then Cls (named (name_of number gone) z) ∷ [] else []) o in
        rw (m, o, m) (ap (λ (w : List Word). w ++ receiver_words number link r.asked (with_closing (cls_of z) n) (map cls_of (filter (must_close busy) zs))) one ∙ ap (λ (w : List Word). Cls (named (name_of number gone) z) ∷ w) closed)
    received_step z zs n word closed left true false m o =
        let one : receiver_word number link r.asked n (cls_of z) ≡ [] = word m ∙ ap (λ (v : Bool). if v then Cls (named (name_of number gone) z) ∷ [] else []) o in
        rw (m, o) (ap (λ (w : List Word). w ++ receiver_words number link r.asked (with_closing (cls_of z) n) (map cls_of (filter (must_close busy) zs))) one ∙ closed)
    received_step z zs n word closed left false true m o = rw (m, o, m) left
    received_step z zs n word closed left false false m o = rw (m, o) left

    received_closings : (es : List Entry) → AreSeparate es → AreLinked (name_of number gone) link es r → (n : ℕ → ℕ → ℕ) → Counts gone n es
        → receiver_words number link r.asked n (map cls_of (filter (must_close busy) es)) ≡ closed_words (filter (must_close busy) (filter (receives_on link) es))
    received_closings [] a l n k = refl
    received_closings (z ∷ zs) a l n k =
        received_step z zs n (λ m. word_is n z (counts_first gone n z zs k (must_unsaid busy z m)) l.0)
        (received_closings zs a.1 l.1 (with_closing (cls_of z) n) (counts_closed gone n z zs a.0 k)) (received_closings zs a.1 l.1 n (counts_rest gone n z zs a.0 k))
        _ _ refl refl

  sent_step : (z : Entry) (zs : List Entry) (n : ℕ → ℕ → ℕ) (s : Sender) → (must_close busy z ≡ true → n z.own z.foreign ≡ gone z.own z.foreign)
      → ((t : Sender) → map plain (sent_words (closes (name_of number gone) busy zs) t) ≡ sender_words number link (with_closing (cls_of z) n) (map cls_of (filter (must_close busy) zs)))
      → ((t : Sender) → map plain (sent_words (closes (name_of number gone) busy zs) t) ≡ sender_words number link n (map cls_of (filter (must_close busy) zs)))
      → (b c : Bool) → must_close busy z ≡ b → is_receiving z ≡ c
      → map plain (sent_words (closes (name_of number gone) busy (z ∷ zs)) s) ≡ sender_words number link n (map cls_of (filter (must_close busy) (z ∷ zs)))
  sent_step z zs n s same closed left true true m i = rw (m, i) (closed s)
  sent_step z zs n s same closed left true false m i =
      let one : n z.own z.foreign ≡ gone z.own z.foreign = same m in
      rw (m, i) (ap (λ (w : List Word). Cls (named (name_of number gone) z) ∷ w) (closed (senders.moved (senders.Close (named (name_of number gone) z)) s))
      ∙ ap (λ (k : ℕ). Cls (number z.own z.foreign k) ∷ sender_words number link (with_closing (cls_of z) n) (map cls_of (filter (must_close busy) zs))) (sym one))
  sent_step z zs n s same closed left false c m i = rw m (left s)

  sent_closings : (es : List Entry) → AreSeparate es → (n : ℕ → ℕ → ℕ) → Counts gone n es → (s : Sender)
      → map plain (sent_words (closes (name_of number gone) busy es) s) ≡ sender_words number link n (map cls_of (filter (must_close busy) es))
  sent_closings [] a n k s = refl
  sent_closings (z ∷ zs) a n k s =
      sent_step z zs n s (λ m. counts_first gone n z zs k (must_unsaid busy z m)) (λ t. sent_closings zs a.1 (with_closing (cls_of z) n) (counts_closed gone n z zs a.0 k) t)
      (λ t. sent_closings zs a.1 n (counts_rest gone n z zs a.0 k) t) _ _ refl refl

-- ---- the counts

abbrev shut_option : List ℕ → Option Entry → Option Entry
shut_option busy None = None
shut_option busy (Some e) = Some (shut_one busy e)

shut_step : (busy : List ℕ) (x y : ℕ) (z : Entry) (zs : List Entry) → entry_at x y (map (shut_one busy) zs) ≡ shut_option busy (entry_at x y zs) → (b : Bool) → is_at x y z ≡ b
    → entry_at x y (map (shut_one busy) (z ∷ zs)) ≡ shut_option busy (entry_at x y (z ∷ zs))
shut_step busy x y z zs rest true a = rw a refl
shut_step busy x y z zs rest false a = rw a rest

shut_found : (busy : List ℕ) (es : List Entry) (x y : ℕ) → entry_at x y (map (shut_one busy) es) ≡ shut_option busy (entry_at x y es)
shut_found busy [] x y = refl
shut_found busy (z ∷ zs) x y = shut_step busy x y z zs (shut_found busy zs x y) _ refl

said_there : (o p : Option Entry) → is_some p ≡ is_some o → is_said o p ≡ has_said p
said_there None p same = refl
said_there (Some e) None same = absurd (let l : false ≡ true = same in cc)
said_there (Some e) (Some f) same = refl

shut_some : (busy : List ℕ) (o : Option Entry) → is_some (shut_option busy o) ≡ is_some o
shut_some busy None = refl
shut_some busy (Some e) = refl

one_shut : (busy : List ℕ) (said : Bool) (f : Entry) (g : ℕ) → has_cls f.closing ≡ said → (b : Bool) → must_close busy f ≡ b → counted (has_cls (closed_when b f).closing) g ≡ counted b (counted said g)
one_shut busy said f g same true m = ap (λ (v : Bool). suc (counted v g)) (sym (must_unsaid busy f m) ∙ same)
one_shut busy said f g same false m = ap (λ (v : Bool). counted v g) same

shut_value : (busy : List ℕ) (o p : Option Entry) (g : ℕ) → IsAlike o p → counted (has_said (shut_option busy p)) g ≡ counted (passes_at (must_close busy) p) (counted (has_said o) g)
shut_value busy None None g a = refl
shut_value busy (Some e) None g a = absurd (let l : false ≡ true = a.0 in cc)
shut_value busy o (Some f) g a = one_shut busy _ f g a.1 _ refl

-- ---- ends that change and then close

module _ (number : ℕ → ℕ → ℕ → ℕ) (link : ℕ) (gone : ℕ → ℕ → ℕ) (busy : List ℕ) (before middle : List Entry) (queue : List Command) (r : Receiver) (s : Sender)
    (alike : (x y : ℕ) → IsAlike (entry_at x y before) (entry_at x y middle)) (apart : AreApart (numbers (name_of number gone) middle)) (linked : AreLinked (name_of number gone) link middle r) where
  start : Counts gone (said_of gone before) middle
  start x y e f = ap (λ (v : Bool). counted v (gone x y)) (sym (alike x y).1 ∙ ap has_said f)

  apart_shut : AreSeparate (map (shut_one busy) middle)
  apart_shut = separate _ _ (subst AreApart (sym (numbers_mapped (name_of number gone) _ middle (λ x. refl))) apart)

  there_shut : (x y : ℕ) → is_some (entry_at x y (map (shut_one busy) middle)) ≡ is_some (entry_at x y before)
  there_shut x y = ap is_some (shut_found busy middle x y) ∙ shut_some busy _ ∙ (alike x y).0

  counts_shut : (x y : ℕ) → counted (has_said (entry_at x y (map (shut_one busy) middle))) (gone x y) ≡ closings_in (map cls_of (filter (must_close busy) middle)) (said_of gone before) x y
  counts_shut x y =
      ap (λ (o : Option Entry). counted (has_said o) (gone x y)) (shut_found busy middle x y) ∙ shut_value busy _ _ _ (alike x y)
      ∙ sym (many_closings _ middle (separate _ middle apart) _ x y)

  module _ (rs : List Word) (heard : map plain rs ≡ closed_words number link gone busy (filter (must_close busy) (filter (receives_on link) middle))) where
    told_by : (after : List Entry) → ((x y : ℕ) → is_said (entry_at x y before) (entry_at x y after) ≡ has_said (entry_at x y (map (shut_one busy) middle)))
        → Told number link gone before queue after (queue ++ map cls_of (filter (must_close busy) middle)) r.asked rs (sent_words (closes (name_of number gone) busy middle) s)
    told_by after same = record {
      new = map cls_of (filter (must_close busy) middle);
      adds = refl;
      counts = λ x y. said_after gone before after x y ∙ ap (λ (v : Bool). counted v (gone x y)) (same x y) ∙ counts_shut x y;
      received = heard ∙ sym (received_closings number link gone busy r middle (separate _ middle apart) linked _ start);
      sent = sent_closings number link gone busy middle (separate _ middle apart) _ start s;
    }

    -- the ends stay, or those of which both CLS have passed go
    pub settled_told : Told number link gone before queue (map (shut_one busy) middle) (queue ++ map cls_of (filter (must_close busy) middle)) r.asked rs (sent_words (closes (name_of number gone) busy middle) s)
    settled_told = told_by _ (λ x y. said_there (entry_at x y before) (entry_at x y (map (shut_one busy) middle)) (there_shut x y))

    pub swept_told : Told number link gone before queue (filter stays (map (shut_one busy) middle)) (queue ++ map cls_of (filter (must_close busy) middle)) r.asked rs (sent_words (closes (name_of number gone) busy middle) s)
    swept_told = told_by _ (λ x y. swept_said before (map (shut_one busy) middle) apart_shut x y (there_shut x y))

-- ---- links

-- ends that change, but not by their sockets or their link
pub record Lasts (change : Entry → Entry) : Type 0 where
  pub own : (e : Entry) → (change e).own ≡ e.own
  pub foreign : (e : Entry) → (change e).foreign ≡ e.foreign
  pub link : (e : Entry) → (change e).link ≡ e.link

module _ (name : ℕ → ℕ → ℕ) (link : ℕ) (r : Receiver) (change : Entry → Entry) (lasts : Lasts change) where
  abbrev IsLinked : Entry → Type 0
  IsLinked e = is_receiving e ≡ true → r.asked (named name e) ≡ is_link link e.link

  one_linked : (e : Entry) → IsLinked e → IsLinked (change e)
  one_linked e l i =
      ap (λ (n : ℕ). r.asked (name n (change e).foreign)) (lasts.own e) ∙ ap (λ (n : ℕ). r.asked (name e.own n)) (lasts.foreign e)
      ∙ l (ap is_receive (sym (lasts.own e)) ∙ i) ∙ ap (is_link link) (sym (lasts.link e)) where
        is_receive : ℕ → Bool
        is_receive n = is_receiving (record e { own = n })

  linked_step : (test : Entry → Bool) (z : Entry) (zs : List Entry) → AreLinked name link (changed_first test change zs) r → AreLinked name link (z ∷ zs) r → (b : Bool) → test z ≡ b → AreLinked name link (changed_first test change (z ∷ zs)) r
  linked_step test z zs rest l true t = rw t (one_linked z l.0, l.1)
  linked_step test z zs rest l false t = rw t (l.0, rest)

  pub linked_changed : (test : Entry → Bool) (es : List Entry) → AreLinked name link es r → AreLinked name link (changed_first test change es) r
  linked_changed test [] l = tt
  linked_changed test (z ∷ zs) l = linked_step test z zs (linked_changed test zs l.1) l _ refl
