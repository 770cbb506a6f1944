-- The data of each flow's messages, joined: one message more, and what a life's part of them is.
use Rattle.book_judge.proofs.Common.{cases_lt, eqb-true, ltb-false, ltb-true, get_or_from_slice_get, slice_get_read, slice_get_within, flow_cmp, same_flow, Flow, Crossing, HostMessage, same_flow-true, Host, orders_of, control_flow, Piece, Joined}
use Rattle.std.proofs.Common.{◌≡◌, ◌⊎◌, inl, inr, ℕ, zero, suc, ◌+◌, ◌-◌, ◌<◌, ◌≤◌, ◌==◌, ◌&&◌, not, Bool, true, false, if◌then◌else◌, List, [], ◌∷◌, ◌++◌, length, take, drop, reverse, Option, Some, None, MatchBool, refl, ap, sym, subst, ◌∙◌, append-nil, arith, get_or, min, lt-ltb, nat_lt, slice_index_or, slice_set}
use Rattle.std.specs.Prelude.{Err, Ok, Result, option_map, OnOk}
use Rattle.std.proofs.lemmas.List.{drop_all, length-append, length-take-le, take_all, take_at, take_more, get_or_default, take-append-le}
use Rattle.promise.specs.Formed.{data_in, first_data, named_at, named_in, named_of, text_of}
use Rattle.book_judge.specs.Inside.Joined.{AreJoined, IsFirstFrom, NumberBy, all_bits, bits_in, marked, one_unread, pair, texts_by, unread_in, HasNumber, IsPiece, IsStream, StreamOf, message_of}
use Rattle.book_judge.specs.Inside.Made.{end_of}
use Rattle.std.specs.List.{slice_get}
use Rattle.std.specs.List.Sorted.{IsPartitionPoint, IsPartitionedBy}
use Rattle.std.specs.FinMap as map
use Rattle.interface.specs.declared.crossing.Crossing.TheVariants as crossing
use Rattle.book_judge.specs.declared.joined.Stream.{Stream}
use Rattle.book_judge.proofs.Elements.{read_at}
use Rattle.book_judge.proofs.Crossed.Mailboxes.{get_set}
use Rattle.book_judge.proofs.Identities.Named.{get_cases, get_front, get_seam, named_there, same_flow_is, texts_at}
use Rattle.book_judge.proofs.Crossed.TextsBy.{AreRead, between, bits_append, data_ends, data_read, read_data, texts_after, texts_append, texts_between, texts_less, texts_past, texts_split, texts_within, unread_append, unread_two, within}

-- ---- one crossing more

if_text : (f : Flow) (m n : HostMessage) → m ≡ n
    → (if same_flow f m.flow then m.text ∷ [] else []) ≡ (if same_flow f n.flow then n.text ∷ [] else [])
if_text f m n e = ap (λ (x : HostMessage). if same_flow f x.flow then x.text ∷ [] else []) e

-- the text of a message that came in or went out
pub text_by : (comes : Bool) (c : Crossing) (m : HostMessage) (f : Flow) → message_of comes c ≡ Some m
    → text_of comes f c ≡ (if same_flow f m.flow then m.text ∷ [] else [])
text_by true (crossing.In n) m f e = if_text f n m (let same : n ≡ m = cc in same)
text_by false (crossing.Out n) m f e = if_text f n m (let same : n ≡ m = cc in same)
text_by true (crossing.Out n) m f e = absurd (let none : None ≡ Some m = e in cc)
text_by false (crossing.In n) m f e = absurd (let none : None ≡ Some m = e in cc)
text_by true (crossing.Answer kind g) m f e = absurd (let none : None ≡ Some m = e in cc)
text_by false (crossing.Answer kind g) m f e = absurd (let none : None ≡ Some m = e in cc)
text_by true (crossing.Down h) m f e = absurd (let none : None ≡ Some m = e in cc)
text_by false (crossing.Down h) m f e = absurd (let none : None ≡ Some m = e in cc)
text_by true (crossing.Up h) m f e = absurd (let none : None ≡ Some m = e in cc)
text_by false (crossing.Up h) m f e = absurd (let none : None ≡ Some m = e in cc)

pub no_text : (comes : Bool) (c : Crossing) (f : Flow) → message_of comes c ≡ None → text_of comes f c ≡ []
no_text true (crossing.In n) f e = absurd (let none : Some n ≡ None = e in cc)
no_text false (crossing.Out n) f e = absurd (let none : Some n ≡ None = e in cc)
no_text true (crossing.Out n) f e = refl
no_text false (crossing.In n) f e = refl
no_text true (crossing.Answer kind g) f e = refl
no_text false (crossing.Answer kind g) f e = refl
no_text true (crossing.Down h) f e = refl
no_text false (crossing.Down h) f e = refl
no_text true (crossing.Up h) f e = refl
no_text false (crossing.Up h) f e = refl

more_texts : (comes : Bool) (f : Flow) (log : List Crossing) (c : Crossing) (ts : List (List Bool))
    → text_of comes f c ≡ ts → texts_by comes f (log ++ c ∷ []) ≡ texts_by comes f log ++ ts
more_texts comes f log c ts e = texts_append comes f log (c ∷ []) ∙ ap (λ (us : List (List Bool)). texts_by comes f log ++ us) (append-nil (text_of comes f c) ∙ e)

-- ---- one stream

module _ (comes : Bool) (f : Flow) (log : List Crossing) (c : Crossing) (ts : List (List Bool)) (e : text_of comes f c ≡ ts) where
  more : texts_by comes f (log ++ c ∷ []) ≡ texts_by comes f log ++ ts
  more = more_texts comes f log c ts e

  -- a message stays where it is
  piece_stays : (i : ℕ) (p : Piece) → i ≤ length (texts_by comes f log) → IsPiece comes f log i p
      → IsPiece comes f (log ++ c ∷ []) i p
  piece_stays i p less k = record {
    within = (let w : p.place < length log = k.within in let n : length (log ++ c ∷ []) ≡ length log + 1 = length-append log (c ∷ []) in omega (arith, w, n));
    here = ap (λ (cs : List Crossing). length (texts_by comes f cs)) (take-append-le p.place log (c ∷ []) (let w : p.place < length log = k.within in omega (arith, w))) ∙ k.here;
    next = ap (λ (cs : List Crossing). length (texts_by comes f cs)) (take-append-le (suc p.place) log (c ∷ []) (let w : p.place < length log = k.within in omega (arith, w))) ∙ k.next;
    before = k.before ∙ ap (marked comes) (sym (ap (take i) more ∙ take-append-le i (texts_by comes f log) ts less));
  }

pub stream_stays : (comes : Bool) (f : Flow) (log : List Crossing) (c : Crossing) (s : Stream)
    → text_of comes f c ≡ [] → IsStream comes f log s → IsStream comes f (log ++ c ∷ []) s
stream_stays comes f log c s e h = record {
  counts = h.counts ∙ ap length (sym same);
  pieces = λ i p at. piece_stays comes f log c [] e i p (let n : i < length s.pieces.items = slice_get_within s.pieces.items i p at in let k : length s.pieces.items ≡ length (texts_by comes f log) = h.counts in omega (arith, n, k)) (h.pieces i p at);
  bits = h.bits ∙ ap (all_bits comes) (sym same);
  unread = h.unread ∙ ap (unread_in comes) (sym same);
} where
  same : texts_by comes f (log ++ c ∷ []) ≡ texts_by comes f log
  same = more_texts comes f log c [] e ∙ append-nil (texts_by comes f log)

pub stream_more : (comes : Bool) (f : Flow) (log : List Crossing) (c : Crossing) (text : List Bool) (was is : Stream) (place : ℕ)
    → text_of comes f c ≡ text ∷ [] → length log ≡ place
    → is.pieces.items ≡ was.pieces.items ++ record { place = place; before = length was.bits; unread = length was.unread.items } ∷ []
    → is.bits ≡ was.bits ++ bits_in (data_in comes text)
    → length is.unread.items ≡ length was.unread.items + one_unread (data_in comes text) → IsStream comes f log was
    → IsStream comes f (log ++ c ∷ []) is
stream_more comes f log c text was is place e at pieces bits unread h = record {
  counts = ap length pieces ∙ length-append was.pieces.items (new ∷ []) ∙ ap (λ (n : ℕ). n + 1) h.counts ∙ sym (ap length grown ∙ length-append ts (text ∷ []));
  pieces = λ i p there. by i p (get_cases was.pieces.items new p i (subst (λ (ps : List Piece). slice_get ps i ≡ Some p) pieces there));
  bits = bits ∙ ap (λ (bs : List Bool). bs ++ bits_in (data_in comes text)) h.bits ∙ ap (λ (bs : List Bool). all_bits comes ts ++ bs) (sym (append-nil (bits_in (data_in comes text)))) ∙ sym (ap (all_bits comes) grown ∙ bits_append comes ts (text ∷ []));
  unread =
      (let m : unread_in comes (ts ++ text ∷ []) ≡ unread_in comes ts + (one_unread (data_in comes text) + 0) = unread_append comes ts (text ∷ []) in
      let w : length was.unread.items ≡ unread_in comes ts = h.unread in
      let sum : length is.unread.items ≡ unread_in comes (ts ++ text ∷ []) = omega (arith, unread, m, w) in
      sum ∙ ap (unread_in comes) (sym grown));
} where
  ts : List (List Bool)
  ts = texts_by comes f log

  new : Piece
  new = record { place = place; before = length was.bits; unread = length was.unread.items }

  grown : texts_by comes f (log ++ c ∷ []) ≡ ts ++ text ∷ []
  grown = more_texts comes f log c (text ∷ []) e

  long : length (log ++ c ∷ []) ≡ length log + 1
  long = length-append log (c ∷ [])

  marks : pair (length was.bits) (length was.unread.items) ≡ marked comes ts
  marks = ap (λ (n : ℕ). pair n (length was.unread.items)) (ap length h.bits) ∙ ap (λ (n : ℕ). pair (length (all_bits comes ts)) n) h.unread

  newest : IsPiece comes f (log ++ c ∷ []) (length was.pieces.items) new
  newest = record {
    within = omega (arith, at, long);
    here = ap (λ (cs : List Crossing). length (texts_by comes f cs)) (take_at log (c ∷ []) place at) ∙ sym h.counts;
    next =
        ap (λ (cs : List Crossing). length (texts_by comes f cs)) (take_all (suc place) (log ++ c ∷ []) (omega (arith, at, long))) ∙ ap length grown ∙ length-append ts (text ∷ [])
        ∙ (let n : length was.pieces.items ≡ length ts = h.counts in let s : length ts + 1 ≡ suc (length was.pieces.items) = omega (arith, n) in s);
    before = marks ∙ ap (marked comes) (sym (ap (take (length was.pieces.items)) grown ∙ take_at ts (text ∷ []) (length was.pieces.items) (sym h.counts)));
  }

  by : (i : ℕ) (p : Piece) → ((p ≡ new) × (i ≡ length was.pieces.items)) ⊎ (slice_get was.pieces.items i ≡ Some p)
      → IsPiece comes f (log ++ c ∷ []) i p
  by i p (inl k) = subst (λ (n : ℕ). IsPiece comes f (log ++ c ∷ []) n p) (sym k.1) (subst (λ (q : Piece). IsPiece comes f (log ++ c ∷ []) (length was.pieces.items) q) (sym k.0) newest)
  by i p (inr k) =
      piece_stays comes f log c (text ∷ []) e i p (let n : i < length was.pieces.items = slice_get_within was.pieces.items i p k in let m : length was.pieces.items ≡ length ts = h.counts in omega (arith, n, m)) (h.pieces i p k)

-- a stream without messages is that of a flow without any
none_left : (i n : ℕ) → i < n → n ≡ 0 → ⊥
none_left i n less none = omega (arith, less, none)

stream_none : (comes : Bool) (f : Flow) (log : List Crossing) (s : Stream) → texts_by comes f log ≡ []
    → IsStream comes f [] s → IsStream comes f log s
stream_none comes f log s none h = record {
  counts = h.counts ∙ ap length (sym none);
  pieces = λ i p at. absurd (none_left i (length s.pieces.items) (slice_get_within s.pieces.items i p at) h.counts);
  bits = h.bits ∙ ap (all_bits comes) (sym none);
  unread = h.unread ∙ ap (unread_in comes) (sym none);
}

-- ---- all streams

of_stays : (comes : Bool) (f : Flow) (log : List Crossing) (c : Crossing) (o : Option ℕ) (streams : List Stream)
    → text_of comes f c ≡ [] → StreamOf comes f log o streams → StreamOf comes f (log ++ c ∷ []) o streams
of_stays comes f log c None streams e h = more_texts comes f log c [] e ∙ append-nil (texts_by comes f log) ∙ h
of_stays comes f log c (Some n) streams e h = (h.0, h.1, stream_stays comes f log c h.0 e h.2)

pub joined_stays : (comes : Bool) (log : List Crossing) (c : Crossing) (j : Joined) → message_of comes c ≡ None
    → AreJoined comes log j → AreJoined comes (log ++ c ∷ []) j
joined_stays comes log c j none h = record { streams = λ f. of_stays comes f log c (map.get j.numbers f) j.streams.items (no_text comes c f none) (h.streams f); apart = h.apart }

-- a flow's number
pub record Numbered (comes : Bool) (log : List Crossing) (n : ℕ) (f : Flow) (j : Joined) : Type 0 where
  pub joined : AreJoined comes log j
  pub number : map.get j.numbers f ≡ Some n
  pub there : n < length j.streams.items
  pub stream : (s : Stream) × (slice_get j.streams.items n ≡ Some s) × IsStream comes f log s

named_stream : (comes : Bool) (log : List Crossing) (n : ℕ) (f : Flow) (j : Joined) → AreJoined comes log j
    → map.get j.numbers f ≡ Some n → Numbered comes log n f j
named_stream comes log n f j h e =
    let s : StreamOf comes f log (Some n) j.streams.items = subst (λ (o : Option ℕ). StreamOf comes f log o j.streams.items) e (h.streams f) in
    record { joined = h; number = e; there = slice_get_within j.streams.items n s.0 s.1; stream = s }

module _ (comes : Bool) (log : List Crossing) (n : ℕ) (f : Flow) (was is : Joined) (h : AreJoined comes log was) (at : n ≡ length was.streams.items) (numbers : is.numbers ≡ map.insert was.numbers f n) (s : Stream)
    (streams : is.streams.items ≡ was.streams.items ++ s ∷ []) (new : (comes : Bool) (g : Flow) → IsStream comes g [] s) (none : map.get was.numbers f ≡ None) where
  get_is : (g : Flow) → map.get is.numbers g ≡ (if same_flow g f then Some n else map.get was.numbers g)
  get_is g = ap (λ (m : map.FinMap flow_cmp ℕ). map.get m g) numbers ∙ get_set was.numbers f n g

  number_here : map.get is.numbers f ≡ Some n
  number_here = get_is f ∙ (let same : same_flow f f ≡ true = same_flow_is f f refl in ap (λ (b : Bool). if b then Some n else map.get was.numbers f) same)

  below : (g : Flow) (k : ℕ) → map.get was.numbers g ≡ Some k → k < n
  below g k e = let w : Numbered comes log k g was = named_stream comes log k g was h e in let l : k < length was.streams.items = w.there in omega (arith, l, at)

  new_stream : (g : Flow) (v : Bool) → same_flow g f ≡ v
      → StreamOf comes g log (if v then Some n else map.get was.numbers g) is.streams.items
  new_stream g true e = (
    s,
    ap (λ (xs : List Stream). slice_get xs n) streams ∙ ap (λ (k : ℕ). slice_get (was.streams.items ++ s ∷ []) k) at ∙ get_seam was.streams.items s,
    stream_none comes g log s (subst (λ (x : Flow). texts_by comes x log ≡ []) (sym (same_flow-true g f e)) (subst (λ (o : Option ℕ). StreamOf comes f log o was.streams.items) none (h.streams f))) (new comes g),
  )
  new_stream g false e = by (map.get was.numbers g) refl where
    by : (o : Option ℕ) → map.get was.numbers g ≡ o → StreamOf comes g log o is.streams.items
    by None k = subst (λ (o : Option ℕ). StreamOf comes g log o was.streams.items) k (h.streams g)
    by (Some i) k =
        let w : Numbered comes log i g was = named_stream comes log i g was h k in
        (w.stream.0, ap (λ (xs : List Stream). slice_get xs i) streams ∙ get_front was.streams.items s w.stream.0 i w.stream.1, w.stream.2)

  one_number : (k i : ℕ) → Some k ≡ Some i → k ≡ i
  one_number k i e = cc

  new_apart : (g k : Flow) (i : ℕ) (v w : Bool) → same_flow g f ≡ v → same_flow k f ≡ w
      → (if v then Some n else map.get was.numbers g) ≡ Some i
      → (if w then Some n else map.get was.numbers k) ≡ Some i → g ≡ k
  new_apart g k i true true a b c d = same_flow-true g f a ∙ sym (same_flow-true k f b)
  new_apart g k i true false a b c d = absurd (let same : n ≡ i = one_number n i c in let less : i < n = below k i d in omega (arith, same, less))
  new_apart g k i false true a b c d = absurd (let same : n ≡ i = one_number n i d in let less : i < n = below g i c in omega (arith, same, less))
  new_apart g k i false false a b c d = h.apart g k i c d

  pub numbered_new : Numbered comes log n f is
  numbered_new =
      named_stream comes log n f is
      (record {
        streams = λ g. subst (λ (o : Option ℕ). StreamOf comes g log o is.streams.items) (sym (get_is g)) (new_stream g (same_flow g f) refl);
        apart = λ g k i c d. new_apart g k i (same_flow g f) (same_flow k f) refl refl (sym (get_is g) ∙ c) (sym (get_is k) ∙ d);
      }) number_here

pub numbered : (comes : Bool) (log : List Crossing) (n : ℕ) (f : Flow) (was is : Joined) → HasNumber n f was is
    → AreJoined comes log was → Numbered comes log n f is
numbered comes log n f was is k h = by (map.get was.numbers f) refl k where
  by : (o : Option ℕ) → map.get was.numbers f ≡ o → NumberBy o n f was is → Numbered comes log n f is
  by None e r = numbered_new comes log n f was is h r.0 r.1 r.2.0 r.2.1 r.2.2 e
  by (Some i) e r = subst (λ (j : Joined). Numbered comes log n f j) (sym r.1) (named_stream comes log n f was h (e ∙ ap (λ (x : ℕ). Some x) (sym r.0)))

-- the one with a number is another now
pub record IsChanged {X : Type 0} (n : ℕ) (s : X) (was is : List X) : Type 0 where
  pub here : slice_get is n ≡ Some s
  pub others : (i : ℕ) → (i ≡ n → ⊥) → slice_get is i ≡ slice_get was i

pub joined_more : (comes : Bool) (log : List Crossing) (c : Crossing) (m : HostMessage) (n : ℕ) (s : Stream) (was is : Joined)
    → message_of comes c ≡ Some m → Numbered comes log n m.flow was → is.numbers ≡ was.numbers
    → IsChanged n s was.streams.items is.streams.items → IsStream comes m.flow (log ++ c ∷ []) s
    → AreJoined comes (log ++ c ∷ []) is
joined_more comes log c m n s was is e w numbers change h = record {
  streams = λ g. subst (λ (o : Option ℕ). StreamOf comes g (log ++ c ∷ []) o is.streams.items) (sym (same_map g)) (by g (same_flow g m.flow) refl);
  apart = λ f g i a b. w.joined.apart f g i (sym (same_map f) ∙ a) (sym (same_map g) ∙ b);
} where
  same_map : (g : Flow) → map.get is.numbers g ≡ map.get was.numbers g
  same_map g = ap (λ (x : map.FinMap flow_cmp ℕ). map.get x g) numbers

  text : (g : Flow) (v : Bool) → same_flow g m.flow ≡ v → text_of comes g c ≡ (if v then m.text ∷ [] else [])
  text g v a = text_by comes c m g e ∙ ap (λ (b : Bool). if b then m.text ∷ [] else []) a

  other : (g : Flow) (i : ℕ) → same_flow g m.flow ≡ false → map.get was.numbers g ≡ Some i → i ≡ n → ⊥
  other g i a k same =
      let one : g ≡ m.flow = w.joined.apart g m.flow n (k ∙ ap (λ (x : ℕ). Some x) same) w.number in
      let both : true ≡ false = sym (same_flow_is g m.flow (sym one)) ∙ a in
      cc

  by : (g : Flow) (v : Bool) → same_flow g m.flow ≡ v
      → StreamOf comes g (log ++ c ∷ []) (map.get was.numbers g) is.streams.items
  by g true a =
      let one : g ≡ m.flow = same_flow-true g m.flow a in
      subst (λ (o : Option ℕ). StreamOf comes g (log ++ c ∷ []) o is.streams.items) (sym (ap (map.get was.numbers) one ∙ w.number))
      (s, change.here, subst (λ (f : Flow). IsStream comes f (log ++ c ∷ []) s) (sym one) h)
  by g false a = at (map.get was.numbers g) refl where
    at : (o : Option ℕ) → map.get was.numbers g ≡ o → StreamOf comes g (log ++ c ∷ []) o is.streams.items
    at None k = of_stays comes g log c None is.streams.items (text g false a) (subst (λ (o : Option ℕ). StreamOf comes g log o was.streams.items) k (w.joined.streams g))
    at (Some i) k =
        let r : Numbered comes log i g was = named_stream comes log i g was w.joined k in
        (r.stream.0, change.others i (other g i a k) ∙ r.stream.1, stream_stays comes g log c r.stream.0 (text g false a) r.stream.2)

pub joined_none : (comes : Bool) (j : Joined) → j.numbers ≡ map.empty → AreJoined comes [] j
joined_none comes j e = record { streams = λ f. subst (λ (o : Option ℕ). StreamOf comes f [] o j.streams.items) (sym (none f)) refl; apart = λ f g n a b. absurd (let both : None ≡ Some n = sym (none f) ∙ a in cc) } where
  none : (f : Flow) → map.get j.numbers f ≡ None
  none f = ap (λ (m : map.FinMap flow_cmp ℕ). map.get m f) e ∙ map.get-empty flow_cmp f

-- ---- a part of a stream

module _ (comes : Bool) (f : Flow) (log : List Crossing) (s : Stream) (h : IsStream comes f log s) where
  abbrev ts : List (List Bool)
  ts = texts_by comes f log

  -- the messages cross one after another
  rises : (i j : ℕ) (p q : Piece) → i < j → slice_get s.pieces.items i ≡ Some p → slice_get s.pieces.items j ≡ Some q
      → p.place < q.place
  rises i j p q less a b = elim (cases_lt p.place q.place) [
    | inl low ↦ low
    | inr back ↦
        (let x : IsPiece comes f log i p = h.pieces i p a in
        let y : IsPiece comes f log j q = h.pieces j q b in
        let k : length (texts_by comes f (take q.place log)) ≤ length (texts_by comes f (take p.place log)) = texts_less comes f q.place p.place log back in
        let u : length (texts_by comes f (take p.place log)) ≡ i = x.here in
        let v : length (texts_by comes f (take q.place log)) ≡ j = y.here in
        absurd (omega (arith, less, k, u, v)))
  ]

  -- as many are before a place as it has messages before that
  pub before_place : (since n : ℕ) → IsFirstFrom s.pieces.items since n → length (texts_by comes f (take since log)) ≡ n
  before_place since n k = omega (arith, low n refl, high) where
    r : ((i : ℕ) (p : Piece) → slice_get s.pieces.items i ≡ Some p → i < n → p.place < since) × ((i : ℕ) (p : Piece) → slice_get s.pieces.items i ≡ Some p → n ≤ i → since ≤ p.place)
    r = k.1 rises

    low : (m : ℕ) → n ≡ m → n ≤ length (texts_by comes f (take since log))
    low zero e = omega (arith, e)
    low (suc m) e =
        let bound : n ≤ length s.pieces.items = k.0 in
        let p = read_at s.pieces.items m (omega (arith, e, bound)) in
        let before : p.0.place < since = r.0 m p.0 p.1 (omega (arith, e)) in
        let x : IsPiece comes f log m p.0 = h.pieces m p.0 p.1 in
        let y : length (texts_by comes f (take (suc p.0.place) log)) ≡ suc m = x.next in
        let z : length (texts_by comes f (take (suc p.0.place) log)) ≤ length (texts_by comes f (take since log)) = texts_less comes f (suc p.0.place) since log (omega (arith, before)) in
        omega (arith, e, y, z)

    high : length (texts_by comes f (take since log)) ≤ n
    high = elim (cases_lt n (length s.pieces.items)) [
      | inl less ↦
          (let p = read_at s.pieces.items n less in
          let after : since ≤ p.0.place = r.1 n p.0 p.1 (omega arith) in
          let x : length (texts_by comes f (take p.0.place log)) ≡ n = (h.pieces n p.0 p.1).here in
          let z : length (texts_by comes f (take since log)) ≤ length (texts_by comes f (take p.0.place log)) = texts_less comes f since p.0.place log after in
          omega (arith, x, z))
      | inr past ↦ (let all : length s.pieces.items ≡ length ts = h.counts in let z : length (texts_by comes f (take since log)) ≤ length ts = texts_within comes f since log in omega (arith, past, all, z))
    ]

  -- and as many are between two places as it has messages between them
  pub counted : (since until first last : ℕ) → IsFirstFrom s.pieces.items since first
      → IsFirstFrom s.pieces.items until last
      → last - first ≡ length (texts_by comes f (drop since (take until log)))
  counted since until first last a b =
      let x : length (texts_by comes f (take since log)) ≡ first = before_place since first a in
      let y : length (texts_by comes f (take until log)) ≡ last = before_place until last b in
      elim (cases_lt until since) [
        | inl past ↦
            (let fewer : length (texts_by comes f (take until log)) ≤ length (texts_by comes f (take since log)) =
            texts_less comes f until since log (omega (arith, past)) in
            let none : length (texts_by comes f (drop since (take until log))) ≡ 0 =
            ap (λ (us : List (List Bool)). length us) (texts_past comes f since until log (omega (arith, past))) in
            omega (arith, x, y, fewer, none))
        | inr within ↦
            (let parts : length (texts_by comes f (take until log))
            ≡ length (texts_by comes f (take since log)) + length (texts_by comes f (drop since (take until log))) =
            texts_between comes f since until log within in
            omega (arith, x, y, parts))
      ]

  pub counted_none : (since until first last : ℕ) → IsFirstFrom s.pieces.items since first
      → IsFirstFrom s.pieces.items until last → last < first
      → 0 ≡ length (texts_by comes f (drop since (take until log)))
  counted_none since until first last a b less =
      let all : last - first ≡ length (texts_by comes f (drop since (take until log))) =
      counted since until first last a b in
      omega (arith, all, less)

  pub mark_found : (n : ℕ) (p : Piece) → slice_get s.pieces.items n ≡ Some p
      → pair p.before p.unread ≡ marked comes (take n ts)
  mark_found n p e = (h.pieces n p e).before

  pub mark_last : (n : ℕ) → length s.pieces.items ≤ n
      → pair (length s.bits) (length s.unread.items) ≡ marked comes (take n ts)
  mark_last n past =
      let all : take n ts ≡ ts = take_all n ts (let k : length s.pieces.items ≡ length ts = h.counts in omega (arith, past, k)) in
      ap (λ (bs : List Bool). pair (length bs) (length s.unread.items)) h.bits ∙ ap (λ (k : ℕ). pair (length (all_bits comes ts)) k) h.unread ∙ ap (marked comes) (sym all)

  -- what is found is the data of as many messages from there on
  module _ (since n count : ℕ) (first : IsFirstFrom s.pieces.items since n) (bits : List Bool) where
    abbrev rest : List (List Bool)
    rest = texts_by comes f (drop since log)

    rest_is : rest ≡ drop n ts
    rest_is = texts_after comes f since n log (before_place since n first)

    long : length rest ≡ length s.pieces.items - n
    long = ap length rest_is ∙ length_drop n ts ∙ ap (λ (k : ℕ). k - n) (sym h.counts) where
      length_drop : (n : ℕ) (xs : List (List Bool)) → length (drop n xs) ≡ length xs - n
      length_drop zero xs = omega arith
      length_drop (suc n) [] = omega arith
      length_drop (suc n) (x ∷ xs) = let r : length (drop n xs) ≡ length xs - n = length_drop n xs in omega (arith, r)

    pub too_few : (length s.pieces.items - n < count) → first_data comes count rest ≡ Some bits → ⊥
    too_few less e =
        let r : AreRead comes count rest bits = data_read comes count rest bits e in
        let k : count ≤ length rest = r.enough in
        let l : length rest ≡ length s.pieces.items - n = long in
        omega (arith, less, k, l)

    -- where there are as many
    module _ (enough : count ≤ length s.pieces.items - n) where
      all : n + count ≤ length ts
      all = let k : length s.pieces.items ≡ length ts = h.counts in let b : n ≤ length s.pieces.items = first.0 in omega (arith, enough, k, b)

      abbrev from : ℕ × ℕ
      from = marked comes (take n ts)

      abbrev to : ℕ × ℕ
      to = marked comes (take (n + count) ts)

      part : drop from.0 (take to.0 s.bits) ≡ all_bits comes (take count rest)
      part = ap (λ (bs : List Bool). drop from.0 (take to.0 bs)) h.bits ∙ between comes n count ts all ∙ ap (λ (us : List (List Bool)). all_bits comes (take count us)) (sym rest_is)

      unread_part : to.1 ≡ from.1 + unread_in comes (take count rest)
      unread_part = unread_two comes n count ts all ∙ ap (λ (us : List (List Bool)). from.1 + unread_in comes (take count us)) (sym rest_is)

      enough_rest : count ≤ length rest
      enough_rest = let l : length rest ≡ length s.pieces.items - n = long in omega (arith, enough, l)

      pub found : from.1 ≡ to.1 → drop from.0 (take to.0 s.bits) ≡ bits → first_data comes count rest ≡ Some bits
      found same slice =
          read_data comes count rest bits (record {
            enough = enough_rest;
            read = (let u : to.1 ≡ from.1 + unread_in comes (take count rest) = unread_part in omega (arith, u, same));
            same = sym part ∙ slice;
          })

      pub unfound : ((from.1 ≡ to.1) × (from.0 ≤ to.0) × (to.0 ≤ length s.bits) × (drop from.0 (take to.0 s.bits) ≡ bits) → ⊥)
          → first_data comes count rest ≡ Some bits → ⊥
      unfound other e =
          let r : AreRead comes count rest bits = data_read comes count rest bits e in
          let w = within comes n count ts all in
          let none : unread_in comes (take count rest) ≡ 0 = r.read in
          let u : to.1 ≡ from.1 + unread_in comes (take count rest) = unread_part in
          let size : length s.bits ≡ length (all_bits comes ts) = ap length h.bits in
          let low : from.0 ≤ to.0 = w.0 in
          let high : to.0 ≤ length (all_bits comes ts) = w.1 in
          other (omega (arith, u, none), low, omega (arith, high, size), part ∙ r.same)

-- ---- the search

-- what the search finds
pub parted : (pieces : List Piece) (since : ℕ)
    → ((i j : ℕ) (p q : Piece) → i < j → slice_get pieces i ≡ Some p → slice_get pieces j ≡ Some q → p.place < q.place)
    → IsPartitionedBy (λ (p : Piece). nat_lt p.place since) pieces
parted pieces since rises = λ i j d le less t. by i j d le less t (cases_lt i j) where
  by : (i j : ℕ) (d : Piece) → i ≤ j → j < length pieces → nat_lt (slice_index_or pieces j d).place since ≡ true
      → (i < j) ⊎ (j ≤ i) → nat_lt (slice_index_or pieces i d).place since ≡ true
  by i j d le less t (inl before) =
      let a : slice_get pieces i ≡ Some (slice_index_or pieces i d) = slice_get_read pieces (length pieces) i (slice_index_or pieces i d) refl (omega (arith, before, less)) (get_or_default pieces i d (slice_index_or pieces i d) (omega (arith, before, less))) in
      let b : slice_get pieces j ≡ Some (slice_index_or pieces j d) = slice_get_read pieces (length pieces) j (slice_index_or pieces j d) refl less (get_or_default pieces j d (slice_index_or pieces j d) less) in
      let low : (slice_index_or pieces i d).place < (slice_index_or pieces j d).place = rises i j (slice_index_or pieces i d) (slice_index_or pieces j d) before a b in
      let high : (slice_index_or pieces j d).place < since = ltb-true (slice_index_or pieces j d).place since t in
      lt-ltb (slice_index_or pieces i d).place since (omega (arith, low, high))
  by i j d le less t (inr after) = let same : j ≡ i = omega (arith, le, after) in subst (λ (k : ℕ). nat_lt (slice_index_or pieces k d).place since ≡ true) same t

pub first_by : (pieces : List Piece) (since n : ℕ)
    → IsPartitionPoint (λ (p : Piece). nat_lt p.place since ≡ true) (λ (p : Piece). nat_lt p.place since ≡ false) pieces n
    → ((i : ℕ) (p : Piece) → slice_get pieces i ≡ Some p → i < n → p.place < since) × ((i : ℕ) (p : Piece) → slice_get pieces i ≡ Some p → n ≤ i → since ≤ p.place)
first_by pieces since n point = (
  λ i p at less. ltb-true p.place since (ap (λ (q : Piece). nat_lt q.place since) (sym (get_or_from_slice_get pieces i p p at)) ∙ point.0 i p (omega arith) less),
  λ i p at past. ltb-false p.place since (ap (λ (q : Piece). nat_lt q.place since) (sym (get_or_from_slice_get pieces i p p at)) ∙ point.1 i p past (slice_get_within pieces i p at)),
)

pub piece_there : {X : Type 0} (ps qs : List X) (i : ℕ) (p : X) → qs ≡ ps → true ≡ nat_lt i (length qs)
    → p ≡ get_or qs i p → slice_get ps i ≡ Some p
piece_there {X} ps qs i p same e is = subst (λ (xs : List X). slice_get xs i ≡ Some p) same (slice_get_read qs (length qs) i p refl (ltb-true i (length qs) (sym e)) is)

pub past_end : {X : Type 0} (ps qs : List X) (i : ℕ) → qs ≡ ps → false ≡ nat_lt i (length qs) → length ps ≤ i
past_end ps qs i same e = let past : length qs ≤ i = ltb-false i (length qs) (sym e) in let long : length qs ≡ length ps = ap length same in omega (arith, past, long)

-- ---- what is answered

module _ (comes : Bool) (f : Flow) (log : List Crossing) (s : Stream) (h : IsStream comes f log s) (since n count : ℕ) (first : IsFirstFrom s.pieces.items since n) (bits : List Bool) (enough : count ≤ length s.pieces.items - n) (from to : ℕ × ℕ)
    (e : from ≡ marked comes (take n (texts_by comes f log))) (g : to ≡ marked comes (take (n + count) (texts_by comes f log))) where
  abbrev IsThere : Type 0
  IsThere = first_data comes count (texts_by comes f (drop since log)) ≡ Some bits

  pub answered : (b : Bool) → from.1 ≡ to.1
      → MatchBool b ((from.0 ≤ to.0) × (to.0 ≤ length s.bits) × (drop from.0 (take to.0 s.bits) ≡ bits)) ((from.0 ≤ to.0) × (to.0 ≤ length s.bits) × (drop from.0 (take to.0 s.bits) ≡ bits) → ⊥)
      → MatchBool b IsThere (IsThere → ⊥)
  answered true same m =
      found comes f log s h since n count first bits enough (sym (ap (λ (p : ℕ × ℕ). p.1) e) ∙ same ∙ ap (λ (p : ℕ × ℕ). p.1) g)
      (ap (λ (p : ℕ × ℕ). drop p.0 (take (marked comes (take (n + count) (texts_by comes f log))).0 s.bits)) (sym e) ∙ ap (λ (p : ℕ × ℕ). drop from.0 (take p.0 s.bits)) (sym g) ∙ m.2)
  answered false same m =
      unfound comes f log s h since n count first bits enough
      (λ (r, a, b, slice). m (
        subst (λ (p : ℕ × ℕ). p.0 ≤ to.0) (sym e) (subst (λ (p : ℕ × ℕ). (marked comes (take n (texts_by comes f log))).0 ≤ p.0) (sym g) a),
        subst (λ (p : ℕ × ℕ). p.0 ≤ length s.bits) (sym g) b,
        ap (λ (p : ℕ × ℕ). drop p.0 (take to.0 s.bits)) e ∙ ap (λ (p : ℕ × ℕ). drop (marked comes (take n (texts_by comes f log))).0 (take p.0 s.bits)) g ∙ slice,
      ))

  pub unlike : (from.1 ≡ to.1 → ⊥) → MatchBool (from.1 == to.1) IsThere (IsThere → ⊥)
  unlike other = by (from.1 == to.1) refl where
    by : (v : Bool) → (from.1 == to.1) ≡ v → MatchBool v IsThere (IsThere → ⊥)
    by true same = absurd (other (eqb-true from.1 to.1 same))
    by false differ = unfound comes f log s h since n count first bits enough (λ (r, a, b, slice). other (ap (λ (p : ℕ × ℕ). p.1) e ∙ r ∙ sym (ap (λ (p : ℕ × ℕ). p.1) g)))

pub not_below : (a b : ℕ) → (a < b → ⊥) → b ≤ a
not_below a b not = elim (cases_lt a b) [ inl less ↦ absurd (not less) | inr past ↦ past ]

-- ---- all streams, once more

pub stream_there : (comes : Bool) (log : List Crossing) (j : Joined) (f : Flow) (o : Option ℕ) (n : ℕ) (s : Stream)
    → AreJoined comes log j → o ≡ map.get j.numbers f → o ≡ Some n → slice_get j.streams.items n ≡ Some s
    → IsStream comes f log s
stream_there comes log j f o n s h get is at =
    let k : StreamOf comes f log (Some n) j.streams.items = subst (λ (p : Option ℕ). StreamOf comes f log p j.streams.items) (sym get ∙ is) (h.streams f) in
    let one : k.0 ≡ s = (let same : Some k.0 ≡ Some s = sym k.1 ∙ at in cc) in
    subst (λ (x : Stream). IsStream comes f log x) one k.2

pub no_stream : (comes : Bool) (log : List Crossing) (j : Joined) (f : Flow) (o : Option ℕ) (n : ℕ)
    → AreJoined comes log j → o ≡ map.get j.numbers f → o ≡ Some n → length j.streams.items ≤ n → ⊥
no_stream comes log j f o n h get is past =
    let k : StreamOf comes f log (Some n) j.streams.items = subst (λ (p : Option ℕ). StreamOf comes f log p j.streams.items) (sym get ∙ is) (h.streams f) in
    let less : n < length j.streams.items = slice_get_within j.streams.items n k.0 k.1 in
    omega (arith, less, past)

no_rest : (xs ys : List (List Bool)) → [] ≡ xs ++ ys → ys ≡ []
no_rest [] ys e = sym e
no_rest (x ∷ xs) ys e = absurd (cc)

pub none_after : (comes : Bool) (log : List Crossing) (j : Joined) (f : Flow) (o : Option ℕ) (since : ℕ)
    → AreJoined comes log j → o ≡ map.get j.numbers f → o ≡ None → texts_by comes f (drop since log) ≡ []
none_after comes log j f o since h get is =
    let none : texts_by comes f log ≡ [] = subst (λ (p : Option ℕ). StreamOf comes f log p j.streams.items) (sym get ∙ is) (h.streams f) in
    no_rest (texts_by comes f (take since log)) (texts_by comes f (drop since log)) (sym none ∙ texts_split comes f since log)

pub none_between : (comes : Bool) (log : List Crossing) (j : Joined) (f : Flow) (o : Option ℕ) (since until : ℕ)
    → AreJoined comes log j → o ≡ map.get j.numbers f → o ≡ None
    → 0 ≡ length (texts_by comes f (drop since (take until log)))
none_between comes log j f o since until h get is =
    let none : texts_by comes f log ≡ [] = subst (λ (p : Option ℕ). StreamOf comes f log p j.streams.items) (sym get ∙ is) (h.streams f) in
    let whole : length (texts_by comes f log) ≡ 0 = ap (λ (us : List (List Bool)). length us) none in
    let front : length (texts_by comes f (take until log)) ≤ length (texts_by comes f log) =
    texts_within comes f until log in
    elim (cases_lt until since) [
      | inl past ↦
          sym (ap (λ (us : List (List Bool)). length us) (texts_past comes f since until log (omega (arith, past))))
      | inr within ↦
          (let parts : length (texts_by comes f (take until log))
          ≡ length (texts_by comes f (take since log)) + length (texts_by comes f (drop since (take until log))) =
          texts_between comes f since until log within in
          omega (arith, whole, front, parts))
    ]

-- the data of no texts
abbrev IsNothing : Bool → ℕ → List (List Bool) → List Bool → Type 0
IsNothing comes count ts bits = first_data comes count ts ≡ Some bits

pub nothing_counted : (comes : Bool) (count : ℕ) (ts : List (List Bool)) (bits : List Bool) (b : Bool) → ts ≡ []
    → count ≡ 0 → b ≡ (length bits == 0)
    → MatchBool b (IsNothing comes count ts bits) (IsNothing comes count ts bits → ⊥)
nothing_counted comes count ts bits b none zero_count e =
    subst (λ (v : Bool). MatchBool v (IsNothing comes count ts bits) (IsNothing comes count ts bits → ⊥)) (sym e)
    (subst (λ (n : ℕ). MatchBool (length bits == 0) (IsNothing comes n ts bits) (IsNothing comes n ts bits → ⊥)) (sym zero_count) (by bits)) where
      by : (bs : List Bool) → MatchBool (length bs == 0) (IsNothing comes 0 ts bs) (IsNothing comes 0 ts bs → ⊥)
      by [] = refl
      by (x ∷ bs) = at (length (x ∷ bs) == 0) refl where
        at : (v : Bool) → (length (x ∷ bs) == 0) ≡ v
            → MatchBool v (IsNothing comes 0 ts (x ∷ bs)) (IsNothing comes 0 ts (x ∷ bs) → ⊥)
        at true same = absurd (let long : length (x ∷ bs) ≡ 0 = eqb-true (length (x ∷ bs)) 0 same in omega (arith, long))
        at false other = λ h. (let both : Some [] ≡ Some (x ∷ bs) = h in cc)

pub something_counted : (comes : Bool) (count : ℕ) (ts : List (List Bool)) (bits : List Bool) → ts ≡ []
    → (count ≡ 0 → ⊥) → IsNothing comes count ts bits → ⊥
something_counted comes count ts bits none other h = by count refl where
  by : (n : ℕ) → count ≡ n → ⊥
  by zero e = other e
  by (suc n) e = let both : None ≡ Some bits = sym (ap (λ (k : ℕ). first_data comes k []) e) ∙ ap (first_data comes count) (sym none) ∙ h in cc

-- ---- the data of one text

pub cut_at : (end : ℕ) (text : List Bool) → drop (min 40 end) (take end text) ≡ drop 40 (take end text)
cut_at end text = elim (cases_lt end 40) [
  | inl short ↦
      (let m : min 40 end ≡ end = omega (arith, short) in
      let size : length (take end text) ≤ end = length_took end text in
      ap (λ (k : ℕ). drop k (take end text)) m ∙ drop_all end (take end text) size ∙ sym (drop_all 40 (take end text) (omega (arith, size, short))))
  | inr long ↦ (let m : min 40 end ≡ 40 = omega (arith, long) in ap (λ (k : ℕ). drop k (take end text)) m)
] where
  length_took : (n : ℕ) (xs : List Bool) → length (take n xs) ≤ n
  length_took zero xs = omega arith
  length_took (suc n) [] = omega arith
  length_took (suc n) (x ∷ xs) = let r : length (take n xs) ≤ n = length_took n xs in omega (arith, r)

pub data_none : (comes : Bool) (text : List Bool) (o : Option ℕ) → o ≡ end_of comes text → o ≡ None
    → data_in comes text ≡ None
data_none comes text o e is = sym (data_ends comes text) ∙ ap (λ (p : Option ℕ). option_map (λ end. drop 40 (take end text)) p) (sym e ∙ is)

pub data_some : (comes : Bool) (text : List Bool) (o : Option ℕ) (end : ℕ) → o ≡ end_of comes text → o ≡ Some end
    → data_in comes text ≡ Some (drop 40 (take end text))
data_some comes text o end e is = sym (data_ends comes text) ∙ ap (λ (p : Option ℕ). option_map (λ end. drop 40 (take end text)) p) (sym e ∙ is)

pub else_counted : (comes : Bool) (count : ℕ) (ts : List (List Bool)) (bits : List Bool) → ts ≡ [] → (count ≡ 0 → ⊥)
    → MatchBool (count == 0) (first_data comes count ts ≡ Some bits) (first_data comes count ts ≡ Some bits → ⊥)
else_counted comes count ts bits none other = by (count == 0) refl where
  by : (v : Bool) → (count == 0) ≡ v
      → MatchBool v (first_data comes count ts ≡ Some bits) (first_data comes count ts ≡ Some bits → ⊥)
  by true e = absurd (other (eqb-true count 0 e))
  by false e = something_counted comes count ts bits none other

-- ---- a log, place by place

pub place_more : (log : List Crossing) (place : ℕ) (c : Crossing) → place < length log → c ≡ get_or log place c
    → take (place + 1) log ≡ take place log ++ c ∷ []
place_more log place c less at = take_more log place c less ∙ ap (λ (d : Crossing). take place log ++ d ∷ []) (sym at)

pub none_at : (comes : Bool) (log : List Crossing) (place : ℕ) (c : Crossing) (j : Joined) → place < length log
    → c ≡ get_or log place c → message_of comes c ≡ None → AreJoined comes (take place log) j
    → AreJoined comes (take (place + 1) log) j
none_at comes log place c j less at none h = subst (λ (cs : List Crossing). AreJoined comes cs j) (sym (place_more log place c less at)) (joined_stays comes (take place log) c j none h)

pub numbered_at : (comes : Bool) (log : List Crossing) (place n : ℕ) (f : Flow) (was is : Joined)
    → HasNumber n f was is → AreJoined comes (take place log) was → n < length is.streams.items
numbered_at comes log place n f was is k h = (numbered comes (take place log) n f was is k h).there

-- one of several is another
pub changed_at : {X : Type 0} (xs : List X) (n : ℕ) (s : X) → n < length xs → IsChanged n s xs (slice_set xs n s)
changed_at [] n s less = absurd (omega (arith, less))
changed_at (x ∷ xs) zero s less = record { here = refl; others = λ i other. same i other } where
  same : (i : ℕ) → (i ≡ 0 → ⊥) → slice_get (s ∷ xs) i ≡ slice_get (x ∷ xs) i
  same zero other = absurd (other refl)
  same (suc i) other = refl
changed_at (x ∷ xs) (suc n) s less = let r : IsChanged n s xs (slice_set xs n s) = changed_at xs n s (omega (arith, less)) in record { here = r.here; others = λ i other. same i other r } where
  same : (i : ℕ) → (i ≡ suc n → ⊥) → IsChanged n s xs (slice_set xs n s)
      → slice_get (x ∷ slice_set xs n s) i ≡ slice_get (x ∷ xs) i
  same zero other r = refl
  same (suc i) other r = r.others i (λ e. other (ap (λ (k : ℕ). suc k) e))

pub added_at : (comes : Bool) (log : List Crossing) (place n : ℕ) (c : Crossing) (m : HostMessage) (old s : Stream) (was mid is : Joined)
    → place < length log → c ≡ get_or log place c → Some m ≡ message_of comes c → HasNumber n m.flow was mid
    → AreJoined comes (take place log) was → old ≡ get_or mid.streams.items n old → is.numbers ≡ mid.numbers
    → is.streams.items ≡ slice_set mid.streams.items n s
    → ((f : Flow) (older : List Crossing) (d : Crossing) → length older ≡ place → text_of comes f d ≡ m.text ∷ [] → IsStream comes f older old → IsStream comes f (older ++ d ∷ []) s)
    → AreJoined comes (take (place + 1) log) is
added_at comes log place n c m old s was mid is less at got k h found numbers streams more =
    let w : Numbered comes (take place log) n m.flow mid = numbered comes (take place log) n m.flow was mid k h in
    let here : slice_get mid.streams.items n ≡ Some old = slice_get_read mid.streams.items (length mid.streams.items) n old refl w.there found in
    let one : w.stream.0 ≡ old = (let same : Some w.stream.0 ≡ Some old = sym w.stream.1 ∙ here in cc) in
    let text : text_of comes m.flow c ≡ m.text ∷ [] = text_by comes c m m.flow (sym got) ∙ (let same : same_flow m.flow m.flow ≡ true = same_flow_is m.flow m.flow refl in ap (λ (b : Bool). if b then m.text ∷ [] else []) same) in
    subst (λ (cs : List Crossing). AreJoined comes cs is) (sym (place_more log place c less at))
    (joined_more comes (take place log) c m n s mid is (sym got) w numbers
    (subst (λ (xs : List Stream). IsChanged n s mid.streams.items xs) (sym streams) (changed_at mid.streams.items n s w.there))
    (more m.flow (take place log) c (length-take-le place log (omega (arith, less))) text (subst (λ (x : Stream). IsStream comes m.flow (take place log) x) one w.stream.2)))

pub all_joined : (comes : Bool) (log : List Crossing) (place : ℕ) (j : Joined) → length log ≤ place
    → AreJoined comes (take place log) j → AreJoined comes log j
all_joined comes log place j past h = subst (λ (cs : List Crossing). AreJoined comes cs j) (take_all place log past) h

pub on_ok : {T E : Type 0} (r : Result T E) (P Q : Type 0) → (P → Q) → OnOk r P → OnOk r Q
on_ok (Ok x) P Q k h = k h
on_ok (Err e) P Q k h = h

-- ---- what is named at a place

-- flows are compared part by part
pub nested : (a b c : Bool) → (a && (b && c)) ≡ ((a && b) && c)
nested true b c = refl
nested false b c = refl

pub named_message : (comes : Bool) (from to : Host) (own foreign place : ℕ) (log : List Crossing) (c : Crossing) (m : HostMessage)
    → slice_get log place ≡ Some c → Some m ≡ message_of comes c → m.flow ≡ control_flow from to
    → named_in own foreign (orders_of m.text) ≡ named_at comes from to own foreign place (reverse log)
named_message comes from to own foreign place log c m at got flow =
    sym
    (named_there comes from to own foreign place log ∙ ap (λ (o : Option Crossing). named_of own foreign (texts_at comes (control_flow from to) o)) at
    ∙ ap (named_of own foreign) (text_by comes c m (control_flow from to) (sym got) ∙ (let same : same_flow (control_flow from to) m.flow ≡ true = same_flow_is (control_flow from to) m.flow flow in ap (λ (b : Bool). if b then m.text ∷ [] else []) same)))

pub unnamed_place : (comes : Bool) (from to : Host) (own foreign place : ℕ) (log : List Crossing)
    → slice_get log place ≡ None → None ≡ named_at comes from to own foreign place (reverse log)
unnamed_place comes from to own foreign place log none = sym (named_there comes from to own foreign place log ∙ ap (λ (o : Option Crossing). named_of own foreign (texts_at comes (control_flow from to) o)) none)

pub unnamed_message : (comes : Bool) (from to : Host) (own foreign place : ℕ) (log : List Crossing) (c : Crossing)
    → slice_get log place ≡ Some c → None ≡ message_of comes c
    → None ≡ named_at comes from to own foreign place (reverse log)
unnamed_message comes from to own foreign place log c at none =
    sym (named_there comes from to own foreign place log ∙ ap (λ (o : Option Crossing). named_of own foreign (texts_at comes (control_flow from to) o)) at ∙ ap (named_of own foreign) (no_text comes c (control_flow from to) (sym none)))

pub unnamed_flow : (comes : Bool) (from to : Host) (own foreign place : ℕ) (log : List Crossing) (c : Crossing) (m : HostMessage)
    → slice_get log place ≡ Some c → Some m ≡ message_of comes c → same_flow (control_flow from to) m.flow ≡ false
    → None ≡ named_at comes from to own foreign place (reverse log)
unnamed_flow comes from to own foreign place log c m at got other =
    sym
    (named_there comes from to own foreign place log ∙ ap (λ (o : Option Crossing). named_of own foreign (texts_at comes (control_flow from to) o)) at
    ∙ ap (named_of own foreign) (text_by comes c m (control_flow from to) (sym got) ∙ ap (λ (b : Bool). if b then m.text ∷ [] else []) other))
