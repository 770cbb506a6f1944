-- A life and what was handed over in it, at one place of their two lists, from one moment to the next.
use Rattle.world_keeps_lives.proofs.Common.{append_assoc, length-append, Contains, Host, same_host, Crossing, Notice, both, not_is, Request, AreHanded, AreTwo, IsPrefix, own_request, sends, Asked, Crossed, Moment, host_in, kept_by, notices_by, Life, beside_among, is_among, lives_among, crossed_only, mixed_kept}
use Rattle.std.proofs.Common.{◌≡◌, ◌⊎◌, inl, inr, ℕ, suc, ◌+◌, ◌<◌, ◌==◌, ◌&&◌, Bool, true, false, not, if◌then◌else◌, List, [], ◌∷◌, ◌++◌, length, refl, ap, sym, ◌∙◌, arith, append-nil}
use Rattle.net_sim.specs.Book.{Kept, all_told, book_told, carried, changed_when, handed_to, handed_told, life_ended, lives_asked, lives_at, lives_between, lives_crossed, lives_on, lives_told, lives_with, where_it, granted, handed_asked, returned}
use Rattle.interface.specs.declared.crossing.Crossing.TheVariants as crossing
use Rattle.host_pairs.specs.declared.notice.Notice.TheVariants as notice
use Rattle.sockets.specs.declared.request.Request.TheVariants as request

-- ---- prefixes

pub prefix_more : (xs ys zs : List Bool) → IsPrefix xs ys → IsPrefix ys zs → IsPrefix xs zs
prefix_more xs ys zs p q =
    (p.0 ++ q.0, sym (append_assoc xs p.0 q.0) ∙ ap (λ (bs : List Bool). bs ++ q.0) p.1 ∙ q.1)

pub prefix_same : (xs ys : List Bool) → IsPrefix xs ys → IsPrefix ys xs → ys ≡ xs
prefix_same xs ys p q = by p.0 p.1 where
  by : (r : List Bool) → xs ++ r ≡ ys → ys ≡ xs
  by [] e = sym e ∙ append-nil xs
  by (v ∷ r) e =
      let m : length (xs ++ v ∷ r) ≡ length ys = ap (λ (bs : List Bool). length bs) e in
      let n : length (ys ++ q.0) ≡ length xs = ap (λ (bs : List Bool). length bs) q.1 in
      let i : length (xs ++ v ∷ r) ≡ length xs + length (v ∷ r) = length-append xs (v ∷ r) in
      let j : length (ys ++ q.0) ≡ length ys + length q.0 = length-append ys q.0 in
      absurd (omega (arith, m, n, i, j))

-- ---- one place

abbrev pub IsPair : Life → List Bool → List Life → List (List Bool) → Type 0
IsPair x t [] handed = ⊥
IsPair x t (y ∷ lives) [] = ⊥
IsPair x t (y ∷ lives) (u ∷ handed) = ((x ≡ y) × (t ≡ u)) ⊎ IsPair x t lives handed

pub pair_there : (x : Life) (t : List Bool) (lives : List Life) (handed : List (List Bool)) → IsPair x t lives handed
    → Contains lives x
pair_there x t [] handed i = absurd i
pair_there x t (y ∷ lives) [] i = absurd i
pair_there x t (y ∷ lives) (u ∷ handed) (inl e) = (0, omega arith, sym e.0)
pair_there x t (y ∷ lives) (u ∷ handed) (inr i) =
    let c : Contains lives x = pair_there x t lives handed i in
    (suc c.0, (let l : c.0 < length lives = c.1 in omega (arith, l)), c.2)

pair_more : (x : Life) (t : List Bool) (lives : List Life) (handed : List (List Bool))
    (more : List Life) (rest : List (List Bool))
    → IsPair x t lives handed → IsPair x t (lives ++ more) (handed ++ rest)
pair_more x t [] handed more rest i = absurd i
pair_more x t (y ∷ lives) [] more rest i = absurd i
pair_more x t (y ∷ lives) (u ∷ handed) more rest (inl e) = inl e
pair_more x t (y ∷ lives) (u ∷ handed) more rest (inr i) = inr (pair_more x t lives handed more rest i)

-- what was sent is a prefix of what was handed over
pub pair_front : (x : Life) (t : List Bool) (lives : List Life) (handed : List (List Bool)) → AreHanded lives handed
    → IsPair x t lives handed
    → sends x ≡ true → IsPrefix x.bits t
pair_front x t [] handed h i s = absurd i
pair_front x t (y ∷ lives) [] h i s = absurd i
pair_front x t (y ∷ lives) (u ∷ handed) h (inl e) s =
    let f : sends y ≡ true = ap sends (sym e.0) ∙ s in
    let p : IsPrefix y.bits u = h.0 f in
    (p.0, ap (λ (z : Life). z.bits ++ p.0) e.0 ∙ p.1 ∙ sym e.1)
pair_front x t (y ∷ lives) (u ∷ handed) h (inr i) s = pair_front x t lives handed h.1 i s

-- ---- one request

pair_parted : (x : Life) (t : List Bool) (lives : List Life) (handed : List (List Bool)) → IsPair x t lives handed
    → (front : List Life) × (rest : List Life) × (lives ≡ front ++ x ∷ rest)
pair_parted x t [] handed i = absurd i
pair_parted x t (y ∷ lives) [] i = absurd i
pair_parted x t (y ∷ lives) (u ∷ handed) (inl e) = ([], lives, ap (λ (z : Life). z ∷ lives) (sym e.0))
pair_parted x t (y ∷ lives) (u ∷ handed) (inr i) =
    let r : (front : List Life) × (rest : List Life) × (lives ≡ front ++ x ∷ rest) = pair_parted x t lives handed i in
    (y ∷ r.0, r.1, ap (λ (zs : List Life). y ∷ zs) r.2)

two_first : (x y z : Life) (u : List Bool) (lives : List Life) (handed : List (List Bool)) → x ≡ z
    → IsPair y u lives handed → AreTwo (z ∷ lives) x y
two_first x y z u lives handed e i =
    let p : (front : List Life) × (rest : List Life) × (lives ≡ front ++ y ∷ rest) = pair_parted y u lives handed i in
    ([], p.0, p.1, ap (λ (w : Life). w ∷ lives) (sym e) ∙ ap (λ (ws : List Life). x ∷ ws) p.2)

-- two lives with one own request are at one place
pub pair_one : (x y : Life) (t u : List Bool) (lives : List Life) (handed : List (List Bool))
    → ((v w : Life) → AreTwo lives v w → own_request v ≡ own_request w → ⊥) → own_request x ≡ own_request y
    → IsPair x t lives handed → IsPair y u lives handed
    → (x ≡ y) × (t ≡ u)
pair_one x y t u [] handed once e i j = absurd i
pair_one x y t u (z ∷ lives) [] once e i j = absurd i
pair_one x y t u (z ∷ lives) (s ∷ handed) once e (inl i) (inl j) = (i.0 ∙ sym j.0, i.1 ∙ sym j.1)
pair_one x y t u (z ∷ lives) (s ∷ handed) once e (inl i) (inr j) =
    absurd (once x y (two_first x y z u lives handed i.0 j) e)
pair_one x y t u (z ∷ lives) (s ∷ handed) once e (inr i) (inl j) =
    absurd (once y x (two_first y x z t lives handed j.0 i) (sym e))
pair_one x y t u (z ∷ lives) (s ∷ handed) once e (inr i) (inr j) =
    pair_one x y t u lives handed
    (λ v w two. once v w (z ∷ two.0, two.1, two.2, ap (λ (ws : List Life). z ∷ ws) two.3)) e i j

-- ---- a life later

pub record Next (x y : Life) : Type 0 where
  pub host : y.host ≡ x.host
  pub peer : y.peer ≡ x.peer
  pub socket : y.socket ≡ x.socket
  pub foreign : y.foreign ≡ x.foreign
  pub stamp : y.own_stamp ≡ x.own_stamp
  pub over : x.ended ≡ true → y ≡ x
  pub front : IsPrefix x.bits y.bits

next_itself : (x : Life) → Next x x
next_itself x = record {
  host = refl;
  peer = refl;
  socket = refl;
  foreign = refl;
  stamp = refl;
  over = λ e. refl;
  front = ([], append-nil x.bits);
}

next_then : (x y z : Life) → Next x y → Next y z → Next x z
next_then x y z m n = record {
  host = n.host ∙ m.host;
  peer = n.peer ∙ m.peer;
  socket = n.socket ∙ m.socket;
  foreign = n.foreign ∙ m.foreign;
  stamp = n.stamp ∙ m.stamp;
  over = λ e. n.over (ap (λ (w : Life). w.ended) (m.over e) ∙ e) ∙ m.over e;
  front = prefix_more x.bits y.bits z.bits m.front n.front;
}

-- a life that isn't over is changed
going_then : (x y : Life) → x.ended ≡ false → y.host ≡ x.host → y.peer ≡ x.peer → y.socket ≡ x.socket
    → y.foreign ≡ x.foreign → y.own_stamp ≡ x.own_stamp
    → IsPrefix x.bits y.bits → Next x y
going_then x y goes host peer socket foreign stamp front = record {
  host = host;
  peer = peer;
  socket = socket;
  foreign = foreign;
  stamp = stamp;
  over = λ e. absurd (let no : true ≡ false = sym e ∙ goes in cc);
  front = front;
}

ending_then : (x : Life) → x.ended ≡ false → Next x (life_ended x)
ending_then x goes = going_then x _ goes refl refl refl refl refl ([], append-nil x.bits)

carried_then : (bits : List Bool) (x : Life) → x.ended ≡ false → Next x (carried bits x)
carried_then bits x goes = going_then x _ goes refl refl refl refl refl (bits, refl)

granted_then : (m n : ℕ) (x : Life) → x.ended ≡ false → Next x (granted m n x)
granted_then m n x goes = going_then x _ goes refl refl refl refl refl ([], append-nil x.bits)

returned_then : (m n : ℕ) (x : Life) → x.ended ≡ false → Next x (returned m n x)
returned_then m n x goes = going_then x _ goes refl refl refl refl refl ([], append-nil x.bits)

-- ---- each test is passed only by lives that aren't over

pub not_both : (b c : Bool) → (b && not c) ≡ true → c ≡ false
not_both b c t = not_is c (both b (not c) t).1

pub goes_at : (h : Host) (socket : ℕ) (x : Life) → lives_at h socket x ≡ true → x.ended ≡ false
goes_at h socket x t = not_both _ x.ended t

goes_between : (h : Host) (socket : ℕ) (p : Host) (foreign : ℕ) (x : Life) → lives_between h socket p foreign x ≡ true
    → x.ended ≡ false
goes_between h socket p foreign x t =
    goes_at h socket x
    (both (lives_at h socket x) (same_host p x.peer)
    (both (lives_at h socket x && same_host p x.peer) (x.foreign == foreign) t).0).0

pub goes_with : (h p : Host) (x : Life) → lives_with h p x ≡ true → x.ended ≡ false
goes_with h p x t = not_both _ x.ended t

pub goes_on : (h : Host) (x : Life) → lives_on h x ≡ true → x.ended ≡ false
goes_on h x t = not_both _ x.ended t

-- ---- both lists later

pub record Later (x : Life) (t : List Bool) (lives : List Life) (handed : List (List Bool)) : Type 0 where
  pub life : Life
  pub there : IsPair life t lives handed
  pub next : Next x life

as_is : (x : Life) (t : List Bool) (lives : List Life) (handed : List (List Bool)) → IsPair x t lives handed
    → Later x t lives handed
as_is x t lives handed i = record { life = x; there = i; next = next_itself x }

pair_where : (test : Life → Bool) (f : Life → Life) (x : Life) (t : List Bool)
    (lives : List Life) (handed : List (List Bool))
    → IsPair x t lives handed
    → IsPair (changed_when (test x) f x) t (where_it test f lives) handed
pair_where test f x t [] handed i = absurd i
pair_where test f x t (y ∷ lives) [] i = absurd i
pair_where test f x t (y ∷ lives) (u ∷ handed) (inl e) = inl (ap (λ (z : Life). changed_when (test z) f z) e.0, e.1)
pair_where test f x t (y ∷ lives) (u ∷ handed) (inr i) = inr (pair_where test f x t lives handed i)

later_where : (test : Life → Bool) (f : Life → Life) (x : Life) (t : List Bool)
    (lives : List Life) (handed : List (List Bool))
    → ((y : Life) → test y ≡ true → y.ended ≡ false) → ((y : Life) → y.ended ≡ false → Next y (f y))
    → IsPair x t lives handed
    → Later x t (where_it test f lives) handed
later_where test f x t lives handed goes changes i = record {
  life = changed_when (test x) f x;
  there = pair_where test f x t lives handed i;
  next = by (test x) refl;
} where
  by : (b : Bool) → test x ≡ b → Next x (changed_when b f x)
  by true e = changes x (goes x e)
  by false e = next_itself x

told_later : (h : Host) (n : Notice) (x : Life) (t : List Bool) (lives : List Life) (handed : List (List Bool))
    → IsPair x t lives handed
    → Later x t (lives_told h n lives) (handed_told n handed)
told_later h (notice.Opened socket peer foreign own partner) x t lives handed i =
    as_is x t _ _ (pair_more x t lives handed _ _ i)
told_later h (notice.Ended socket peer foreign) x t lives handed i =
    later_where _ life_ended x t lives handed
    (goes_between h socket peer foreign) ending_then i
told_later h (notice.PairReset peer) x t lives handed i =
    later_where _ life_ended x t lives handed (goes_with h peer) ending_then i
told_later h (notice.Sent socket bits) x t lives handed i =
    later_where _ _ x t lives handed (goes_at h socket) (carried_then bits) i
told_later h (notice.Arrived socket bits) x t lives handed i =
    later_where _ _ x t lives handed (goes_at h socket) (carried_then bits) i
told_later h (notice.Returned socket m n) x t lives handed i =
    later_where _ _ x t lives handed (goes_at h socket) (returned_then m n) i
told_later h n x t lives handed i = as_is x t lives handed i

all_later : (h : Host) (ns : List Notice) (k : Kept) (x : Life) (t : List Bool) → IsPair x t k.book.lives k.handed
    → Later x t (all_told h ns k).book.lives (all_told h ns k).handed
all_later h [] k x t i = as_is x t k.book.lives k.handed i
all_later h (n ∷ ns) k x t i =
    let one : Later x t (book_told h n k).book.lives (book_told h n k).handed =
    told_later h n x t k.book.lives k.handed i in
    let more : Later one.life t (all_told h ns _).book.lives (all_told h ns _).handed =
    all_later h ns (book_told h n k) one.life t one.there in
    record { life = more.life; there = more.there; next = next_then x one.life more.life one.next more.next }

crossed_later : (c : Crossing) (x : Life) (t : List Bool) (lives : List Life) (handed : List (List Bool))
    → IsPair x t lives handed → Later x t (lives_crossed c lives) handed
crossed_later (crossing.Down h) x t lives handed i =
    later_where _ life_ended x t lives handed (goes_on h) ending_then i
crossed_later c x t lives handed i = as_is x t lives handed i

-- nothing is handed over in a life
abbrev pub IsUnsent : Moment → Life → Type 0
IsUnsent (Asked h (request.Send socket bits)) x = lives_at h socket x ≡ false
IsUnsent y x = Unit {0}

pair_handed : (test : Life → Bool) (bits : List Bool) (x : Life) (t : List Bool)
    (lives : List Life) (handed : List (List Bool))
    → test x ≡ false
    → IsPair x t lives handed → IsPair x t lives (handed_to test bits lives handed)
pair_handed test bits x t [] handed off i = absurd i
pair_handed test bits x t (y ∷ lives) [] off i = absurd i
pair_handed test bits x t (y ∷ lives) (u ∷ handed) off (inl e) = by (test y) refl where
  by : (b : Bool) → test y ≡ b
      → ((x ≡ y) × (t ≡ (if b then u ++ bits else u))) ⊎ IsPair x t lives (handed_to test bits lives handed)
  by true is = absurd (let no : true ≡ false = sym is ∙ ap test (sym e.0) ∙ off in cc)
  by false is = inl e
pair_handed test bits x t (y ∷ lives) (u ∷ handed) off (inr i) = inr (pair_handed test bits x t lives handed off i)

asked_later : (h : Host) (r : Request) (x : Life) (t : List Bool) (lives : List Life) (handed : List (List Bool))
    → IsUnsent (Asked h r) x → IsPair x t lives handed
    → Later x t (lives_asked h r lives) (handed_asked h r lives handed)
asked_later h (request.Send socket bits) x t lives handed off i =
    as_is x t lives _ (pair_handed _ bits x t lives handed off i)
asked_later h (request.Grant socket m n) x t lives handed off i =
    later_where _ _ x t lives handed (goes_at h socket) (granted_then m n) i
asked_later h r x t lives handed off i = as_is x t lives handed i

kept_later : (y : Moment) (k : Kept) (x : Life) (t : List Bool) → IsUnsent y x → IsPair x t k.book.lives k.handed
    → Later x t (kept_by y k).book.lives (kept_by y k).handed
kept_later (Crossed c) k x t off i = crossed_later c x t k.book.lives k.handed i
kept_later (Asked h r) k x t off i = asked_later h r x t k.book.lives k.handed off i

only_later : (y : Moment) (k : Kept) (x : Life) (t : List Bool) → IsPair x t k.book.lives k.handed
    → Later x t (crossed_only y k).book.lives (crossed_only y k).handed
only_later (Crossed c) k x t i = crossed_later c x t k.book.lives k.handed i
only_later (Asked h r) k x t i = as_is x t k.book.lives k.handed i

own_later : (y : Moment) (ms : List Moment) (k : Kept) (x : Life) (t : List Bool) → IsUnsent y x
    → IsPair x t k.book.lives k.handed
    → Later x t (all_told (host_in y) (notices_by y ms) (kept_by y k)).book.lives (all_told (host_in y) (notices_by y ms) (kept_by y k)).handed
own_later y ms k x t off i =
    let one : Later x t (kept_by y k).book.lives (kept_by y k).handed = kept_later y k x t off i in
    let more : Later one.life t (all_told (host_in y) (notices_by y ms) (kept_by y k)).book.lives (all_told (host_in y) (notices_by y ms) (kept_by y k)).handed =
    all_later (host_in y) (notices_by y ms) (kept_by y k) one.life t one.there in
    record { life = more.life; there = more.there; next = next_then x one.life more.life one.next more.next }

pub moment_later : (strange : Host → Bool) (y : Moment) (ms : List Moment) (x : Life) (t : List Bool)
    → (strange (host_in y) ≡ false → IsUnsent y x)
    → IsPair x t (mixed_kept strange ms).book.lives (mixed_kept strange ms).handed
    → Later x t (mixed_kept strange (y ∷ ms)).book.lives (mixed_kept strange (y ∷ ms)).handed
moment_later strange y ms x t off i = by (strange (host_in y)) refl where
  k : Kept
  k = mixed_kept strange ms

  after : Bool → Kept
  after v = if v then crossed_only y (mixed_kept strange ms) else all_told (host_in y) (notices_by y ms) (kept_by y (mixed_kept strange ms))

  by : (v : Bool) → strange (host_in y) ≡ v → Later x t (after v).book.lives (after v).handed
  by true on = only_later y k x t i
  by false plain = own_later y ms k x t (off plain) i

-- ---- lives between hosts with programs, and what was handed over in them

module _ (strange : Host → Bool) where
  pub pair_among : (x : Life) (t : List Bool) (lives : List Life) (handed : List (List Bool))
      → is_among strange x ≡ true
      → IsPair x t lives handed → IsPair x t (lives_among strange lives) (beside_among strange lives handed)
  pair_among x t [] handed is i = absurd i
  pair_among x t (y ∷ lives) [] is i = absurd i
  pair_among x t (y ∷ lives) (u ∷ handed) is i = by (is_among strange y) refl i (pair_among x t lives handed is) where
    by : (b : Bool) → is_among strange y ≡ b → IsPair x t (y ∷ lives) (u ∷ handed)
        → (IsPair x t lives handed → IsPair x t (lives_among strange lives) (beside_among strange lives handed))
        → IsPair x t (if b then y ∷ lives_among strange lives else lives_among strange lives) (if b then u ∷ beside_among strange lives handed else beside_among strange lives handed)
    by true e (inl here) rest = inl here
    by true e (inr later) rest = inr (rest later)
    by false e (inl here) rest = absurd (let no : true ≡ false = sym is ∙ ap (is_among strange) here.0 ∙ e in cc)
    by false e (inr later) rest = rest later

  pub handed_among : (lives : List Life) (handed : List (List Bool)) → AreHanded lives handed
      → AreHanded (lives_among strange lives) (beside_among strange lives handed)
  handed_among [] handed h = h
  handed_among (y ∷ lives) [] h = absurd h
  handed_among (y ∷ lives) (u ∷ handed) h = by (is_among strange y) (handed_among lives handed h.1) where
    by : (b : Bool) → AreHanded (lives_among strange lives) (beside_among strange lives handed)
        → AreHanded (if b then y ∷ lives_among strange lives else lives_among strange lives) (if b then u ∷ beside_among strange lives handed else beside_among strange lives handed)
    by true rest = (h.0, rest)
    by false rest = rest
