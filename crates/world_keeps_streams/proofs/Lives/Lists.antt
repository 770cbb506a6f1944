-- Lists of lives: what is in them, and how they grow by a moment.
use Rattle.world_keeps_streams.proofs.Common.{Contains, append_assoc, map-append, Host, same_host, Crossing, Notice, Request, Moment, Crossed, Asked, map_two}
use Rattle.std.proofs.Common.{◌≡◌, ◌⊎◌, inl, inr, ℕ, zero, suc, ◌<◌, ◌≤◌, ◌==◌, ◌&&◌, Bool, true, false, not, List, [], ◌∷◌, ◌++◌, length, map, take, drop, slice_index_or, refl, ap, sym, ◌∙◌, arith, append-nil}
use Rattle.net_sim.specs.Book.{Kept, all_told, carried, changed_when, life_ended, lives_asked, lives_at, lives_between, lives_crossed, lives_on, lives_told, lives_with, new_life, book_told, where_it, granted, returned}
use Rattle.net_sim.specs.Told.{host_in, kept_by, notices_by, kept_in}
use Rattle.interface.specs.declared.crossing.Crossing.TheVariants as crossing
use Rattle.host_pairs.specs.declared.notice.Notice.TheVariants as notice
use Rattle.sockets.specs.declared.request.Request.TheVariants as request
use Rattle.promise.specs.declared.life.Life.{Life}
use Rattle.promise.specs.Safe.{AreTwo}

-- ---- a life of a list

abbrev pub IsOf : Life → List Life → Type 0
IsOf x [] = ⊥
IsOf x (y ∷ ys) = (x ≡ y) ⊎ IsOf x ys

of_at : (x : Life) (ys : List Life) (k : ℕ) → k < length ys → slice_index_or ys k x ≡ x → IsOf x ys
of_at x [] k l e = absurd (omega (arith, l))
of_at x (y ∷ ys) zero l e = inl (sym e)
of_at x (y ∷ ys) (suc k) l e = inr (of_at x ys k (omega (arith, l)) e)

pub is_of : (x : Life) (ys : List Life) → Contains ys x → IsOf x ys
is_of x ys c = of_at x ys c.0 c.1 c.2

pub contains : (x : Life) (ys : List Life) → IsOf x ys → Contains ys x
contains x [] i = absurd i
contains x (y ∷ ys) (inl e) = (0, omega arith, sym e)
contains x (y ∷ ys) (inr i) = let c : Contains ys x = contains x ys i in (suc c.0, (let l : c.0 < length ys = c.1 in omega (arith, l)), c.2)

pub of_left : (x : Life) (xs ys : List Life) → IsOf x xs → IsOf x (xs ++ ys)
of_left x [] ys i = absurd i
of_left x (z ∷ xs) ys (inl e) = inl e
of_left x (z ∷ xs) ys (inr i) = inr (of_left x xs ys i)

pub of_right : (x : Life) (xs ys : List Life) → IsOf x ys → IsOf x (xs ++ ys)
of_right x [] ys i = i
of_right x (z ∷ xs) ys i = inr (of_right x xs ys i)

pub of_either : (x : Life) (xs ys : List Life) → IsOf x (xs ++ ys) → IsOf x xs ⊎ IsOf x ys
of_either x [] ys i = inr i
of_either x (z ∷ xs) ys (inl e) = inl (inl e)
of_either x (z ∷ xs) ys (inr i) = elim (of_either x xs ys i) [
  | inl l ↦ inl (inr l)
  | inr r ↦ inr r
]

pub of_map : (f : Life → Life) (x : Life) (xs : List Life) → IsOf x xs → IsOf (f x) (map f xs)
of_map f x [] i = absurd i
of_map f x (y ∷ xs) (inl e) = inl (ap f e)
of_map f x (y ∷ xs) (inr i) = inr (of_map f x xs i)

pub of_mapped : (f : Life → Life) (y : Life) (xs : List Life) → IsOf y (map f xs) → (x : Life) × IsOf x xs × (y ≡ f x)
of_mapped f y [] i = absurd i
of_mapped f y (x ∷ xs) (inl e) = (x, inl refl, e)
of_mapped f y (x ∷ xs) (inr i) = let r : (z : Life) × IsOf z xs × (y ≡ f z) = of_mapped f y xs i in (r.0, inr r.1, r.2)

pub of_take : (n : ℕ) (x : Life) (xs : List Life) → IsOf x (take n xs) → IsOf x xs
of_take zero x [] i = i
of_take zero x (y ∷ xs) i = absurd i
of_take (suc n) x [] i = i
of_take (suc n) x (y ∷ xs) (inl e) = inl e
of_take (suc n) x (y ∷ xs) (inr i) = inr (of_take n x xs i)

pub of_drop : (n : ℕ) (x : Life) (xs : List Life) → IsOf x (drop n xs) → IsOf x xs
of_drop zero x xs i = i
of_drop (suc n) x [] i = i
of_drop (suc n) x (y ∷ xs) i = inr (of_drop n x xs i)

pub of_parts : (n : ℕ) (x : Life) (xs : List Life) → IsOf x xs → IsOf x (take n xs) ⊎ IsOf x (drop n xs)
of_parts zero x xs i = inr i
of_parts (suc n) x [] i = absurd i
of_parts (suc n) x (y ∷ xs) (inl e) = inl (inl e)
of_parts (suc n) x (y ∷ xs) (inr i) = elim (of_parts n x xs i) [
  | inl l ↦ inl (inr l)
  | inr r ↦ inr r
]

pub take_grown : (f : Life → Life) (n : ℕ) (xs more : List Life) → n ≤ length xs → take n (map f xs ++ more) ≡ map f (take n xs)
take_grown f zero xs more l = none (map f xs ++ more) ∙ sym (ap (map f) (none xs)) where
  none : (ys : List Life) → take 0 ys ≡ []
  none [] = refl
  none (y ∷ ys) = refl
take_grown f (suc n) [] more l = absurd (omega (arith, l))
take_grown f (suc n) (x ∷ xs) more l = ap (λ (ys : List Life). f x ∷ ys) (take_grown f n xs more (omega (arith, l)))

pub drop_grown : (f : Life → Life) (n : ℕ) (xs more : List Life) → n ≤ length xs → drop n (map f xs ++ more) ≡ map f (drop n xs) ++ more
drop_grown f zero xs more l = refl
drop_grown f (suc n) [] more l = absurd (omega (arith, l))
drop_grown f (suc n) (x ∷ xs) more l = drop_grown f n xs more (omega (arith, l))

-- two of a list are one, or are at two places of it
parted : (v : Life) (vs : List Life) → IsOf v vs → (front : List Life) × (rest : List Life) × (vs ≡ front ++ v ∷ rest)
parted v [] i = absurd i
parted v (w ∷ vs) (inl e) = ([], vs, ap (λ (u : Life). u ∷ vs) (sym e))
parted v (w ∷ vs) (inr i) = let r : (front : List Life) × (rest : List Life) × (vs ≡ front ++ v ∷ rest) = parted v vs i in (w ∷ r.0, r.1, ap (λ (us : List Life). w ∷ us) r.2)

two_first : (x y z : Life) (xs : List Life) → x ≡ z → IsOf y xs → AreTwo (z ∷ xs) x y
two_first x y z xs e j =
    let p : (front : List Life) × (rest : List Life) × (xs ≡ front ++ y ∷ rest) = parted y xs j in
    ([], p.0, p.1, ap (λ (u : Life). u ∷ xs) (sym e) ∙ ap (λ (us : List Life). x ∷ us) p.2)

-- one that is before a place and after it
pub of_both : (n : ℕ) (x : Life) (xs : List Life) → IsOf x (take n xs) → IsOf x (drop n xs) → AreTwo xs x x
of_both zero x [] i j = absurd i
of_both zero x (y ∷ ys) i j = absurd i
of_both (suc n) x [] i j = absurd i
of_both (suc n) x (y ∷ ys) (inl e) j = two_first x x y ys e (of_drop n x ys j)
of_both (suc n) x (y ∷ ys) (inr i) j = let t : AreTwo ys x x = of_both n x ys i j in (y ∷ t.0, t.1, t.2, ap (λ (us : List Life). y ∷ us) t.3)

-- of all lives
pub of_whole : (x : Life) (xs : List Life) → IsOf x xs → IsOf x (take (length xs) xs)
of_whole x [] i = absurd i
of_whole x (y ∷ ys) (inl e) = inl e
of_whole x (y ∷ ys) (inr i) = inr (of_whole x ys i)

pub one_or_two : (x y : Life) (xs : List Life) → IsOf x xs → IsOf y xs → (x ≡ y) ⊎ (AreTwo xs x y ⊎ AreTwo xs y x)
one_or_two x y [] i j = absurd i
one_or_two x y (z ∷ xs) (inl e) (inl f) = inl (e ∙ sym f)
one_or_two x y (z ∷ xs) (inl e) (inr j) = inr (inl (two_first x y z xs e j))
one_or_two x y (z ∷ xs) (inr i) (inl f) = inr (inr (two_first y x z xs f i))
one_or_two x y (z ∷ xs) (inr i) (inr j) = elim (one_or_two x y xs i j) [
  | inl e ↦ inl e
  | inr two ↦ elim two [
    | inl l ↦ inr (inl (z ∷ l.0, l.1, l.2, ap (λ (us : List Life). z ∷ us) l.3))
    | inr r ↦ inr (inr (z ∷ r.0, r.1, r.2, ap (λ (us : List Life). z ∷ us) r.3))
  ]
]

-- ---- a list that grows: each life keeps its names, and one that has ended changes no more

pub record Named (x y : Life) : Type 0 where
  pub host : y.host ≡ x.host
  pub socket : y.socket ≡ x.socket
  pub peer : y.peer ≡ x.peer
  pub foreign : y.foreign ≡ x.foreign
  pub own : y.own_stamp ≡ x.own_stamp
  pub partner : y.partner_stamp ≡ x.partner_stamp

pub named_itself : (x : Life) → Named x x
named_itself x = record { host = refl; socket = refl; peer = refl; foreign = refl; own = refl; partner = refl }

pub record Grown (old new : List Life) : Type 0 where
  pub change : Life → Life
  pub more : List Life
  pub is : new ≡ map change old ++ more
  pub names : (x : Life) → Named x (change x)
  pub still : (x : Life) → x.ended ≡ true → change x ≡ x
  pub counts : (x : Life) → x.messages ≤ (change x).messages

pub map_itself : (xs : List Life) → map (λ (x : Life). x) xs ≡ xs
map_itself [] = refl
map_itself (x ∷ xs) = ap (λ (ys : List Life). x ∷ ys) (map_itself xs)

grown_more : (xs ys : List Life) → Grown xs (xs ++ ys)
grown_more xs ys = record { change = λ x. x; more = ys; is = ap (λ (l : List Life). l ++ ys) (sym (map_itself xs)); names = named_itself; still = λ x e. refl; counts = λ x. omega arith }

grown_none : (xs : List Life) → Grown xs xs
grown_none xs = record { change = λ x. x; more = []; is = sym (append-nil (map (λ (x : Life). x) xs) ∙ map_itself xs); names = named_itself; still = λ x e. refl; counts = λ x. omega arith }

grown_on : (xs ys zs : List Life) → Grown xs ys → Grown ys zs → Grown xs zs
grown_on xs ys zs g h = record {
  change = λ x. h.change (g.change x);
  more = map h.change g.more ++ h.more;
  is = h.is ∙ ap (λ (l : List Life). map h.change l ++ h.more) g.is
      ∙ ap (λ (l : List Life). l ++ h.more) (map-append h.change (map g.change xs) g.more ∙ ap (λ (l : List Life). l ++ map h.change g.more) (map_two g.change h.change xs))
      ∙ append_assoc (map (λ (x : Life). h.change (g.change x)) xs) (map h.change g.more) h.more;
  names = λ x. record {
    host = (h.names (g.change x)).host ∙ (g.names x).host;
    socket = (h.names (g.change x)).socket ∙ (g.names x).socket;
    peer = (h.names (g.change x)).peer ∙ (g.names x).peer;
    foreign = (h.names (g.change x)).foreign ∙ (g.names x).foreign;
    own = (h.names (g.change x)).own ∙ (g.names x).own;
    partner = (h.names (g.change x)).partner ∙ (g.names x).partner;
  };
  still = λ x e. ap h.change (g.still x e) ∙ h.still x e;
  counts = λ x.
      (let first : x.messages ≤ (g.change x).messages = g.counts x in
      let next : (g.change x).messages ≤ (h.change (g.change x)).messages = h.counts (g.change x) in
      omega (arith, first, next));
}

-- a change of those that pass a test, which none that has ended does
grown_where : (test : Life → Bool) (f : Life → Life) (xs : List Life) → ((x : Life) → Named x (f x)) → ((x : Life) → x.messages ≤ (f x).messages) → ((x : Life) → x.ended ≡ true → test x ≡ false) → Grown xs (where_it test f xs)
grown_where test f xs names more off = record {
  change = λ x. changed_when (test x) f x;
  more = [];
  is = sym (append-nil (where_it test f xs));
  names = λ x. when x (test x);
  still = λ x e. ap (λ (v : Bool). changed_when v f x) (off x e);
  counts = λ x. no_less x (test x);
} where
  when : (x : Life) (v : Bool) → Named x (changed_when v f x)
  when x true = names x
  when x false = named_itself x

  no_less : (x : Life) (v : Bool) → x.messages ≤ (changed_when v f x).messages
  no_less x true = more x
  no_less x false = omega arith

and_off : (v w : Bool) → w ≡ true → (v && not w) ≡ false
and_off true w e = ap not e
and_off false w e = refl

pub at_off : (h : Host) (socket : ℕ) (x : Life) → x.ended ≡ true → lives_at h socket x ≡ false
at_off h socket x e = rw e (by (same_host h x.host) (x.socket == socket)) where
  by : (v w : Bool) → (v && w && false) ≡ false
  by true true = refl
  by true false = refl
  by false w = refl

between_off : (h : Host) (socket : ℕ) (peer : Host) (foreign : ℕ) (x : Life) → x.ended ≡ true → lives_between h socket peer foreign x ≡ false
between_off h socket peer foreign x e = rw (at_off h socket x e) refl

with_off : (h peer : Host) (x : Life) → x.ended ≡ true → lives_with h peer x ≡ false
with_off h peer x e = rw e (by (same_host h x.host) (same_host peer x.peer)) where
  by : (v w : Bool) → (v && w && false) ≡ false
  by true true = refl
  by true false = refl
  by false w = refl

on_off : (h : Host) (x : Life) → x.ended ≡ true → lives_on h x ≡ false
on_off h x e = and_off _ x.ended e

grown_told : (h : Host) (n : Notice) (xs : List Life) → Grown xs (lives_told h n xs)
grown_told h (notice.Opened socket peer foreign own partner) xs = grown_more xs _
grown_told h (notice.Ended socket peer foreign) xs = grown_where _ life_ended xs (λ x. record { host = refl; socket = refl; peer = refl; foreign = refl; own = refl; partner = refl }) (λ x. omega arith) (between_off h socket peer foreign)
grown_told h (notice.PairReset peer) xs = grown_where _ life_ended xs (λ x. record { host = refl; socket = refl; peer = refl; foreign = refl; own = refl; partner = refl }) (λ x. omega arith) (with_off h peer)
grown_told h (notice.Sent socket bits) xs = grown_where _ _ xs (λ x. record { host = refl; socket = refl; peer = refl; foreign = refl; own = refl; partner = refl }) (λ x. omega arith) (at_off h socket)
grown_told h (notice.Arrived socket bits) xs = grown_where _ _ xs (λ x. record { host = refl; socket = refl; peer = refl; foreign = refl; own = refl; partner = refl }) (λ x. omega arith) (at_off h socket)
grown_told h (notice.Returned socket messages bits) xs = grown_where _ _ xs (λ x. record { host = refl; socket = refl; peer = refl; foreign = refl; own = refl; partner = refl }) (λ x. omega arith) (at_off h socket)
grown_told h n xs = grown_none xs

grown_all_told : (h : Host) (ns : List Notice) (k : Kept) → Grown k.book.lives (all_told h ns k).book.lives
grown_all_told h [] k = grown_none k.book.lives
grown_all_told h (n ∷ ns) k = grown_on k.book.lives _ _ (grown_told h n k.book.lives) (grown_all_told h ns (book_told h n k))

grown_crossed : (c : Crossing) (xs : List Life) → Grown xs (lives_crossed c xs)
grown_crossed (crossing.Down h) xs = grown_where _ life_ended xs (λ x. record { host = refl; socket = refl; peer = refl; foreign = refl; own = refl; partner = refl }) (λ x. omega arith) (on_off h)
grown_crossed c xs = grown_none xs

grown_asked : (h : Host) (r : Request) (xs : List Life) → Grown xs (lives_asked h r xs)
grown_asked h (request.Grant socket messages bits) xs = grown_where _ _ xs (λ x. record { host = refl; socket = refl; peer = refl; foreign = refl; own = refl; partner = refl }) (λ x. omega arith) (at_off h socket)
grown_asked h r xs = grown_none xs

grown_by : (y : Moment) (k : Kept) → Grown k.book.lives (kept_by y k).book.lives
grown_by (Crossed c) k = grown_crossed c k.book.lives
grown_by (Asked h r) k = grown_asked h r k.book.lives

-- by each moment the lives of the book grow so
pub grown : (y : Moment) (ms : List Moment) → Grown (kept_in ms).book.lives (kept_in (y ∷ ms)).book.lives
grown y ms =
    grown_on (kept_in ms).book.lives (kept_by y (kept_in ms)).book.lives (kept_in (y ∷ ms)).book.lives (grown_by y (kept_in ms)) (grown_all_told (host_in y) (notices_by y ms) (kept_by y (kept_in ms)))
