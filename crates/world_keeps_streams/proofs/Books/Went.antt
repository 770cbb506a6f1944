-- A life and what was handed over in it, back to earlier moments: at one of these it wasn't over, or it was there at the first; or nothing was handed over.
use Rattle.world_keeps_streams.proofs.Common.{◌≡◌, ◌⊎◌, inl, inr, ℕ, suc, ◌+◌, Bool, true, false, if◌then◌else◌, List, [], ◌∷◌, ◌++◌, length, refl, ap, sym, ◌∙◌, arith, length-append, Host, Notice, IsBeside, Asked, Crossed, Moment}
use Rattle.net_sim.specs.Book.{Kept, all_told, book_told, carried, changed_when, life_ended, lives_at, lives_between, lives_on, lives_with, new_life, where_it, granted, handed_to, returned}
use Rattle.net_sim.specs.Told.{host_in, kept_by, notices_by, kept_in}
use Rattle.interface.specs.declared.crossing.Crossing.TheVariants as crossing
use Rattle.host_pairs.specs.declared.notice.Notice.TheVariants as notice
use Rattle.sockets.specs.declared.request.Request.TheVariants as request
use Rattle.promise.specs.declared.life.Life.{Life}
use Rattle.world_keeps_streams.proofs.Lives.Fates.{beside_of, was_life}
use Rattle.world_keeps_streams.proofs.Lives.Lists.{IsOf, Named, at_off, named_itself}
use Rattle.world_keeps_streams.proofs.Requests.Sides.{lives_in}
use Rattle.world_keeps_streams.proofs.Carried.Owned.{where_length}

-- ---- names

pub named_then : (x y z : Life) → Named x y → Named y z → Named x z
named_then x y z m n = record {
  host = n.host ∙ m.host;
  socket = n.socket ∙ m.socket;
  peer = n.peer ∙ m.peer;
  foreign = n.foreign ∙ m.foreign;
  own = n.own ∙ m.own;
  partner = n.partner ∙ m.partner;
}

named_when : (v : Bool) (f : Life → Life) (x : Life) → ((z : Life) → Named z (f z)) → Named x (changed_when v f x)
named_when true f x names = names x
named_when false f x names = named_itself x

-- ---- there are as many lists as lives

to_long : (test : Life → Bool) (bits : List Bool) (lives : List Life) (handed : List (List Bool)) → length handed ≡ length lives → length (handed_to test bits lives handed) ≡ length lives
to_long test bits [] handed e = e
to_long test bits (x ∷ lives) [] e = e
to_long test bits (x ∷ lives) (t ∷ handed) e = ap (λ (n : ℕ). suc n) (to_long test bits lives handed (omega (arith, e)))

abbrev IsEven : Kept → Type 0
IsEven k = length k.handed ≡ length k.book.lives

even_told : (h : Host) (n : Notice) (k : Kept) → IsEven k → IsEven (book_told h n k)
even_told h (notice.Opened socket peer foreign own partner) k e =
    let a : length (k.handed ++ [] ∷ []) ≡ length k.handed + 1 = length-append k.handed ([] ∷ []) in
    let b : length (k.book.lives ++ new_life h socket peer foreign own partner ∷ []) ≡ length k.book.lives + 1 = length-append k.book.lives (new_life h socket peer foreign own partner ∷ []) in
    a ∙ ap (λ (n : ℕ). n + 1) e ∙ sym b
even_told h (notice.Ended socket peer foreign) k e = e ∙ sym (where_length (lives_between h socket peer foreign) life_ended k.book.lives)
even_told h (notice.PairReset peer) k e = e ∙ sym (where_length (lives_with h peer) life_ended k.book.lives)
even_told h (notice.Sent socket bits) k e = e ∙ sym (where_length (lives_at h socket) (carried bits) k.book.lives)
even_told h (notice.Arrived socket bits) k e = e ∙ sym (where_length (lives_at h socket) (carried bits) k.book.lives)
even_told h (notice.Returned socket m b) k e = e ∙ sym (where_length (lives_at h socket) (returned m b) k.book.lives)
even_told h n k e = e

even_all : (h : Host) (ns : List Notice) (k : Kept) → IsEven k → IsEven (all_told h ns k)
even_all h [] k e = e
even_all h (n ∷ ns) k e = even_all h ns (book_told h n k) (even_told h n k e)

even_by : (y : Moment) (k : Kept) → IsEven k → IsEven (kept_by y k)
even_by (Crossed (crossing.Down h)) k e = e ∙ sym (where_length (lives_on h) life_ended k.book.lives)
even_by (Crossed c) k e = e
even_by (Asked h (request.Send socket bits)) k e = to_long (lives_at h socket) bits k.book.lives k.handed e
even_by (Asked h (request.Grant socket m b)) k e = e ∙ sym (where_length (lives_at h socket) (granted m b) k.book.lives)
even_by (Asked h r) k e = e

even : (ms : List Moment) → IsEven (kept_in ms)
even [] = refl
even (y ∷ ms) = even_all (host_in y) (notices_by y ms) (kept_by y (kept_in ms)) (even_by y (kept_in ms) (even ms))

-- ---- notices

-- it was there with this list, or the list has nothing
abbrev WasTold : Kept → Life → List Bool → Type 0
WasTold k s t = ((x : Life) × IsBeside x t k.book.lives k.handed × Named x s) ⊎ (t ≡ [])

was_where : (k : Kept) (test : Life → Bool) (f : Life → Life) (s : Life) (t : List Bool) → ((z : Life) → Named z (f z)) → IsBeside s t (where_it test f k.book.lives) k.handed → WasTold k s t
was_where k test f s t names i =
    let w : (x : Life) × IsBeside x t k.book.lives k.handed × (s ≡ changed_when (test x) f x) = was_life test f k.book.lives k.handed s t i in
    inl (w.0, w.1, named_to w.0 _ s (sym w.2) (named_when _ f w.0 names)) where
      named_to : (x y z : Life) → y ≡ z → Named x y → Named x z
      named_to x y z e n = record {
        host = ap (λ (v : Life). v.host) (sym e) ∙ n.host;
        socket = ap (λ (v : Life). v.socket) (sym e) ∙ n.socket;
        peer = ap (λ (v : Life). v.peer) (sym e) ∙ n.peer;
        foreign = ap (λ (v : Life). v.foreign) (sym e) ∙ n.foreign;
        own = ap (λ (v : Life). v.own_stamp) (sym e) ∙ n.own;
        partner = ap (λ (v : Life). v.partner_stamp) (sym e) ∙ n.partner;
      }

was_more : (lives : List Life) (handed : List (List Bool)) (n s : Life) (t : List Bool) → length handed ≡ length lives → IsBeside s t (lives ++ n ∷ []) (handed ++ [] ∷ []) → IsBeside s t lives handed ⊎ (t ≡ [])
was_more [] [] n s t e (inl i) = inr i.1
was_more [] [] n s t e (inr i) = absurd i
was_more [] (u ∷ handed) n s t e i = absurd (omega (arith, e))
was_more (x ∷ lives) [] n s t e i = absurd (omega (arith, e))
was_more (x ∷ lives) (u ∷ handed) n s t e (inl i) = inl (inl i)
was_more (x ∷ lives) (u ∷ handed) n s t e (inr i) = elim (was_more lives handed n s t (omega (arith, e)) i) [
  | inl old ↦ inl (inr old)
  | inr none ↦ inr none
]

was_told : (h : Host) (n : Notice) (k : Kept) (s : Life) (t : List Bool) → IsEven k → IsBeside s t (book_told h n k).book.lives (book_told h n k).handed → WasTold k s t
was_told h (notice.Opened socket peer foreign own partner) k s t e i = elim (was_more k.book.lives k.handed (new_life h socket peer foreign own partner) s t e i) [
  | inl old ↦ inl (s, old, named_itself s)
  | inr none ↦ inr none
]
was_told h (notice.Ended socket peer foreign) k s t e i =
    was_where k (lives_between h socket peer foreign) life_ended s t (λ z. record { host = refl; socket = refl; peer = refl; foreign = refl; own = refl; partner = refl }) i
was_told h (notice.PairReset peer) k s t e i =
    was_where k (lives_with h peer) life_ended s t (λ z. record { host = refl; socket = refl; peer = refl; foreign = refl; own = refl; partner = refl }) i
was_told h (notice.Sent socket bits) k s t e i =
    was_where k (lives_at h socket) (carried bits) s t (λ z. record { host = refl; socket = refl; peer = refl; foreign = refl; own = refl; partner = refl }) i
was_told h (notice.Arrived socket bits) k s t e i =
    was_where k (lives_at h socket) (carried bits) s t (λ z. record { host = refl; socket = refl; peer = refl; foreign = refl; own = refl; partner = refl }) i
was_told h (notice.Returned socket m b) k s t e i =
    was_where k (lives_at h socket) (returned m b) s t (λ z. record { host = refl; socket = refl; peer = refl; foreign = refl; own = refl; partner = refl }) i
was_told h n k s t e i = inl (s, i, named_itself s)

all_was : (h : Host) (ns : List Notice) (k : Kept) (s : Life) (t : List Bool) → IsEven k → IsBeside s t (all_told h ns k).book.lives (all_told h ns k).handed → WasTold k s t
all_was h [] k s t e i = inl (s, i, named_itself s)
all_was h (n ∷ ns) k s t e i = by (all_was h ns (book_told h n k) s t (even_told h n k e) i) where
  first : (z : Life) → Named z s → WasTold k z t → WasTold k s t
  first z names (inl o) = inl (o.0, o.1, named_then o.0 z s o.2 names)
  first z names (inr none) = inr none

  by : WasTold (book_told h n k) s t → WasTold k s t
  by (inl o) = first o.0 o.2 (was_told h n k o.0 t e o.1)
  by (inr none) = inr none

-- ---- the moment itself

-- it was there, and where it was over with this list
pub record WasBeside (lives : List Life) (handed : List (List Bool)) (s : Life) (t : List Bool) : Type 0 where
  pub life : Life
  pub text : List Bool
  pub there : IsBeside life text lives handed
  pub names : Named life s
  pub over : life.ended ≡ true → t ≡ text

was_to : (test : Life → Bool) (bits : List Bool) (lives : List Life) (handed : List (List Bool)) (s : Life) (t : List Bool) → IsBeside s t lives (handed_to test bits lives handed)
    → (u : List Bool) × IsBeside s u lives handed × (test s ≡ false → t ≡ u)
was_to test bits [] handed s t i = absurd i
was_to test bits (x ∷ lives) [] s t i = absurd i
was_to test bits (x ∷ lives) (u ∷ handed) s t (inl e) = (u, inl (e.0, refl), λ off. e.1 ∙ ap (λ (v : Bool). if v then u ++ bits else u) (ap test (sym e.0) ∙ off))
was_to test bits (x ∷ lives) (u ∷ handed) s t (inr i) = let w : (v : List Bool) × IsBeside s v lives handed × (test s ≡ false → t ≡ v) = was_to test bits lives handed s t i in (w.0, inr w.1, w.2)

from_told : (k : Kept) (s : Life) (t : List Bool) → WasTold k s t → WasBeside k.book.lives k.handed s t ⊎ (t ≡ [])
from_told k s t (inl o) = inl (record { life = o.0; text = t; there = o.1; names = o.2; over = λ e. refl })
from_told k s t (inr none) = inr none

by_was : (y : Moment) (k : Kept) (s : Life) (t : List Bool) → IsBeside s t (kept_by y k).book.lives (kept_by y k).handed → WasBeside k.book.lives k.handed s t ⊎ (t ≡ [])
by_was (Crossed (crossing.Down h)) k s t i =
    from_told k s t (was_where k (lives_on h) life_ended s t (λ z. record { host = refl; socket = refl; peer = refl; foreign = refl; own = refl; partner = refl }) i)
by_was (Crossed c) k s t i = from_told k s t (inl (s, i, named_itself s))
by_was (Asked h (request.Send socket bits)) k s t i =
    let w : (u : List Bool) × IsBeside s u k.book.lives k.handed × (lives_at h socket s ≡ false → t ≡ u) = was_to (lives_at h socket) bits k.book.lives k.handed s t i in
    inl (record { life = s; text = w.0; there = w.1; names = named_itself s; over = λ e. w.2 (at_off h socket s e) })
by_was (Asked h (request.Grant socket m b)) k s t i =
    from_told k s t (was_where k (lives_at h socket) (granted m b) s t (λ z. record { host = refl; socket = refl; peer = refl; foreign = refl; own = refl; partner = refl }) i)
by_was (Asked h r) k s t i = from_told k s t (inl (s, i, named_itself s))

-- by a moment a life has come from one that was there, or nothing was handed over in it
moment_was : (y : Moment) (ms : List Moment) (s : Life) (t : List Bool) → IsBeside s t (kept_in (y ∷ ms)).book.lives (kept_in (y ∷ ms)).handed → WasBeside (kept_in ms).book.lives (kept_in ms).handed s t ⊎ (t ≡ [])
moment_was y ms s t i = by (all_was (host_in y) (notices_by y ms) (kept_by y (kept_in ms)) s t (even_by y (kept_in ms) (even ms)) i) where
  first : (z : Life) → Named z s → WasBeside (kept_in ms).book.lives (kept_in ms).handed z t ⊎ (t ≡ []) → WasBeside (kept_in ms).book.lives (kept_in ms).handed s t ⊎ (t ≡ [])
  first z names (inl w) = inl (record { life = w.life; text = w.text; there = w.there; names = named_then w.life z s w.names names; over = w.over })
  first z names (inr none) = inr none

  by : WasTold (kept_by y (kept_in ms)) s t → WasBeside (kept_in ms).book.lives (kept_in ms).handed s t ⊎ (t ≡ [])
  by (inl o) = first o.0 o.2 (by_was y (kept_in ms) o.0 t o.1)
  by (inr none) = inr none

-- ---- back to some moments

-- at some moment since then it wasn't over
pub record Went (newer older : List Moment) (s : Life) : Type 0 where
  pub later : List Moment
  pub since : List Moment
  pub is : newer ≡ later ++ since
  pub life : Life
  pub there : IsOf life (lives_in (since ++ older))
  pub goes : life.ended ≡ false
  pub names : Named life s

-- it was there then
pub record WasThere (older : List Moment) (s : Life) : Type 0 where
  pub life : Life
  pub there : IsOf life (lives_in older)
  pub names : Named life s

abbrev pub WentOrWas : List Moment → List Moment → Life → List Bool → Type 0
WentOrWas newer older s t = (t ≡ []) ⊎ (WasThere older s ⊎ Went newer older s)

went_on : (y : Moment) (newer older : List Moment) (x s : Life) (t u : List Bool) → Named x s → t ≡ u → WentOrWas newer older x u → WentOrWas (y ∷ newer) older s t
went_on y newer older x s t u names same (inl none) = inl (same ∙ none)
went_on y newer older x s t u names same (inr (inl w)) = inr (inl (record { life = w.life; there = w.there; names = named_then w.life x s w.names names }))
went_on y newer older x s t u names same (inr (inr w)) = inr (inr (record {
  later = y ∷ w.later;
  since = w.since;
  is = ap (λ (ms : List Moment). y ∷ ms) w.is;
  life = w.life;
  there = w.there;
  goes = w.goes;
  names = named_then w.life x s w.names names;
}))

pub went : (newer older : List Moment) (s : Life) (t : List Bool) → IsBeside s t (kept_in (newer ++ older)).book.lives (kept_in (newer ++ older)).handed → WentOrWas newer older s t
went [] older s t i = inr (inl (record { life = s; there = beside_of (kept_in older).book.lives (kept_in older).handed s t i; names = named_itself s }))
went (y ∷ newer) older s t i = by (moment_was y (newer ++ older) s t i) (went newer older) where
  at : (w : WasBeside (kept_in (newer ++ older)).book.lives (kept_in (newer ++ older)).handed s t) (v : Bool) → w.life.ended ≡ v → WentOrWas newer older w.life w.text → WentOrWas (y ∷ newer) older s t
  at w true e rest = went_on y newer older w.life s t w.text w.names (w.over e) rest
  at w false e rest = inr (inr (record {
    later = y ∷ [];
    since = newer;
    is = refl;
    life = w.life;
    there = beside_of (kept_in (newer ++ older)).book.lives (kept_in (newer ++ older)).handed w.life w.text w.there;
    goes = e;
    names = w.names;
  }))

  by : WasBeside (kept_in (newer ++ older)).book.lives (kept_in (newer ++ older)).handed s t ⊎ (t ≡ [])
      → ((x : Life) (u : List Bool) → IsBeside x u (kept_in (newer ++ older)).book.lives (kept_in (newer ++ older)).handed → WentOrWas newer older x u) → WentOrWas (y ∷ newer) older s t
  by (inl w) rest = at w w.life.ended refl (rest w.life w.text w.there)
  by (inr none) rest = inl none
