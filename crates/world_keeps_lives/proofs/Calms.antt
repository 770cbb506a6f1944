-- What moments of no data do to lives: all keep what they carried, and new ones begin where a request of theirs crosses.
use Rattle.world_keeps_lives.proofs.Common.{append_assoc, map-append, Host, Crossing, Notice, Request, Asked, Crossed, Moment, host_in, kept_by, notices_by, Amount, Life, AreOurs, Network, lives_among, crossed_only, mixed_kept}
use Rattle.std.proofs.Common.{◌≡◌, ℕ, Bool, true, false, if◌then◌else◌, List, [], ◌∷◌, ◌++◌, map, refl, ap, sym, subst, ◌∙◌, append-nil}
use Rattle.net_sim.specs.Book.{Kept, all_told, book_told, changed_when, life_ended, lives_asked, lives_at, lives_between, lives_crossed, lives_on, lives_told, lives_with, new_life, where_it, granted, more, returned}
use Rattle.interface.specs.declared.crossing.Crossing.TheVariants as crossing
use Rattle.host_pairs.specs.declared.notice.Notice.TheVariants as notice
use Rattle.sockets.specs.declared.request.Request.TheVariants as request
use Rattle.world_keeps_lives.proofs.Among.{Leaves, among_more, among_other, among_where}
use Rattle.world_keeps_lives.proofs.DataTold.{Reports}
use Rattle.world_keeps_lives.proofs.Grounds.{Opens}
use Rattle.world_keeps_lives.proofs.Walk.Rules.{Each, each_append, each_map}
use Rattle.world_keeps_lives.proofs.Stamps.{Now, Stamped}

-- a life keeps all but what was granted, what was returned, and whether it is over
abbrev pub kept_as : Amount → Amount → Bool → Life → Life
kept_as g r e x = record x { granted = g; returned = r; ended = e }

abbrev pub kept_so : (Life → Amount) → (Life → Amount) → (Life → Bool) → Life → Life
kept_so g r e x = kept_as (g x) (r x) (e x) x

map_is : (f g : Life → Life) → ((x : Life) → f x ≡ g x) → (xs : List Life) → map f xs ≡ map g xs
map_is f g k [] = refl
map_is f g k (x ∷ xs) = ap (λ (y : Life). y ∷ map f xs) (k x) ∙ ap (λ (ys : List Life). g x ∷ ys) (map_is f g k xs)

pub map_two : (f g : Life → Life) (xs : List Life) → map g (map f xs) ≡ map (λ (x : Life). g (f x)) xs
map_two f g [] = refl
map_two f g (x ∷ xs) = ap (λ (ys : List Life). g (f x) ∷ ys) (map_two f g xs)

all_itself : (xs : List Life) → xs ≡ map (λ (x : Life). kept_as x.granted x.returned x.ended x) xs
all_itself [] = refl
all_itself (x ∷ xs) = ap (λ (ys : List Life). x ∷ ys) (all_itself xs)

module _ (lives : List Life) (here : ℕ) (log : List Crossing) where
  -- a life that begins: it has carried nothing, its requests crossed, and one of them just now
  abbrev pub Born : Life → Type 0
  Born x = (x.messages ≡ 0) × (x.bits ≡ []) × Opens x.host x.peer log x.socket x.foreign x.own_stamp x.partner_stamp × Now lives here x.socket x.foreign x.own_stamp x.partner_stamp

  pub record Calm (old new : List Life) : Type 0 where
    pub given : Life → Amount
    pub back : Life → Amount
    pub over : Life → Bool
    pub more : List Life
    pub is : new ≡ map (kept_so given back over) old ++ more
    pub still : (x : Life) → x.ended ≡ true → over x ≡ true
    pub born : Each Born more

  pub calm_none : (xs : List Life) → Calm xs xs
  calm_none xs = record { given = λ x. x.granted; back = λ x. x.returned; over = λ x. x.ended; more = []; is = all_itself xs ∙ sym (append-nil _); still = λ x e. e; born = tt }

  calm_on : (xs ys zs : List Life) → Calm xs ys → Calm ys zs → Calm xs zs
  calm_on xs ys zs c d = record {
    given = λ x. d.given (kept_so c.given c.back c.over x);
    back = λ x. d.back (kept_so c.given c.back c.over x);
    over = λ x. d.over (kept_so c.given c.back c.over x);
    more = map (kept_so d.given d.back d.over) c.more ++ d.more;
    is = d.is ∙ ap (λ (l : List Life). map (kept_so d.given d.back d.over) l ++ d.more) c.is
        ∙ ap (λ (l : List Life). l ++ d.more) (map-append (kept_so d.given d.back d.over) (map (kept_so c.given c.back c.over) xs) c.more ∙ ap (λ (l : List Life). l ++ map (kept_so d.given d.back d.over) c.more) (map_two _ _ xs))
        ∙ append_assoc (map (λ (x : Life). kept_so d.given d.back d.over (kept_so c.given c.back c.over x)) xs) (map (kept_so d.given d.back d.over) c.more) d.more;
    still = λ x e. d.still (kept_so c.given c.back c.over x) (c.still x e);
    born = each_append Born _ d.more (each_map Born _ c.more (λ x b. b) c.born) d.born;
  }

  calm_ended : (test : Life → Bool) (xs : List Life) → Calm xs (where_it test life_ended xs)
  calm_ended test xs = record {
    given = λ x. x.granted;
    back = λ x. x.returned;
    over = λ x. if test x then true else x.ended;
    more = [];
    is = map_is _ _ (λ x. by x (test x)) xs ∙ sym (append-nil _);
    still = λ x e. off x (test x) e;
    born = tt;
  } where
    by : (x : Life) (v : Bool)
        → changed_when v life_ended x ≡ kept_as x.granted x.returned (if v then true else x.ended) x
    by x true = refl
    by x false = refl

    off : (x : Life) (v : Bool) → x.ended ≡ true → (if v then true else x.ended) ≡ true
    off x true e = refl
    off x false e = e

  calm_returned : (test : Life → Bool) (m n : ℕ) (xs : List Life) → Calm xs (where_it test (returned m n) xs)
  calm_returned test m n xs = record {
    given = λ x. x.granted;
    back = λ x. if test x then more m n x.returned else x.returned;
    over = λ x. x.ended;
    more = [];
    is = map_is _ _ (λ x. by x (test x)) xs ∙ sym (append-nil _);
    still = λ x e. e;
    born = tt;
  } where
    by : (x : Life) (v : Bool)
        → changed_when v (returned m n) x ≡ kept_as x.granted (if v then more m n x.returned else x.returned) x.ended x
    by x true = refl
    by x false = refl

  calm_granted : (test : Life → Bool) (m n : ℕ) (xs : List Life) → Calm xs (where_it test (granted m n) xs)
  calm_granted test m n xs = record {
    given = λ x. if test x then more m n x.granted else x.granted;
    back = λ x. x.returned;
    over = λ x. x.ended;
    more = [];
    is = map_is _ _ (λ x. by x (test x)) xs ∙ sym (append-nil _);
    still = λ x e. e;
    born = tt;
  } where
    by : (x : Life) (v : Bool)
        → changed_when v (granted m n) x ≡ kept_as (if v then more m n x.granted else x.granted) x.returned x.ended x
    by x true = refl
    by x false = refl

  calm_born : (x : Life) (xs : List Life) → Born x → Calm xs (xs ++ x ∷ [])
  calm_born x xs b = record { given = λ x. x.granted; back = λ x. x.returned; over = λ x. x.ended; more = x ∷ []; is = ap (λ (ys : List Life). ys ++ x ∷ []) (all_itself xs); still = λ x e. e; born = (b, tt) }

-- ---- one moment

module _ (hosts : Network) (lives : List Life) (here : ℕ) (log : List Crossing) where
  abbrev among : List Life → List Life
  among xs = lives_among hosts.strange xs

  abbrev Still : List Life → List Life → Type 0
  Still xs ys = Calm lives here log (lives_among hosts.strange xs) (lives_among hosts.strange ys)

  still_where : (test : Life → Bool) (change : Life → Life) (xs : List Life) → Leaves change
      → Calm lives here log (lives_among hosts.strange xs) (where_it test change (lives_among hosts.strange xs))
      → Still xs (where_it test change xs)
  still_where test change xs leaves c = subst (λ (ys : List Life). Calm lives here log (lives_among hosts.strange xs) ys) (sym (among_where hosts.strange test change xs leaves)) c

  still_ended : (test : Life → Bool) (xs : List Life) → Still xs (where_it test life_ended xs)
  still_ended test xs = still_where test life_ended xs (λ x. (refl, refl)) (calm_ended lives here log test (among xs))

  module _ (h p : Host) (plain : hosts.strange h ≡ false) where
    still_born : (x : Life) (xs : List Life) → hosts.strange x.host ≡ false → x.peer ≡ p
        → (AreOurs hosts h p → Born lives here log x) → Still xs (xs ++ x ∷ [])
    still_born x xs own is born = by (hosts.strange p) refl where
      by : (v : Bool) → hosts.strange p ≡ v → Still xs (xs ++ x ∷ [])
      by true on =
          subst (λ (ys : List Life). Calm lives here log (lives_among hosts.strange xs) ys)
          (sym (among_other hosts.strange xs x (let e : hosts.strange x.peer ≡ true = ap hosts.strange is ∙ on in rw (own, e) refl))) (calm_none lives here log (among xs))
      by false off =
          subst (λ (ys : List Life). Calm lives here log (lives_among hosts.strange xs) ys)
          (sym (among_more hosts.strange xs x (let e : hosts.strange x.peer ≡ false = ap hosts.strange is ∙ off in rw (own, e) refl))) (calm_born lives here log x (among xs) (born (plain, off)))

    still_told : (n : Notice) (xs : List Life) → Reports hosts h p log n → (AreOurs hosts h p → Stamped lives here n)
        → Still xs (lives_told h n xs)
    still_told (notice.Opened s q f a b) xs t now =
        still_born _ xs plain t.0 (λ ours. (refl, refl, subst (λ (g : Host). Opens h g log s f a b) (sym t.0) (t.1 ours), now ours))
    still_told (notice.Ended s q f) xs t now = still_ended _ xs
    still_told (notice.PairReset q) xs t now = still_ended _ xs
    still_told (notice.Sent s bits) xs t now = absurd t
    still_told (notice.Arrived s bits) xs t now = absurd t
    still_told (notice.Returned s messages bits) xs t now = still_where _ _ xs (λ x. (refl, refl)) (calm_returned lives here log _ messages bits (among xs))
    still_told n xs t now = calm_none lives here log (among xs)

    still_all_told : (ns : List Notice) (k : Kept) → Each (Reports hosts h p log) ns
        → (AreOurs hosts h p → Each (Stamped lives here) ns) → Still k.book.lives (all_told h ns k).book.lives
    still_all_told [] k t now = calm_none lives here log _
    still_all_told (n ∷ ns) k t now =
        calm_on lives here log _ _ _
        (still_told n k.book.lives t.0 (λ ours. (now ours).0)) (still_all_told ns (book_told h n k) t.1 (λ ours. (now ours).1))

  still_crossed : (c : Crossing) (xs : List Life) → Still xs (lives_crossed c xs)
  still_crossed (crossing.Down g) xs = still_ended _ xs
  still_crossed c xs = calm_none lives here log (among xs)

  still_asked : (g : Host) (r : Request) (xs : List Life) → Still xs (lives_asked g r xs)
  still_asked g (request.Grant socket messages bits) xs = still_where _ _ xs (λ x. (refl, refl)) (calm_granted lives here log _ messages bits (among xs))
  still_asked g r xs = calm_none lives here log (among xs)

  still_by : (y : Moment) (k : Kept) → Still k.book.lives (kept_by y k).book.lives
  still_by (Crossed c) k = still_crossed c k.book.lives
  still_by (Asked g r) k = still_asked g r k.book.lives

  still_only : (y : Moment) (k : Kept) → Still k.book.lives (crossed_only y k).book.lives
  still_only (Crossed c) k = still_crossed c k.book.lives
  still_only (Asked g r) k = calm_none lives here log _

  -- of a stranger's moment nothing is asked
  pub calm_moment : (y : Moment) (ms : List Moment) (p : Host)
      → (hosts.strange (host_in y) ≡ false → Each (Reports hosts (host_in y) p log) (notices_by y ms))
      → (AreOurs hosts (host_in y) p → Each (Stamped lives here) (notices_by y ms))
      → Still (mixed_kept hosts.strange ms).book.lives (mixed_kept hosts.strange (y ∷ ms)).book.lives
  calm_moment y ms p told now = by (hosts.strange (host_in y)) refl where
    old : Kept
    old = mixed_kept hosts.strange ms

    by : (v : Bool) → hosts.strange (host_in y) ≡ v
        → Still (mixed_kept hosts.strange ms).book.lives (if v then crossed_only y (mixed_kept hosts.strange ms) else all_told (host_in y) (notices_by y ms) (kept_by y (mixed_kept hosts.strange ms))).book.lives
    by true on = still_only y (mixed_kept hosts.strange ms)
    by false plain =
        calm_on lives here log _ _ _ (still_by y old)
        (still_all_told (host_in y) p plain _ _ (told plain) now)
