-- The lives among hosts with programs, and what is beside them, through all that is done to a list of lives.
use Rattle.world_keeps_lives.proofs.Common.{◌≡◌, suc, ◌&&◌, not, Bool, true, false, List, [], ◌∷◌, ◌++◌, length, refl, ap, sym, subst, ◌∙◌, if◌then◌else◌, Asked, Crossed, Moment, Crossing, Host, Life, Notice, Request, host_in, kept_by, notices_by, beside_among, is_among, lives_among, crossed_only, mixed_kept}
use Rattle.net_sim.specs.Book.{Kept, all_told, asked, book_told, carried, changed_when, crossed, handed_to, life_ended, lives_at, lives_between, lives_on, lives_with, new_life, where_it, fates_where, granted, returned}
use Rattle.interface.specs.declared.crossing.Crossing.TheVariants as crossing
use Rattle.host_pairs.specs.declared.notice.Notice.TheVariants as notice
use Rattle.sockets.specs.declared.request.Request.TheVariants as request
use Rattle.promise.specs.declared.life.Fate.{Fate}
use Rattle.world_keeps_lives.proofs.Walk.Rules.{Each}

-- a change that leaves whose life it is
abbrev pub Leaves : (Life → Life) → Type 0
Leaves change = (x : Life) → ((change x).host ≡ x.host) × ((change x).peer ≡ x.peer)

abbrev pub NoneOf : (Life → Bool) → List Life → Type 0
NoneOf test lives = Each (λ x. test x ≡ false) lives

-- ---- where no life passes

pub where_none : (test : Life → Bool) (change : Life → Life) (lives : List Life) → NoneOf test lives
    → where_it test change lives ≡ lives
where_none test change [] none = refl
where_none test change (x ∷ lives) none =
    ap (λ (b : Bool). changed_when b change x ∷ where_it test change lives) none.0
    ∙ ap (λ (rest : List Life). x ∷ rest) (where_none test change lives none.1)

pub handed_none : (test : Life → Bool) (bits : List Bool) (lives : List Life) (handed : List (List Bool))
    → NoneOf test lives → handed_to test bits lives handed ≡ handed
handed_none test bits [] handed none = refl
handed_none test bits (x ∷ lives) [] none = refl
handed_none test bits (x ∷ lives) (t ∷ handed) none =
    ap (λ (b : Bool). (if b then t ++ bits else t) ∷ handed_to test bits lives handed) none.0
    ∙ ap (λ (rest : List (List Bool)). t ∷ rest) (handed_none test bits lives handed none.1)

pub fates_none : (test : Life → Bool) (change : Fate → Fate) (lives : List Life) (fates : List Fate)
    → NoneOf test lives → fates_where test change lives fates ≡ fates
fates_none test change [] fates none = refl
fates_none test change (x ∷ lives) [] none = refl
fates_none test change (x ∷ lives) (f ∷ fates) none =
    ap (λ (b : Bool). (if b then change f else f) ∷ fates_where test change lives fates) none.0
    ∙ ap (λ (rest : List Fate). f ∷ rest) (fates_none test change lives fates none.1)

-- ---- lengths

pub where_length : (test : Life → Bool) (change : Life → Life) (lives : List Life)
    → length (where_it test change lives) ≡ length lives
where_length test change [] = refl
where_length test change (x ∷ lives) = ap suc (where_length test change lives)

pub handed_length : (test : Life → Bool) (bits : List Bool) (lives : List Life) (handed : List (List Bool))
    → length (handed_to test bits lives handed) ≡ length handed
handed_length test bits [] handed = refl
handed_length test bits (x ∷ lives) [] = refl
handed_length test bits (x ∷ lives) (t ∷ handed) = ap suc (handed_length test bits lives handed)

pub fates_length : (test : Life → Bool) (change : Fate → Fate) (lives : List Life) (fates : List Fate)
    → length (fates_where test change lives fates) ≡ length fates
fates_length test change [] fates = refl
fates_length test change (x ∷ lives) [] = refl
fates_length test change (x ∷ lives) (f ∷ fates) = ap suc (fates_length test change lives fates)

pub one_longer : {A B : Type 0} (xs : List A) (ys : List B) (x : A) (y : B) → length ys ≡ length xs
    → length (ys ++ y ∷ []) ≡ length (xs ++ x ∷ [])
one_longer [] [] x y e = refl
one_longer [] (b ∷ ys) x y e = absurd (cc)
one_longer (a ∷ xs) [] x y e = absurd (cc)
one_longer (a ∷ xs) (b ∷ ys) x y e = ap suc (one_longer xs ys x y (let r : length ys ≡ length xs = cc in r))

module _ (strange : Host → Bool) where
  -- ---- one life more

  pub within : (x : Life) (lives : List Life) → is_among strange x ≡ true
      → lives_among strange (x ∷ lives) ≡ x ∷ lives_among strange lives
  within x lives is = rw is refl

  pub beyond : (x : Life) (lives : List Life) → is_among strange x ≡ false
      → lives_among strange (x ∷ lives) ≡ lives_among strange lives
  beyond x lives off = rw off refl

  same_life : (b : Bool) (change : Life → Life) (x : Life) → Leaves change
      → is_among strange (changed_when b change x) ≡ is_among strange x
  same_life true change x leaves = ap (λ (h : Host). not (strange h) && not (strange (change x).peer)) (leaves x).0
      ∙ ap (λ (h : Host). not (strange x.host) && not (strange h)) (leaves x).1
  same_life false change x leaves = refl

  -- ---- lives that change

  pub among_where : (test : Life → Bool) (change : Life → Life) (lives : List Life) → Leaves change
      → lives_among strange (where_it test change lives) ≡ where_it test change (lives_among strange lives)
  among_where test change [] leaves = refl
  among_where test change (x ∷ lives) leaves = by (is_among strange x) refl (among_where test change lives leaves) where
    by : (b : Bool) → is_among strange x ≡ b
        → lives_among strange (where_it test change lives) ≡ where_it test change (lives_among strange lives)
        → lives_among strange (where_it test change (x ∷ lives)) ≡ where_it test change
        (lives_among strange (x ∷ lives))
    by true is rest =
        within _ _ (same_life (test x) change x leaves ∙ is)
        ∙ ap (λ (ys : List Life). changed_when (test x) change x ∷ ys) rest
        ∙ sym (ap (where_it test change) (within x lives is))
    by false off rest =
        beyond _ _ (same_life (test x) change x leaves
        ∙ off) ∙ rest ∙ sym (ap (where_it test change) (beyond x lives off))

  pub among_more : (lives : List Life) (y : Life) → is_among strange y ≡ true
      → lives_among strange (lives ++ y ∷ []) ≡ lives_among strange lives ++ y ∷ []
  among_more [] y is = within y [] is
  among_more (x ∷ lives) y is = by (is_among strange x) refl (among_more lives y is) where
    by : (b : Bool) → is_among strange x ≡ b
        → lives_among strange (lives ++ y ∷ []) ≡ lives_among strange lives ++ y ∷ []
        → lives_among strange (x ∷ (lives ++ y ∷ [])) ≡ lives_among strange (x ∷ lives) ++ y ∷ []
    by true e rest = within x _ e ∙ ap (λ (ys : List Life). x ∷ ys) rest
        ∙ sym (ap (λ (ys : List Life). ys ++ y ∷ []) (within x lives e))
    by false e rest = beyond x _ e ∙ rest
        ∙ sym (ap (λ (ys : List Life). ys ++ y ∷ []) (beyond x lives e))

  pub among_other : (lives : List Life) (y : Life) → is_among strange y ≡ false
      → lives_among strange (lives ++ y ∷ []) ≡ lives_among strange lives
  among_other [] y off = beyond y [] off
  among_other (x ∷ lives) y off = ap (λ (rest : List Life). if is_among strange x then x ∷ rest else rest)
      (among_other lives y off)

  -- ---- what is beside them

  abbrev next : {A : Type 0} → Bool → A → List A → List A
  next b a others = if b then a ∷ others else others

  pub beside_where : {A : Type 0} (test : Life → Bool) (change : Life → Life) (lives : List Life) (others : List A)
      → Leaves change → beside_among strange (where_it test change lives) others ≡ beside_among strange lives others
  beside_where test change [] others leaves = refl
  beside_where test change (x ∷ lives) [] leaves = refl
  beside_where {A = A} test change (x ∷ lives) (a ∷ others) leaves =
      ap (λ (b : Bool). next b a (beside_among strange (where_it test change lives) others))
      (same_life (test x) change x leaves)
      ∙ ap (λ (rest : List A). next (is_among strange x) a rest) (beside_where test change lives others leaves)

  no_handed : (test : Life → Bool) (bits : List Bool) (lives : List Life) → handed_to test bits lives [] ≡ []
  no_handed test bits [] = refl
  no_handed test bits (x ∷ lives) = refl

  no_fates : (test : Life → Bool) (change : Fate → Fate) (lives : List Life) → fates_where test change lives [] ≡ []
  no_fates test change [] = refl
  no_fates test change (x ∷ lives) = refl

  pub beside_handed : (test : Life → Bool) (bits : List Bool) (lives : List Life) (handed : List (List Bool))
      → beside_among strange lives (handed_to test bits lives handed) ≡ handed_to test bits
      (lives_among strange lives) (beside_among strange lives handed)
  beside_handed test bits [] handed = refl
  beside_handed test bits (x ∷ lives) [] = sym (no_handed test bits (lives_among strange (x ∷ lives)))
  beside_handed test bits (x ∷ lives) (t ∷ handed) = by (is_among strange x) refl
      (beside_handed test bits lives handed) where
        by : (b : Bool) → is_among strange x ≡ b
            → beside_among strange lives (handed_to test bits lives handed) ≡ handed_to test bits
            (lives_among strange lives) (beside_among strange lives handed)
            → beside_among strange (x ∷ lives) (handed_to test bits (x ∷ lives) (t ∷ handed)) ≡ handed_to test bits
            (lives_among strange (x ∷ lives)) (beside_among strange (x ∷ lives) (t ∷ handed))
        by true e rest = rw e (ap (λ (ys : List (List Bool)). (if test x then t ++ bits else t) ∷ ys) rest)
        by false e rest = rw e rest

  pub beside_fates : (test : Life → Bool) (change : Fate → Fate) (lives : List Life) (fates : List Fate)
      → beside_among strange lives (fates_where test change lives fates) ≡ fates_where test change
      (lives_among strange lives) (beside_among strange lives fates)
  beside_fates test change [] fates = refl
  beside_fates test change (x ∷ lives) [] = sym (no_fates test change (lives_among strange (x ∷ lives)))
  beside_fates test change (x ∷ lives) (f ∷ fates) = by (is_among strange x) refl
      (beside_fates test change lives fates) where
        by : (b : Bool) → is_among strange x ≡ b
            → beside_among strange lives (fates_where test change lives fates) ≡ fates_where test change
            (lives_among strange lives) (beside_among strange lives fates)
            → beside_among strange (x ∷ lives) (fates_where test change (x ∷ lives) (f ∷ fates)) ≡
            fates_where test change (lives_among strange (x ∷ lives)) (beside_among strange (x ∷ lives) (f ∷ fates))
        by true e rest = rw e (ap (λ (ys : List Fate). (if test x then change f else f) ∷ ys) rest)
        by false e rest = rw e rest

  pub beside_more : {A : Type 0} (lives : List Life) (others : List A) (y : Life) (a : A)
      → length others ≡ length lives → is_among strange y ≡ true
      → beside_among strange (lives ++ y ∷ []) (others ++ a ∷ []) ≡ beside_among strange lives others ++ a ∷ []
  beside_more [] [] y a e is = rw is refl
  beside_more [] (b ∷ others) y a e is = absurd (cc)
  beside_more (x ∷ lives) [] y a e is = absurd (cc)
  beside_more {A = A} (x ∷ lives) (b ∷ others) y a e is = by (is_among strange x)
      (beside_more lives others y a (let r : length others ≡ length lives = cc in r) is) where
        by : (c : Bool) → beside_among strange (lives ++ y ∷ []) (others ++ a ∷ []) ≡
            beside_among strange lives others ++ a ∷ []
            →
            (if c then b ∷ beside_among strange (lives ++ y ∷ []) (others ++ a ∷ []) else beside_among strange
            (lives ++ y ∷ []) (others ++ a ∷ [])) ≡
            (if c then b ∷ beside_among strange lives others else beside_among strange lives others) ++ a ∷ []
        by true rest = ap (λ (ys : List A). b ∷ ys) rest
        by false rest = rest

  pub beside_other : {A : Type 0} (lives : List Life) (others : List A) (y : Life) (a : A)
      → length others ≡ length lives → is_among strange y ≡ false
      → beside_among strange (lives ++ y ∷ []) (others ++ a ∷ []) ≡ beside_among strange lives others
  beside_other [] [] y a e off = rw off refl
  beside_other [] (b ∷ others) y a e off = absurd (cc)
  beside_other (x ∷ lives) [] y a e off = absurd (cc)
  beside_other {A = A} (x ∷ lives) (b ∷ others) y a e off =
      ap (λ (rest : List A). next (is_among strange x) b rest)
      (beside_other lives others y a (let r : length others ≡ length lives = cc in r) off)

-- ---- each life of a book is of a host with a program, and what was handed over in it is beside it

module _ (strange : Host → Bool) where
  abbrev pub AreOwned : List Life → List (List Bool) → Type 0
  AreOwned [] [] = Unit {0}
  AreOwned (x ∷ lives) (t ∷ handed) = (strange x.host ≡ false) × AreOwned lives handed
  AreOwned [] (t ∷ handed) = ⊥
  AreOwned (x ∷ lives) [] = ⊥

  where_owned : (test : Life → Bool) (change : Life → Life) (lives : List Life) (handed : List (List Bool))
      → ((x : Life) → (change x).host ≡ x.host) → AreOwned lives handed → AreOwned (where_it test change lives) handed
  where_owned test change [] [] leaves o = tt
  where_owned test change [] (t ∷ handed) leaves o = o
  where_owned test change (x ∷ lives) [] leaves o = o
  where_owned test change (x ∷ lives) (t ∷ handed) leaves o = (by (test x), where_owned test change lives handed leaves o.1) where
    by : (b : Bool) → strange (changed_when b change x).host ≡ false
    by true = subst (λ (h : Host). strange h ≡ false) (sym (leaves x)) o.0
    by false = o.0

  more_owned : (y : Life) (lives : List Life) (handed : List (List Bool)) → strange y.host ≡ false
      → AreOwned lives handed → AreOwned (lives ++ y ∷ []) (handed ++ [] ∷ [])
  more_owned y [] [] plain o = (plain, tt)
  more_owned y [] (t ∷ handed) plain o = absurd o
  more_owned y (x ∷ lives) [] plain o = absurd o
  more_owned y (x ∷ lives) (t ∷ handed) plain o = (o.0, more_owned y lives handed plain o.1)

  handed_owned : (test : Life → Bool) (bits : List Bool) (lives : List Life) (handed : List (List Bool))
      → AreOwned lives handed → AreOwned lives (handed_to test bits lives handed)
  handed_owned test bits [] [] o = tt
  handed_owned test bits [] (t ∷ handed) o = o
  handed_owned test bits (x ∷ lives) [] o = o
  handed_owned test bits (x ∷ lives) (t ∷ handed) o = (o.0, handed_owned test bits lives handed o.1)

  abbrev Are : Kept → Type 0
  Are k = AreOwned k.book.lives k.handed

  told_owned : (h : Host) (n : Notice) (k : Kept) → strange h ≡ false → Are k → Are (book_told h n k)
  told_owned h (notice.Opened s p f a b) k plain o = more_owned _ k.book.lives k.handed plain o
  told_owned h (notice.Ended s p f) k plain o = where_owned _ life_ended k.book.lives k.handed (λ x. refl) o
  told_owned h (notice.PairReset p) k plain o = where_owned _ life_ended k.book.lives k.handed (λ x. refl) o
  told_owned h (notice.Sent s bits) k plain o = where_owned _ _ k.book.lives k.handed (λ x. refl) o
  told_owned h (notice.Arrived s bits) k plain o = where_owned _ _ k.book.lives k.handed (λ x. refl) o
  told_owned h (notice.Returned s messages bits) k plain o = where_owned _ _ k.book.lives k.handed (λ x. refl) o
  told_owned h n k plain o = o

  all_told_owned : (h : Host) (ns : List Notice) (k : Kept) → strange h ≡ false → Are k → Are (all_told h ns k)
  all_told_owned h [] k plain o = o
  all_told_owned h (n ∷ ns) k plain o = all_told_owned h ns (book_told h n k) plain (told_owned h n k plain o)

  crossed_owned : (c : Crossing) (k : Kept) → Are k → Are (crossed c k)
  crossed_owned (crossing.Down h) k o = where_owned _ life_ended k.book.lives k.handed (λ x. refl) o
  crossed_owned c k o = o

  asked_owned : (h : Host) (r : Request) (k : Kept) → Are k → Are (asked h r k)
  asked_owned h (request.Send socket bits) k o = handed_owned _ bits k.book.lives k.handed o
  asked_owned h (request.Grant socket messages bits) k o = where_owned _ _ k.book.lives k.handed (λ x. refl) o
  asked_owned h r k o = o

  by_owned : (y : Moment) (k : Kept) → Are k → Are (kept_by y k)
  by_owned (Crossed c) k o = crossed_owned c k o
  by_owned (Asked h r) k o = asked_owned h r k o

  only_owned : (y : Moment) (k : Kept) → Are k → Are (crossed_only y k)
  only_owned (Crossed c) k o = crossed_owned c k o
  only_owned (Asked h r) k o = o

  pub all_owned : (moments : List Moment) → Are (mixed_kept strange moments)
  all_owned [] = tt
  all_owned (y ∷ moments) = by (strange (host_in y)) refl (all_owned moments) where
    by : (b : Bool) → strange (host_in y) ≡ b → Are (mixed_kept strange moments)
        → Are (if b then crossed_only y (mixed_kept strange moments) else all_told (host_in y) (notices_by y moments) (kept_by y (mixed_kept strange moments)))
    by true on old = only_owned y (mixed_kept strange moments) old
    by false plain old = all_told_owned (host_in y) (notices_by y moments) _ plain (by_owned y _ old)
