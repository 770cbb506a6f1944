-- When lives are made of the messages that crossed before their ends.
use Rattle.book_judge.proofs.Common.{Contains, IsSome, reverse-reverse, take_all, take_more, Crossing, receives, before, Life, texts_by, Asking, Going, Over, Stage, Course, course, stage}
use Rattle.std.proofs.Common.{◌≡◌, ◌⊎◌, ℕ, zero, suc, ◌+◌, ◌<◌, ◌≤◌, Bool, false, if◌then◌else◌, List, [], ◌∷◌, ◌++◌, length, take, drop, get_or, reverse, Option, Some, None, is_some, MatchBool, ap, sym, subst, ◌∙◌, inl, inr, refl, arith, ◌==◌, true, eq-eqb, leb-true, max, nat_le}
use Rattle.promise.specs.Formed.{FormedBook, IsFormed, first_data, flow_of, link_of, texts_on, own_named, partner_named, texts_for}
use Rattle.book_judge.specs.Lives.{AreMade, IsMade, UnmadeAt}
use Rattle.book_judge.specs.Inside.Deeds.{deeds_in, begun_by, begun_of, end_after, pace_of, end_by}
use Rattle.std.proofs.lemmas.Bool.{false≢true, eqb-true, le-leb}
use Rattle.book_judge.specs.Inside.Made.{Counts, HasBits, IsMadeBy, Makes, since}
use Rattle.book_judge.proofs.Identities.Named.{contains_cases}
use Rattle.book_judge.proofs.Crossed.TextsBy.{before_take, data_read, texts_past, texts_same}
use Rattle.book_judge.proofs.Ends.Reached.{all_crossings}
use Rattle.interface.proofs.lemmas.{contains_head, contains_tail, contains_none}

-- ---- one life

same_texts : (log : List Crossing) (x : Life) (link : ℕ)
    → texts_for x link (reverse log) ≡ texts_by (receives x) (flow_of x link) (drop (since x) log)
same_texts log x link = texts_same (receives x) (flow_of x link) x.own_stamp x.partner_stamp log (reverse-reverse log)

pub none_counted : (log : List Crossing) (x : Life) (link until begun : ℕ) (b : Bool)
    → begun ≡ max x.own_stamp x.partner_stamp → until ≤ begun → b ≡ (x.messages == 0) → Counts log x link until b
none_counted log x link until begun b is past e =
    subst (Counts log x link until) (sym e) (by (x.messages == 0) refl) where
      none : length (texts_by (receives x) (flow_of x link) (drop (since x) (take until log))) ≡ 0
      none =
          ap (λ (ts : List (List Bool)). length ts)
          (texts_past (receives x) (flow_of x link) (since x) until log (omega (arith, is, past)))

      by : (v : Bool) → (x.messages == 0) ≡ v → Counts log x link until v
      by true f = let zero_is : x.messages ≡ 0 = eqb-true x.messages 0 f in omega (arith, zero_is)
      by false f = λ less.
          false≢true (sym f ∙ eq-eqb x.messages 0 (omega (arith, none, less)))

pub some_counted : (log : List Crossing) (x : Life) (link until begun n : ℕ) (b : Bool)
    → begun ≡ max x.own_stamp x.partner_stamp
    → n ≡ length (texts_by (receives x) (flow_of x link) (drop (begun + 1) (take until log)))
    → b ≡ nat_le x.messages n → Counts log x link until b
some_counted log x link until begun n b is count e =
    subst (Counts log x link until) (sym e) (by (nat_le x.messages n) refl) where
      all : n ≡ length (texts_by (receives x) (flow_of x link) (drop (since x) (take until log)))
      all =
          count ∙ ap (λ (k : ℕ). length (texts_by (receives x) (flow_of x link) (drop (k + 1) (take until log)))) is

      by : (v : Bool) → nat_le x.messages n ≡ v → Counts log x link until v
      by true f = let less : x.messages ≤ n = leb-true x.messages n f in omega (arith, less, all)
      by false f = λ less. false≢true (sym f ∙ le-leb x.messages n (omega (arith, less, all)))

pub both_made : (log : List Crossing) (x : Life) (link until : ℕ) (b : Bool) → HasBits log x link
    → Counts log x link until b → Makes log x link until b
both_made log x link until true has enough = (has, enough)
both_made log x link until false has not = λ is. not is.1

-- those that crossed before a place
pub older_texts : (log : List Crossing) (x : Life) (link until : ℕ) → link_of (reverse log) x ≡ Some link
    → length (texts_on x (link_of (reverse log) x) (before until (reverse log)))
    ≡ length (texts_by (receives x) (flow_of x link) (drop (since x) (take until log)))
older_texts log x link until e =
    ap (λ (o : Option ℕ). length (texts_on x o (before until (reverse log)))) e
    ∙ ap (λ (cs : List Crossing). length (texts_for x link cs)) (before_take log until)
    ∙ ap (λ (ts : List (List Bool)). length ts) (same_texts (take until log) x link)

bits_by : (log : List Crossing) (x : Life) (link : ℕ) → link_of (reverse log) x ≡ Some link
    → first_data (receives x) x.messages (texts_on x (link_of (reverse log) x) (reverse log)) ≡ first_data (receives x) x.messages (texts_by (receives x) (flow_of x link) (drop (since x) log))
bits_by log x link e = ap (λ (o : Option ℕ). first_data (receives x) x.messages (texts_on x o (reverse log))) e ∙ ap (first_data (receives x) x.messages) (same_texts log x link)

link_by : (log : List Crossing) (x : Life) (own partner : ℕ) (v : Bool) → receives x ≡ v
    → own_named (reverse log) x ≡ Some own → partner_named (reverse log) x ≡ Some partner
    → link_of (reverse log) x ≡ Some (if v then own else partner)
link_by log x own partner true r e f = ap (λ (b : Bool). if b then own_named (reverse log) x else partner_named (reverse log) x) r ∙ e
link_by log x own partner false r e f = ap (λ (b : Bool). if b then own_named (reverse log) x else partner_named (reverse log) x) r ∙ f

pub made_by : (log : List Crossing) (x : Life) (own partner until : ℕ) (v b : Bool) → receives x ≡ v
    → Some own ≡ own_named (reverse log) x → Some partner ≡ partner_named (reverse log) x
    → Makes log x (if v then own else partner) until b
    → MatchBool b (IsMadeBy (reverse log) until x) (IsMadeBy (reverse log) until x → ⊥)
made_by log x own partner until v b r e f m = by b m where
  link : ℕ
  link = if v then own else partner

  on : link_of (reverse log) x ≡ Some link
  on = link_by log x own partner v r (sym e) (sym f)

  by : (w : Bool) → Makes log x link until w
      → MatchBool w (IsMadeBy (reverse log) until x) (IsMadeBy (reverse log) until x → ⊥)
  by true is = (
    record { own = ap is_some (sym e); partner = ap is_some (sym f); bits = bits_by log x link on ∙ is.0 },
    subst (λ (n : ℕ). x.messages ≤ n) (sym (older_texts log x link until on)) is.1,
  )
  by false not = λ is. not (
    sym (bits_by log x link on) ∙ is.0.bits,
    subst (λ (n : ℕ). x.messages ≤ n) (older_texts log x link until on) is.1,
  )

-- where nothing is named it isn't formed
pub partner_unnamed : (log : List Crossing) (x : Life) (until : ℕ) → None ≡ partner_named (reverse log) x
    → IsMadeBy (reverse log) until x → ⊥
partner_unnamed log x until e is =
    let both : false ≡ true = subst (λ (o : Option ℕ). IsSome o) (sym e) is.0.partner in cc

-- as many messages as it counts are there
all_there : (log : List Crossing) (x : Life) → IsFormed log x → x.messages ≤ length (texts_on x (link_of log x) log)
all_there log x h =
    (data_read (receives x) x.messages (texts_on x (link_of log x) log) x.bits h.bits).enough

module _ (log : List Crossing) (x : Life) (until : ℕ)
    (at : until ≡ end_after (length log) (deeds_in (reverse log)) x) where
  -- what had crossed before it was over, by its stage
  end_is : (s : Stage) → stage [] x (reverse log) ≡ s
      → until ≡ end_by (length log) (begun_by (course [] x (reverse log)).early s)
  end_is s is =
      at ∙ ap (λ (k : Course). end_by (length log) (begun_of (pace_of k))) (all_crossings x (reverse log))
      ∙ ap (λ (t : Stage). end_by (length log) (begun_by (course [] x (reverse log)).early t)) is

  abbrev Enough : ℕ → Type 0
  Enough n = x.messages ≤ length (texts_on x (link_of (reverse log) x) (before n (reverse log)))

  pub made_until : IsMadeBy (reverse log) until x → IsMade (reverse log) x
  made_until h = record {
    formed = h.0;
    within = λ cause place is. subst Enough (end_is (Over cause place) is) h.1;
  }

  pub until_made : IsMade (reverse log) x → IsMadeBy (reverse log) until x
  until_made m = (m.formed, by (stage [] x (reverse log)) refl) where
    before_all : before (length log) (reverse log) ≡ reverse log
    before_all =
        before_take log (length log)
        ∙ ap (λ (cs : List Crossing). reverse cs) (take_all (length log) log (omega arith))

    whole : until ≡ length log → Enough until
    whole e =
        subst Enough (sym e)
        (subst (λ (cs : List Crossing). x.messages ≤ length (texts_on x (link_of (reverse log) x) cs)) (sym before_all)
        (all_there (reverse log) x m.formed))

    by : (s : Stage) → stage [] x (reverse log) ≡ s → Enough until
    by (Asking own partner) is = whole (end_is (Asking own partner) is)
    by (Going own partner) is = whole (end_is (Going own partner) is)
    by (Over cause place) is = subst Enough (sym (end_is (Over cause place) is)) (m.within cause place is)

-- ---- all lives

contains_take : {X : Type 0} (n : ℕ) (xs : List X) (x : X) → Contains (take n xs) x → Contains xs x
contains_take zero xs x c = absurd (contains_none x c)
contains_take (suc n) [] x c = absurd (contains_none x c)
contains_take {X} (suc n) (y ∷ xs) x c = elim (contains_cases y (take n xs) x c) [
  | inl e ↦ subst (λ (z : X). Contains (z ∷ xs) x) (sym e) (contains_head x xs)
  | inr d ↦ contains_tail y xs x (contains_take n xs x d)
]

-- the first of several lives that are all made so are, too
pub made_front : (log : List Crossing) (lives : List Life) (n : ℕ) → AreMade log lives
    → AreMade log (take n lives)
made_front log lives n a x c = a x (contains_take n lives x c)

-- a log that is turned round twice
pub made_twice : (log : List Crossing) (lives : List Life) → AreMade log lives
    → AreMade (reverse (reverse log)) lives
made_twice log lives made = subst (λ (cs : List Crossing). AreMade cs lives) (sym (reverse-reverse log)) made

-- each life is formed, whether or not it is over
pub made_formed : (log : List Crossing) (lives : List Life) → AreMade log lives → FormedBook log lives
made_formed log lives made x there = (made x there).formed

-- of nothing no life is made
pub none_made : (x : Life) → UnmadeAt [] (x ∷ []) 0
none_made x = (
  λ y there. absurd (contains_none y there),
  λ made. (let both : false ≡ true =
      (made x (contains_head x [])).formed.own in cc),
)

-- ---- the search

at_end : {X : Type 0} (xs : List X) (x : X) → Contains (xs ++ x ∷ []) x
at_end [] x = contains_head x []
at_end (y ∷ xs) x = contains_tail y (xs ++ x ∷ []) x (at_end xs x)

more_cases : {X : Type 0} (xs : List X) (x y : X) → Contains (xs ++ x ∷ []) y → (x ≡ y) ⊎ Contains xs y
more_cases [] x y c = elim (contains_cases x [] y c) [ inl e ↦ inl e | inr d ↦ absurd (contains_none y d) ]
more_cases (z ∷ xs) x y c = elim (contains_cases z (xs ++ x ∷ []) y c) [
  | inl e ↦ inr (subst (λ (w : _). Contains (w ∷ xs) y) (sym e) (contains_head y xs))
  | inr d ↦ elim (more_cases xs x y d) [ inl s ↦ inl s | inr t ↦ inr (contains_tail z xs y t) ]
]

-- one life more
pub more_is : (lives : List Life) (place : ℕ) (x : Life) → place < length lives → x ≡ get_or lives place x
    → take (place + 1) lives ≡ take place lives ++ x ∷ []
more_is lives place x lt at = take_more lives place x lt ∙ ap (λ (z : Life). take place lives ++ z ∷ []) (sym at)

pub made_more : (log : List Crossing) (lives : List Life) (place : ℕ) (x : Life) → place < length lives
    → x ≡ get_or lives place x → IsMade (reverse log) x → AreMade (reverse log) (take place lives)
    → AreMade (reverse log) (take (place + 1) lives)
made_more log lives place x lt at is all y c = elim (more_cases (take place lives) x y (subst (λ (zs : List Life). Contains zs y) (more_is lives place x lt at) c)) [
  | inl e ↦ subst (λ (z : Life). IsMade (reverse log) z) e is
  | inr d ↦ all y d
]

pub unmade_here : (log : List Crossing) (lives : List Life) (place : ℕ) (x : Life) → place < length lives
    → x ≡ get_or lives place x → (IsMade (reverse log) x → ⊥) → AreMade (reverse log) (take place lives)
    → UnmadeAt (reverse log) lives place
unmade_here log lives place x lt at not all = (all, λ more. not (more x (subst (λ (zs : List Life). Contains zs x) (sym (more_is lives place x lt at)) (at_end (take place lives) x))))

pub all_made : (log : List Crossing) (lives : List Life) (place : ℕ) → length lives ≤ place
    → AreMade (reverse log) (take place lives) → AreMade (reverse log) lives
all_made log lives place past all = subst (λ (zs : List Life). AreMade (reverse log) zs) (take_all place lives past) all

pub none_yet : (log : List Crossing) (lives : List Life) → AreMade (reverse log) (take 0 lives)
none_yet log lives x c = absurd (contains_none x c)
