-- Words: what a longer word has, and requests whose places grow.
use Rattle.std.proofs.Common.{◌≡◌, ℕ, ◌+◌, ◌<◌, ◌≤◌, List, [], ◌∷◌, ◌++◌, sym, subst, ◌∙◌, inl, inr, arith}
use Rattle.pairing_law.specs.Marks.{Mark, Ask, Close, closes, Asks, IsOlder}

pub closes_more : (new word : List Mark) → closes word ≤ closes (new ++ word)
closes_more [] word = omega arith
closes_more (Ask p ∷ new) word = closes_more new word
closes_more (Close ∷ new) word = let l : closes word ≤ closes (new ++ word) = closes_more new word in omega (arith, l)

asks_more : (k p : ℕ) (new word : List Mark) → Asks k p word → Asks k p (new ++ word)
asks_more k p [] word a = a
asks_more k p (Ask q ∷ new) word a = inr (asks_more k p new word a)
asks_more k p (Close ∷ new) word a = asks_more k p new word a

pub asks_said : (k p : ℕ) (heard said : List Mark) → IsOlder heard said → Asks k p heard → Asks k p said
asks_said k p heard said o a = subst (λ (w : List Mark). Asks k p w) (sym o.1) (asks_more k p o.0 heard a)

pub closes_said : (heard said : List Mark) → IsOlder heard said → closes heard ≤ closes said
closes_said heard said o = subst (λ (w : List Mark). closes heard ≤ closes w) (sym o.1) (closes_more o.0 heard)

-- what comes after a close is of another connection
pub asks_before : (k p : ℕ) (new word : List Mark) → Asks k p (new ++ Close ∷ word) → k ≤ closes word → Asks k p word
asks_before k p [] word a l = a
asks_before k p (Ask q ∷ new) word (inl a) l =
    absurd (let e : k ≡ closes (new ++ Close ∷ word) = a.1 in let m : closes word + 1 ≤ closes (new ++ Close ∷ word) = closes_more new _ in omega (arith, e, l, m))
asks_before k p (Ask q ∷ new) word (inr a) l = asks_before k p new word a l
asks_before k p (Close ∷ new) word a l = asks_before k p new word a l

-- ---- places

-- all requests of a word went out before a place, or from it on
abbrev pub Below : ℕ → List Mark → Type 0
Below p [] = Unit {0}
Below p (Ask q ∷ word) = (q < p) × Below p word
Below p (Close ∷ word) = Below p word

abbrev pub From : ℕ → List Mark → Type 0
From p [] = Unit {0}
From p (Ask q ∷ word) = (p ≤ q) × From p word
From p (Close ∷ word) = From p word

-- each went out after those before it
abbrev pub Grows : List Mark → Type 0
Grows [] = Unit {0}
Grows (Ask p ∷ word) = Below p word × Grows word
Grows (Close ∷ word) = Grows word

pub below_asks : (k p q : ℕ) (word : List Mark) → Below p word → Asks k q word → q < p
below_asks k p q [] b a = absurd a
below_asks k p q (Ask r ∷ word) b (inl a) = let e : q ≡ r = a.0 in let l : r < p = b.0 in omega (arith, e, l)
below_asks k p q (Ask r ∷ word) b (inr a) = below_asks k p q word b.1 a
below_asks k p q (Close ∷ word) b a = below_asks k p q word b a

pub from_asks : (k p q : ℕ) (word : List Mark) → From p word → Asks k q word → p ≤ q
from_asks k p q [] b a = absurd a
from_asks k p q (Ask r ∷ word) b (inl a) = let e : q ≡ r = a.0 in let l : p ≤ r = b.0 in omega (arith, e, l)
from_asks k p q (Ask r ∷ word) b (inr a) = from_asks k p q word b.1 a
from_asks k p q (Close ∷ word) b a = from_asks k p q word b a

pub below_later : (p q : ℕ) (word : List Mark) → p ≤ q → Below p word → Below q word
below_later p q [] l b = tt
below_later p q (Ask r ∷ word) l b = (let m : r < p = b.0 in omega (arith, l, m), below_later p q word l b.1)
below_later p q (Close ∷ word) l b = below_later p q word l b

-- a place is that of one request
pub asks_once : (j k p : ℕ) (word : List Mark) → Grows word → Asks j p word → Asks k p word → j ≡ k
asks_once j k p [] g a b = absurd a
asks_once j k p (Ask q ∷ word) g (inl a) (inl b) = a.1 ∙ sym b.1
asks_once j k p (Ask q ∷ word) g (inl a) (inr b) = absurd (let e : p ≡ q = a.0 in let l : p < q = below_asks k q p word g.0 b in omega (arith, e, l))
asks_once j k p (Ask q ∷ word) g (inr a) (inl b) = absurd (let e : p ≡ q = b.0 in let l : p < q = below_asks j q p word g.0 a in omega (arith, e, l))
asks_once j k p (Ask q ∷ word) g (inr a) (inr b) = asks_once j k p word g.1 a b
asks_once j k p (Close ∷ word) g a b = asks_once j k p word g a b

-- the same of an older word
grows_older : (new word : List Mark) → Grows (new ++ word) → Grows word
grows_older [] word g = g
grows_older (Ask q ∷ new) word g = grows_older new word g.1
grows_older (Close ∷ new) word g = grows_older new word g

-- a request that isn't among the older ones is at another place
pub asks_apart : (k p q : ℕ) (new word : List Mark) → Grows (new ++ Ask p ∷ word) → Asks k q word → q < p
asks_apart k p q new word g a = below_asks k p q word (grows_older new _ g).0 a
