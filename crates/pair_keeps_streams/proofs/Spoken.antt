-- The words of one list of commands after another, and how many CLS they are.
use Rattle.pair_keeps_streams.proofs.Common.{◌≡◌, ℕ, suc, eq-eqb, ◌<◌, Bool, true, false, ◌&&◌, ◌==◌, if◌then◌else◌, List, [], ◌∷◌, ◌++◌, refl, ap, sym, ◌∙◌, arith, append_assoc, is_receive_socket, Command, Word, Rts, Str, Cls, with_closing, closings_in, receiver_word, receiver_words, sender_word, sender_words}
use Rattle.std.proofs.Common.{◌≤◌}
use Rattle.ncp_control.specs.declared.command.Command.TheVariants as command

-- ---- counts

pub closings_append : (xs ys : List Command) (n : ℕ → ℕ → ℕ) → closings_in (xs ++ ys) n ≡ closings_in ys (closings_in xs n)
closings_append [] ys n = refl
closings_append (c ∷ xs) ys n = closings_append xs ys (with_closing c n)

with_same : (c : Command) (n m : ℕ → ℕ → ℕ) → ((own foreign : ℕ) → n own foreign ≡ m own foreign) → (own foreign : ℕ) → with_closing c n own foreign ≡ with_closing c m own foreign
with_same (command.Cls a b) n m e own foreign = by (own == a && foreign == b) where
  by : (v : Bool) → (if v then suc (n own foreign) else n own foreign) ≡ (if v then suc (m own foreign) else m own foreign)
  by true = ap suc (e own foreign)
  by false = e own foreign
with_same c n m e own foreign = e own foreign

pub closings_same : (cs : List Command) (n m : ℕ → ℕ → ℕ) → ((own foreign : ℕ) → n own foreign ≡ m own foreign) → (own foreign : ℕ) → closings_in cs n own foreign ≡ closings_in cs m own foreign
closings_same [] n m e own foreign = e own foreign
closings_same (c ∷ cs) n m e own foreign = closings_same cs (with_closing c n) (with_closing c m) (with_same c n m e) own foreign

-- there are never less
with_more : (c : Command) (n : ℕ → ℕ → ℕ) (own foreign : ℕ) → n own foreign ≤ with_closing c n own foreign
with_more (command.Cls a b) n own foreign = by (own == a && foreign == b) where
  by : (v : Bool) → n own foreign ≤ (if v then suc (n own foreign) else n own foreign)
  by true = omega arith
  by false = omega arith
with_more c n own foreign = omega arith

closings_more : (cs : List Command) (n : ℕ → ℕ → ℕ) (own foreign : ℕ) → n own foreign ≤ closings_in cs n own foreign
closings_more [] n own foreign = omega arith
closings_more (c ∷ cs) n own foreign =
    let a : n own foreign ≤ with_closing c n own foreign = with_more c n own foreign in
    let b : with_closing c n own foreign ≤ closings_in cs (with_closing c n) own foreign = closings_more cs (with_closing c n) own foreign in
    omega (arith, a, b)

with_here : (own foreign : ℕ) (n : ℕ → ℕ → ℕ) → with_closing (command.Cls own foreign) n own foreign ≡ suc (n own foreign)
with_here own foreign n = let a : (own == own) ≡ true = eq-eqb own own refl in let b : (foreign == foreign) ≡ true = eq-eqb foreign foreign refl in rw (a, b) refl

-- ---- words

module _ (number : ℕ → ℕ → ℕ → ℕ) (link : ℕ) where
  pub receiver_append : (asked : ℕ → Bool) (xs ys : List Command) (n : ℕ → ℕ → ℕ)
      → receiver_words number link asked n (xs ++ ys) ≡ receiver_words number link asked n xs ++ receiver_words number link asked (closings_in xs n) ys
  receiver_append asked [] ys n = refl
  receiver_append asked (c ∷ xs) ys n =
      ap (λ (l : List Word). receiver_word number link asked n c ++ l) (receiver_append asked xs ys (with_closing c n))
      ∙ sym (append_assoc (receiver_word number link asked n c) (receiver_words number link asked (with_closing c n) xs) (receiver_words number link asked (closings_in xs (with_closing c n)) ys))

  pub sender_append : (xs ys : List Command) (n : ℕ → ℕ → ℕ) → sender_words number link n (xs ++ ys) ≡ sender_words number link n xs ++ sender_words number link (closings_in xs n) ys
  sender_append [] ys n = refl
  sender_append (c ∷ xs) ys n =
      ap (λ (l : List Word). sender_word number link n c ++ l) (sender_append xs ys (with_closing c n))
      ∙ sym (append_assoc (sender_word number link n c) (sender_words number link (with_closing c n) xs) (sender_words number link (closings_in xs (with_closing c n)) ys))

  -- what the words say of these commands is the same by both counts, and for both lists of what was asked for
  abbrev pub AskedSame : (ℕ → Bool) → (ℕ → Bool) → (ℕ → ℕ → ℕ) → Type 0
  AskedSame asked more n = (own foreign g : ℕ) → g < n own foreign → asked (number own foreign g) ≡ more (number own foreign g)

  receiver_one : (asked more : ℕ → Bool) (n m : ℕ → ℕ → ℕ) → ((own foreign : ℕ) → n own foreign ≡ m own foreign) → (c : Command) → AskedSame asked more (with_closing c n)
      → receiver_word number link asked n c ≡ receiver_word number link more m c
  receiver_one asked more n m e (command.Rts r s l) a = ap (λ (g : ℕ). if l == link then Rts (number r s g) ∷ [] else []) (e r s)
  receiver_one asked more n m e (command.Cls own foreign) a =
      let below : n own foreign < with_closing (command.Cls own foreign) n own foreign = (let h : with_closing (command.Cls own foreign) n own foreign ≡ suc (n own foreign) = with_here own foreign n in omega (arith, h)) in
      ap (λ (v : Bool). if is_receive_socket own && v then Cls (number own foreign (n own foreign)) ∷ [] else []) (a own foreign (n own foreign) below)
      ∙ ap (λ (g : ℕ). if is_receive_socket own && more (number own foreign g) then Cls (number own foreign g) ∷ [] else []) (e own foreign)
  receiver_one asked more n m e c a = refl

  asked_less : (asked more : ℕ → Bool) (cs : List Command) (n : ℕ → ℕ → ℕ) → AskedSame asked more (closings_in cs n) → AskedSame asked more n
  asked_less asked more cs n a own foreign g l = a own foreign g (let h : n own foreign ≤ closings_in cs n own foreign = closings_more cs n own foreign in omega (arith, l, h))

  pub receiver_same : (asked more : ℕ → Bool) (cs : List Command) (n m : ℕ → ℕ → ℕ) → ((own foreign : ℕ) → n own foreign ≡ m own foreign) → AskedSame asked more (closings_in cs n)
      → receiver_words number link asked n cs ≡ receiver_words number link more m cs
  receiver_same asked more [] n m e a = refl
  receiver_same asked more (c ∷ cs) n m e a =
      ap (λ (l : List Word). l ++ receiver_words number link asked (with_closing c n) cs) (receiver_one asked more n m e c (asked_less asked more cs _ a))
      ∙ ap (λ (l : List Word). receiver_word number link more m c ++ l) (receiver_same asked more cs (with_closing c n) (with_closing c m) (with_same c n m e) a)

  sender_one : (n m : ℕ → ℕ → ℕ) → ((own foreign : ℕ) → n own foreign ≡ m own foreign) → (c : Command) → sender_word number link n c ≡ sender_word number link m c
  sender_one n m e (command.Str s r z) = ap (λ (g : ℕ). Str (number s r g) z ∷ []) (e s r)
  sender_one n m e (command.Cls own foreign) = ap (λ (g : ℕ). if is_receive_socket own then [] else Cls (number own foreign g) ∷ []) (e own foreign)
  sender_one n m e c = refl

  pub sender_same : (cs : List Command) (n m : ℕ → ℕ → ℕ) → ((own foreign : ℕ) → n own foreign ≡ m own foreign) → sender_words number link n cs ≡ sender_words number link m cs
  sender_same [] n m e = refl
  sender_same (c ∷ cs) n m e =
      ap (λ (l : List Word). l ++ sender_words number link (with_closing c n) cs) (sender_one n m e c)
      ∙ ap (λ (l : List Word). sender_word number link m c ++ l) (sender_same cs (with_closing c n) (with_closing c m) (with_same c n m e))
