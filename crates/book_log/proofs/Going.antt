-- Going through the lines of a log.
use Rattle.book_log.proofs.Common.{All-cons, All-head, All-nil, All-tail, All, Fate, Life, Lacks, IsBadBookLine, IsBookText, IsLine, added, is_bare, line_text, Line}
use Rattle.std.proofs.Common.{◌≡◌, ◌≢◌, ℕ, ◌<◌, ◌≤◌, ◌+◌, ◌==◌, ◌&&◌, Bool, true, false, List, [], ◌∷◌, ◌++◌, Some, None, codes, length, map, refl, sym, ap, ap₂, ◌∙◌, arith, subst, append-nil, if◌then◌else◌}
use Rattle.std.proofs.lemmas.Bool.{eqb-true, false≢true}
use Rattle.std.proofs.lemmas.List.{map-append, length-append}
use Rattle.book_log.specs.Log.{Book, IsBook, text_of_lines}
use Rattle.book_log.specs.declared.lines.Line.TheVariants as line
use Rattle.book_log.proofs.Books.{Added, Follows, Next, bad_line, begins_all, begins_told, last_line, lived, middle_of, next, no_end, not_whole, rank, rank_is, text_of_lines_more, text_rank, texts, this_line, told, was_added}
use Rattle.book_log.proofs.Books.{front_of}

-- how far reading has got: these lines are read, and they describe this book
pub record Reached (text left : List ℕ) (b : Book) (passed : ℕ) : Type 0 where
  pub parted : text ≡ text_of_lines (texts (told b)) ++ left
  pub valid : IsBook b
  pub counted : passed ≡ length (texts (told b))

-- the next line is none of a log
pub bad_here : (text left this more : List ℕ) (b : Book) (passed : ℕ) → Reached text left b passed
    → left ≡ this ++ 10 ∷ more → Lacks 10 this → ((l : Line) → IsLine l → this ≢ line_text l)
    → IsBadBookLine text (passed + 1)
bad_here text left this more b passed r is lacks none =
    bad_line text left (texts (told b)) (passed + 1) r.parted (omega (arith, r.counted)) (begins_told b r.valid)
    (this_line left this more (texts (told b)) is lacks (λ n. none n.here n.valid n.is)) (λ c valid e rest. not_whole b c e)

-- no line ends
pub bad_end : (text left : List ℕ) (b : Book) (passed : ℕ) → Reached text left b passed → Lacks 10 left
    → IsBadBookLine text (passed + 1)
bad_end text left b passed r lacks =
    bad_line text left (texts (told b)) (passed + 1) r.parted (omega (arith, r.counted)) (begins_told b r.valid)
    (λ this more e begins. no_end left lacks this more e) (λ c valid e rest. not_whole b c e)

-- the last line, and something after it
pub bad_behind : (text left this more : List ℕ) (b : Book) (passed : ℕ) → Reached text left b passed
    → left ≡ this ++ 10 ∷ more → this ≡ codes "end" → (length more == 0) ≡ false → IsBadBookLine text (passed + 2)
bad_behind text left this more b passed r is end some =
    let before : List (List ℕ) = texts (told b) ++ codes "end" ∷ [] in
    let parted : text ≡ text_of_lines before ++ more =
    r.parted ∙ ap (λ (t : List ℕ). text_of_lines (texts (told b)) ++ t) (is ∙ ap (λ (t : List ℕ). t ++ 10 ∷ more) end) ∙ text_of_lines_more (texts (told b)) (codes "end") more in
    let long : length before ≡ length (texts (told b)) + 1 = length-append (texts (told b)) (codes "end" ∷ []) in
    bad_line text more before (passed + 2) parted (omega (arith, r.counted, long)) (begins_all b r.valid)
    (λ further rest e begins.
    (let n : Next before further = next before further begins in
    let last : Follows 3 (rank n.here) = middle_of (λ (t : List ℕ). Follows (text_rank t) (rank n.here)) (texts (told b)) (codes "end") [] n.order in
    let three : 3 < 3 = last.early in
    absurd (omega (arith, three))))
    (λ c valid e rest. false≢true (sym some ∙ ap (λ (t : List ℕ). length t == 0) rest))

no_octets : (xs : List ℕ) → (length xs == 0) ≡ true → xs ≡ []
no_octets [] h = refl
no_octets (x ∷ xs) h = absurd (let e : length (x ∷ xs) ≡ 0 = eqb-true (length (x ∷ xs)) 0 h in omega (arith, e))

-- the last line, and nothing after it
pub whole : (text left this more : List ℕ) (b : Book) (passed : ℕ) → Reached text left b passed
    → left ≡ this ++ 10 ∷ more → this ≡ codes "end" → (length more == 0) ≡ true → IsBookText text b
whole text left this more b passed r is end empty = let none : more ≡ [] = no_octets more empty in record {
  spelled =
      r.parted ∙ ap (λ (t : List ℕ). text_of_lines (texts (told b)) ++ t) (is ∙ ap₂ (λ (t u : List ℕ). t ++ 10 ∷ u) end none)
      ∙ text_of_lines_more (texts (told b)) (codes "end") [] ∙ append-nil (text_of_lines (texts (told b) ++ codes "end" ∷ [])) ∙ ap text_of_lines (sym (last_line b));
  valid = r.valid;
}

-- ---- a line that may not be there

all_texts : (P : List ℕ → Type 0) (ls : List Line) → All P (texts ls) → All (λ l. P (line_text l)) ls
all_texts P [] h = All-nil (λ l. P (line_text l))
all_texts P (l ∷ ls) h = All-cons (λ k. P (line_text k)) l ls (All-head P (line_text l) (texts ls) h) (all_texts P ls (All-tail P (line_text l) (texts ls) h))

back_of : {X : Type 0} (P : X → Type 0) (xs ys : List X) → All P (xs ++ ys) → All P ys
back_of P [] ys h = h
back_of P (x ∷ xs) ys h = back_of P xs ys (All-tail P x (xs ++ ys) h)

-- where a line follows all lines of a book of which one has a higher rank
after_lives : (r : ℕ) (lives : List (Life × Fate)) → is_bare lives ≡ false → r < 1 → All (λ l. Follows (text_rank (line_text l)) r) (map lived lives) → ⊥
after_lives r [] some low h = false≢true (sym some)
after_lives r (x ∷ lives) some low h =
    let f : Follows 1 r = All-head (λ l. Follows (text_rank (line_text l)) r) (lived x) (map lived lives) h in
    let le : 1 ≤ r = f.order in
    absurd (omega (arith, le, low))

after_lists : (r : ℕ) (handed : List (List Bool)) → is_bare handed ≡ false → r < 2 → All (λ l. Follows (text_rank (line_text l)) r) (map (λ bits. line.Handed bits) handed) → ⊥
after_lists r [] some low h = false≢true (sym some)
after_lists r (x ∷ handed) some low h =
    let f : Follows 2 r = All-head (λ l. Follows (text_rank (line_text l)) r) (line.Handed x) (map (λ y. line.Handed y) handed) h in
    let le : 2 ≤ r = f.order in
    absurd (omega (arith, le, low))

none_some : {X : Type 0} {x : X} → Some x ≡ None → ⊥
none_some e = cc

-- a line that isn't added follows no lines of the book
no_place : (l : Line) (b : Book) → l ≢ line.End → added l b ≡ None → All (λ k. Follows (text_rank (line_text k)) (rank l)) (told b) → ⊥
no_place (line.Crossed c) b other none h =
    let cs : List Line = map (λ d. line.Crossed d) b.crossings in
    let xs : List Line = map lived b.lives in
    let hs : List Line = map (λ bits. line.Handed bits) b.handed in
    let P : Line → Type 0 = λ k. Follows (text_rank (line_text k)) 0 in
    let behind : All P (xs ++ hs) = back_of P cs (xs ++ hs) h in
    by (is_bare b.lives) (is_bare b.handed) refl refl none (front_of P xs hs behind) (back_of P xs hs behind)
  where
    by : (p q : Bool) → is_bare b.lives ≡ p → is_bare b.handed ≡ q → (if p && q then Some (record b { crossings = b.crossings ++ c ∷ [] }) else None) ≡ None
        → All (λ k. Follows (text_rank (line_text k)) 0) (map lived b.lives) → All (λ k. Follows (text_rank (line_text k)) 0) (map (λ bits. line.Handed bits) b.handed) → ⊥
    by true true lives handed e x y = none_some e
    by true false lives handed e x y = after_lists 0 b.handed handed (omega arith) y
    by false q lives handed e x y = after_lives 0 b.lives lives (omega arith) x
no_place (line.Lived x f) b other none h =
    let cs : List Line = map (λ d. line.Crossed d) b.crossings in
    let xs : List Line = map lived b.lives in
    let hs : List Line = map (λ bits. line.Handed bits) b.handed in
    let P : Line → Type 0 = λ k. Follows (text_rank (line_text k)) 1 in
    by (is_bare b.handed) refl none (back_of P xs hs (back_of P cs (xs ++ hs) h))
  where
    by : (q : Bool) → is_bare b.handed ≡ q → (if q then Some (record b { lives = b.lives ++ (x, f) ∷ [] }) else None) ≡ None → All (λ k. Follows (text_rank (line_text k)) 1) (map (λ bits. line.Handed bits) b.handed) → ⊥
    by true handed e y = none_some e
    by false handed e y = after_lists 1 b.handed handed (omega arith) y
no_place (line.Handed bits) b other none h = none_some none
no_place line.End b other none h = other refl

pub bad_place : (text left this more : List ℕ) (b : Book) (passed : ℕ) (l : Line) → Reached text left b passed
    → left ≡ this ++ 10 ∷ more → Lacks 10 this → this ≡ line_text l → l ≢ line.End → added l b ≡ None
    → IsBadBookLine text (passed + 1)
bad_place text left this more b passed l r is lacks spelled other none =
    bad_line text left (texts (told b)) (passed + 1) r.parted (omega (arith, r.counted)) (begins_told b r.valid)
    (this_line left this more (texts (told b)) is lacks
    (λ n.
    (let same : rank n.here ≡ rank l = sym (rank_is n.here) ∙ ap text_rank (sym n.is ∙ spelled) ∙ rank_is l in
    no_place l b other none (all_texts (λ (t : List ℕ). Follows (text_rank t) (rank l)) (told b) (subst (λ (k : ℕ). All (λ (t : List ℕ). Follows (text_rank t) k) (texts (told b))) same n.order)))))
    (λ c valid e rest. not_whole b c e)

-- ---- a line more

pub line_more : (text left this more : List ℕ) (b new : Book) (passed : ℕ) (l : Line) → Reached text left b passed → left ≡ this ++ 10 ∷ more → this ≡ line_text l → IsLine l → added l b ≡ Some new → Reached text more new (passed + 1)
line_more text left this more b new passed l r is spelled meant e =
    let a : Added l b new = was_added l b new e in
    let all : texts (told new) ≡ texts (told b) ++ line_text l ∷ [] = ap texts a.lines ∙ map-append line_text (told b) (l ∷ []) in
    let long : length (texts (told new)) ≡ length (texts (told b)) + 1 = ap length all ∙ length-append (texts (told b)) (line_text l ∷ []) in
    record {
      parted =
          r.parted ∙ ap (λ (t : List ℕ). text_of_lines (texts (told b)) ++ t) (is ∙ ap (λ (t : List ℕ). t ++ 10 ∷ more) spelled)
          ∙ text_of_lines_more (texts (told b)) (line_text l) more ∙ ap (λ (ls : List (List ℕ)). text_of_lines ls ++ more) (sym all);
      valid = a.valid r.valid meant;
      counted = omega (arith, r.counted, long);
    }

-- and fewer octets
pub shorter : (left this more : List ℕ) → left ≡ this ++ 10 ∷ more → length more < length left
shorter left this more is =
    let long : length left ≡ length this + length (10 ∷ more) = ap length is ∙ length-append this (10 ∷ more) in
    omega (arith, long)

-- by all the octets of the line
pub shorter_by : (left this more : List ℕ) → left ≡ this ++ 10 ∷ more → 6 ≤ length this → 6 + length more ≤ length left
shorter_by left this more is six =
    let long : length left ≡ length this + length (10 ∷ more) = ap length is ∙ length-append this (10 ∷ more) in
    omega (arith, long, six)
