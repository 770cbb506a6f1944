-- The lines of a book, in their order, and the first bad one.
use Rattle.book_log.proofs.Common.{flat_map-append, All, zip, Crossing, Fate, Life, ended_line, Lacks, SameCut, same_cut, uncut, IsBadBookLine, IsBookText, IsLine, added, is_bare, line_text, BeginsBook, Line}
use Rattle.std.proofs.Common.{◌≡◌, ℕ, ◌<◌, ◌≤◌, ◌==◌, ◌&&◌, Bool, true, false, suc, List, [], ◌∷◌, ◌++◌, Some, None, codes, length, map, refl, sym, ap, ap₂, ◌∙◌, arith, subst, append_assoc, append-nil, if◌then◌else◌}
use Rattle.std.proofs.lemmas.Bool.{eqb-true, false≢true, and_parts}
use Rattle.std.proofs.lemmas.List.{map-append}
use Rattle.std.proofs.lemmas.List.Elements.{All-append, All-cons, All-head, All-nil, All-tail, All-weaker, All-map}
use Rattle.book_log.specs.Log.{Book, IsBook, IsCrossing, IsHanded, IsLived, log_lines, text_of_lines}
use Rattle.interface.specs.declared.crossing.Crossing.TheVariants as crossing
use Rattle.book_log.specs.declared.lines.Line.TheVariants as line
use Rattle.book_log.proofs.Keywords.{line_ends}
use Rattle.book_log.proofs.Cuts.{first_same, rest_same}

-- ---- the lines that describe a book, without the last one

abbrev pub lived : Life × Fate → Line
lived x = line.Lived x.0 x.1

abbrev pub told : Book → List Line
told b = map (λ c. line.Crossed c) b.crossings ++ (map lived b.lives ++ map (λ bits. line.Handed bits) b.handed)

abbrev pub all_told : Book → List Line
all_told b = told b ++ line.End ∷ []

abbrev pub texts : List Line → List (List ℕ)
texts ls = map line_text ls

map_twice : {X Y Z : Type 0} (f : X → Y) (g : Y → Z) (xs : List X) → map g (map f xs) ≡ map (λ x. g (f x)) xs
map_twice f g [] = refl
map_twice f g (x ∷ xs) = ap (λ ys. g (f x) ∷ ys) (map_twice f g xs)

pub lines_are : (b : Book) → log_lines b ≡ texts (all_told b)
lines_are b =
    let cs : List Line = map (λ c. line.Crossed c) b.crossings in
    let xs : List Line = map lived b.lives in
    let hs : List Line = map (λ bits. line.Handed bits) b.handed in
    let last : List Line = line.End ∷ [] in
    sym (ap texts (append_assoc cs (xs ++ hs) last ∙ ap (λ ys. cs ++ ys) (append_assoc xs hs last))
    ∙ map-append line_text cs (xs ++ (hs ++ last))
    ∙ ap₂ (λ (u v : List (List ℕ)). u ++ v) (map_twice (λ c. line.Crossed c) line_text b.crossings)
    (map-append line_text xs (hs ++ last)
    ∙ ap₂ (λ (u v : List (List ℕ)). u ++ v) (map_twice lived line_text b.lives)
    (map-append line_text hs last ∙ ap (λ u. u ++ texts last) (map_twice (λ bits. line.Handed bits) line_text b.handed))))

all_map : {X Y : Type 0} (P : Y → Type 0) (f : X → Y) (xs : List X) → All (λ x. P (f x)) xs → All P (map f xs)
all_map P f xs h = All-map P f xs h

pub told_are : (b : Book) → IsBook b → All IsLine (told b)
told_are b is =
    All-append IsLine (map (λ c. line.Crossed c) b.crossings) _ (all_map IsLine (λ c. line.Crossed c) b.crossings is.crossings)
    (All-append IsLine (map lived b.lives) _ (all_map IsLine lived b.lives is.lives) (all_map IsLine (λ bits. line.Handed bits) b.handed is.handed))

pub all_told_are : (b : Book) → IsBook b → All IsLine (all_told b)
all_told_are b is = All-append IsLine (told b) (line.End ∷ []) (told_are b is) (All-cons IsLine line.End [] tt (All-nil IsLine))

-- ---- their order

-- crossings, lives, lists of bits, and the last line
abbrev pub rank : Line → ℕ
rank (line.Crossed c) = 0
rank (line.Lived x f) = 1
rank (line.Handed bits) = 2
rank line.End = 3

-- the same by the first octet of a line
abbrev pub octet_rank : ℕ → ℕ
octet_rank o = if o == 108 then 1 else (if o == 104 then 2 else (if o == 101 then 3 else 0))

abbrev pub text_rank : List ℕ → ℕ
text_rank [] = 0
text_rank (o ∷ os) = octet_rank o

pub rank_is : (l : Line) → text_rank (line_text l) ≡ rank l
rank_is (line.Crossed (crossing.Out m)) = refl
rank_is (line.Crossed c) = refl
rank_is l = refl

-- a line may follow another
pub record Follows (r s : ℕ) : Type 0 where
  pub order : r ≤ s
  pub early : r < 3

abbrev pub InOrder : List Line → Type 0
InOrder [] = Unit {0}
InOrder (l ∷ ls) = All (λ k. Follows (rank l) (rank k)) ls × InOrder ls

-- every line of the first list may be before every line of the second
in_order-append : (ls ks : List Line) → InOrder ls → InOrder ks → All (λ l. All (λ k. Follows (rank l) (rank k)) ks) ls → InOrder (ls ++ ks)
in_order-append [] ks h k between = k
in_order-append (l ∷ ls) ks h k between = (
  All-append (λ j. Follows (rank l) (rank j)) ls ks h.0 (All-head (λ l. All (λ k. Follows (rank l) (rank k)) ks) l ls between),
  in_order-append ls ks h.1 k (All-tail (λ l. All (λ k. Follows (rank l) (rank k)) ks) l ls between),
)

-- lines of one rank
abbrev pub AreOf : ℕ → List Line → Type 0
AreOf r ls = All (λ l. rank l ≡ r) ls

of_one : (r : ℕ) (ls : List Line) → r < 3 → AreOf r ls → InOrder ls
of_one r [] low h = tt
of_one r (l ∷ ls) low h =
    let head : rank l ≡ r = All-head (λ l. rank l ≡ r) l ls h in (
      All-weaker (λ k. rank k ≡ r) (λ k. Follows (rank l) (rank k)) (λ k is. record { order = omega (arith, head, is); early = omega (arith, head) }) ls (All-tail (λ l. rank l ≡ r) l ls h),
      of_one r ls low (All-tail (λ l. rank l ≡ r) l ls h),
    )

-- lines of a rank of at least this
abbrev AreFrom : ℕ → List Line → Type 0
AreFrom r ls = All (λ l. r ≤ rank l) ls

before_higher : (r s : ℕ) (ls ks : List Line) → r ≤ s → r < 3 → AreOf r ls → AreFrom s ks → All (λ l. All (λ k. Follows (rank l) (rank k)) ks) ls
before_higher r s ls ks le low h k =
    All-weaker (λ l. rank l ≡ r) (λ l. All (λ k. Follows (rank l) (rank k)) ks)
    (λ l is. All-weaker (λ k. s ≤ rank k) (λ k. Follows (rank l) (rank k)) (λ j at. record { order = omega (arith, is, at); early = omega (arith, is) }) ks k) ls h

pub all_of : {X : Type 0} (r : ℕ) (f : X → Line) (xs : List X) → ((x : X) → rank (f x) ≡ r) → AreOf r (map f xs)
all_of r f [] same = All-nil (λ l. rank l ≡ r)
all_of r f (x ∷ xs) same = All-cons (λ l. rank l ≡ r) (f x) (map f xs) (same x) (all_of r f xs same)

from_of : (r s : ℕ) (ls : List Line) → s ≤ r → AreOf r ls → AreFrom s ls
from_of r s ls le h = All-weaker (λ l. rank l ≡ r) (λ l. s ≤ rank l) (λ l is. omega (arith, is)) ls h

lists_in_order : (hs : List Line) → AreOf 2 hs → InOrder (hs ++ line.End ∷ [])
lists_in_order hs h =
    in_order-append hs (line.End ∷ []) (of_one 2 hs (omega arith) h) (All-nil (λ k. Follows 3 (rank k)), tt)
    (before_higher 2 3 hs (line.End ∷ []) (omega arith) (omega arith) h (All-cons (λ l. 3 ≤ rank l) line.End [] (omega arith) (All-nil (λ l. 3 ≤ rank l))))

lives_in_order : (xs hs : List Line) → AreOf 1 xs → AreOf 2 hs → InOrder (xs ++ (hs ++ line.End ∷ []))
lives_in_order xs hs x h =
    in_order-append xs (hs ++ line.End ∷ []) (of_one 1 xs (omega arith) x) (lists_in_order hs h)
    (before_higher 1 2 xs (hs ++ line.End ∷ []) (omega arith) (omega arith) x
    (All-append (λ l. 2 ≤ rank l) hs (line.End ∷ []) (from_of 2 2 hs (omega arith) h) (All-cons (λ l. 2 ≤ rank l) line.End [] (omega arith) (All-nil (λ l. 2 ≤ rank l)))))

all_in_order : (cs xs hs : List Line) → AreOf 0 cs → AreOf 1 xs → AreOf 2 hs → InOrder (cs ++ (xs ++ (hs ++ line.End ∷ [])))
all_in_order cs xs hs c x h =
    in_order-append cs (xs ++ (hs ++ line.End ∷ [])) (of_one 0 cs (omega arith) c) (lives_in_order xs hs x h)
    (before_higher 0 0 cs (xs ++ (hs ++ line.End ∷ [])) (omega arith) (omega arith) c
    (All-append (λ l. 0 ≤ rank l) xs _ (from_of 1 0 xs (omega arith) x)
    (All-append (λ l. 0 ≤ rank l) hs (line.End ∷ []) (from_of 2 0 hs (omega arith) h) (All-cons (λ l. 0 ≤ rank l) line.End [] (omega arith) (All-nil (λ l. 0 ≤ rank l))))))

pub book_in_order : (b : Book) → InOrder (all_told b)
book_in_order b =
    let cs : List Line = map (λ c. line.Crossed c) b.crossings in
    let xs : List Line = map lived b.lives in
    let hs : List Line = map (λ bits. line.Handed bits) b.handed in
    subst InOrder (sym (append_assoc cs (xs ++ hs) (line.End ∷ []) ∙ ap (λ ys. cs ++ ys) (append_assoc xs hs (line.End ∷ []))))
    (all_in_order cs xs hs (all_of 0 (λ c. line.Crossed c) b.crossings (λ c. refl)) (all_of 1 lived b.lives (λ x. refl)) (all_of 2 (λ bits. line.Handed bits) b.handed (λ bits. refl)))

-- a list with its lines distinguished from the texts
pub record Split (ls : List Line) (front : List (List ℕ)) (text : List ℕ) (more : List (List ℕ)) : Type 0 where
  pub before : List Line
  pub here : Line
  pub behind : List Line
  pub whole : ls ≡ before ++ here ∷ behind
  pub fronts : texts before ≡ front
  pub is : line_text here ≡ text

pub nil_not : {X : Type 0} {x : X} {xs : List X} → [] ≡ x ∷ xs → ⊥
nil_not e = cc

pub split_at : (ls : List Line) (front : List (List ℕ)) (text : List ℕ) (more : List (List ℕ)) → texts ls ≡ front ++ text ∷ more → Split ls front text more
split_at [] [] text more e = absurd (nil_not e)
split_at [] (f ∷ front) text more e = absurd (nil_not e)
split_at (l ∷ ls) [] text more e = record { before = []; here = l; behind = ls; whole = refl; fronts = refl; is = first_same e }
split_at (l ∷ ls) (f ∷ front) text more e =
    let rest : Split ls front text more = split_at ls front text more (rest_same e) in
    record {
      before = l ∷ rest.before;
      here = rest.here;
      behind = rest.behind;
      whole = ap (λ ys. l ∷ ys) rest.whole;
      fronts = (λ i. first_same e i ∷ rest.fronts i);
      is = rest.is;
    }

-- all lines before one may be before it
order_before : (ls : List Line) (l : Line) (ks : List Line) → InOrder (ls ++ l ∷ ks) → All (λ k. Follows (rank k) (rank l)) ls
order_before [] l ks h = All-nil (λ k. Follows (rank k) (rank l))
order_before (j ∷ ls) l ks h =
    All-cons (λ k. Follows (rank k) (rank l)) j ls (middle (λ k. Follows (rank j) (rank k)) ls l ks h.0) (order_before ls l ks h.1)
  where
    middle : (P : Line → Type 0) (xs : List Line) (x : Line) (ys : List Line) → All P (xs ++ x ∷ ys) → P x
    middle P [] x ys h = All-head P x ys h
    middle P (y ∷ xs) x ys h = middle P xs x ys (All-tail P y (xs ++ x ∷ ys) h)

pub middle_of : {X : Type 0} (P : X → Type 0) (xs : List X) (x : X) (ys : List X) → All P (xs ++ x ∷ ys) → P x
middle_of P [] x ys h = All-head P x ys h
middle_of P (y ∷ xs) x ys h = middle_of P xs x ys (All-tail P y (xs ++ x ∷ ys) h)

-- the same of texts
text_order : (ls : List Line) (front : List (List ℕ)) (l : Line) → texts ls ≡ front → All (λ k. Follows (rank k) (rank l)) ls → All (λ t. Follows (text_rank t) (rank l)) front
text_order ls front l same h =
    subst (All (λ t. Follows (text_rank t) (rank l))) same
    (All-map (λ t. Follows (text_rank t) (rank l)) line_text ls
    (All-weaker (λ k. Follows (rank k) (rank l)) (λ k. Follows (text_rank (line_text k)) (rank l)) (λ k f. subst (λ r. Follows r (rank l)) (sym (rank_is k)) f) ls h))

-- ---- what a log begins with

-- the line after the first lines of a log is a line, and each of them may be before it
pub record Next (front : List (List ℕ)) (text : List ℕ) : Type 0 where
  pub here : Line
  pub valid : IsLine here
  pub is : text ≡ line_text here
  pub order : All (λ t. Follows (text_rank t) (rank here)) front

next_of : (b : Book) → IsBook b → (front : List (List ℕ)) (text : List ℕ) (more : List (List ℕ)) → log_lines b ≡ front ++ text ∷ more → Next front text
next_of b valid front text more e =
    let cut : Split (all_told b) front text more = split_at (all_told b) front text more (sym (lines_are b) ∙ e) in
    record {
      here = cut.here;
      valid = middle_of IsLine cut.before cut.here cut.behind (subst (All IsLine) cut.whole (all_told_are b valid));
      is = sym cut.is;
      order = text_order cut.before front cut.here cut.fronts (order_before cut.before cut.here cut.behind (subst InOrder cut.whole (book_in_order b)));
    }

pub next : (front : List (List ℕ)) (text : List ℕ) → BeginsBook (front ++ text ∷ []) → Next front text
next front text h = next_of h.book h.valid front text h.more (h.whole ∙ append_assoc front (text ∷ []) h.more)

-- a log has a last line
pub last_line : (b : Book) → log_lines b ≡ texts (told b) ++ codes "end" ∷ []
last_line b = lines_are b ∙ map-append line_text (told b) (line.End ∷ [])

low_ranks : (b : Book) → All (λ t. text_rank t < 3) (texts (told b))
low_ranks b =
    All-map (λ t. text_rank t < 3) line_text (told b)
    (All-append (λ l. text_rank (line_text l) < 3) (map (λ c. line.Crossed c) b.crossings) _ (low 0 (λ c. line.Crossed c) b.crossings (omega arith) (λ c. refl))
    (All-append (λ l. text_rank (line_text l) < 3) (map lived b.lives) _ (low 1 lived b.lives (omega arith) (λ x. refl)) (low 2 (λ bits. line.Handed bits) b.handed (omega arith) (λ bits. refl))))
  where
    low : {X : Type 0} (r : ℕ) (f : X → Line) (xs : List X) → r < 3 → ((x : X) → rank (f x) ≡ r) → All (λ l. text_rank (line_text l) < 3) (map f xs)
    low r f xs few same = All-weaker (λ l. rank l ≡ r) (λ l. text_rank (line_text l) < 3) (λ l is. let is_rank : text_rank (line_text l) ≡ rank l = rank_is l in omega (arith, is, is_rank)) (map f xs) (all_of r f xs same)

-- without its last line it is none
pub not_whole : (b c : Book) → log_lines c ≡ texts (told b) → ⊥
not_whole b c e =
    let high : text_rank (codes "end") < 3 = middle_of (λ t. text_rank t < 3) (texts (told c)) (codes "end") [] (subst (All (λ t. text_rank t < 3)) (sym e ∙ last_line c) (low_ranks b)) in
    absurd (omega (arith, high))

-- some log begins with the lines of a book
pub begins_told : (b : Book) → IsBook b → BeginsBook (texts (told b))
begins_told b valid = record { book = b; valid = valid; more = codes "end" ∷ []; whole = last_line b }

pub begins_all : (b : Book) → IsBook b → BeginsBook (texts (told b) ++ codes "end" ∷ [])
begins_all b valid = record { book = b; valid = valid; more = []; whole = last_line b ∙ sym (append-nil (texts (told b) ++ codes "end" ∷ [])) }

-- ---- the octets of lines

pub text_of_lines-append : (xs ys : List (List ℕ)) → text_of_lines (xs ++ ys) ≡ text_of_lines xs ++ text_of_lines ys
text_of_lines-append xs ys = flat_map-append ended_line xs ys

pub text_of_lines_more : (xs : List (List ℕ)) (line more : List ℕ) → text_of_lines xs ++ (line ++ 10 ∷ more) ≡ text_of_lines (xs ++ line ∷ []) ++ more
text_of_lines_more xs line more = sym
    (ap (λ t. t ++ more) (text_of_lines-append xs (line ∷ []) ∙ ap (λ t. text_of_lines xs ++ t) (append-nil (ended_line line)))
    ∙ append_assoc (text_of_lines xs) (ended_line line) more ∙ ap (λ t. text_of_lines xs ++ t) (append_assoc line (10 ∷ []) more))

pub ended_more : (line rest : List ℕ) → ended_line line ++ rest ≡ line ++ 10 ∷ rest
ended_more line rest = append_assoc line (10 ∷ []) rest

pub not_ended : (line rest : List ℕ) → [] ≡ ended_line line ++ rest → ⊥
not_ended [] rest e = absurd (nil_not e)
not_ended (o ∷ os) rest e = absurd (nil_not e)

-- lines that are known in two ways: the shorter list begins the longer one, or there are octets left after it
pub record Longer (front all : List (List ℕ)) (rest : List ℕ) : Type 0 where
  pub more : List (List ℕ)
  pub whole : all ≡ front ++ more
  pub left : rest ≡ text_of_lines more

pub longer : (front all : List (List ℕ)) (rest : List ℕ) → All (Lacks 10) front → All (Lacks 10) all → text_of_lines front ++ rest ≡ text_of_lines all → Longer front all rest
longer [] all rest h k e = record { more = all; whole = refl; left = e }
longer (f ∷ front) [] rest h k e = absurd (not_ended f (text_of_lines front ++ rest) (sym e ∙ append_assoc (ended_line f) (text_of_lines front) rest))
longer (f ∷ front) (a ∷ all) rest h k e =
    let cut : SameCut f (text_of_lines front ++ rest) a (text_of_lines all) =
    same_cut 10 f (text_of_lines front ++ rest) a (text_of_lines all) (All-head (Lacks 10) f front h) (All-head (Lacks 10) a all k)
    (sym (ended_more f (text_of_lines front ++ rest)) ∙ sym (append_assoc (ended_line f) (text_of_lines front) rest) ∙ e ∙ ended_more a (text_of_lines all)) in
    let rests : Longer front all rest = longer front all rest (All-tail (Lacks 10) f front h) (All-tail (Lacks 10) a all k) cut.back in
    record { more = rests.more; whole = ap₂ (λ (z : List ℕ) (zs : List (List ℕ)). z ∷ zs) (sym cut.front) rests.whole; left = rests.left }

-- no line of a log has a line feed
pub log_ends : (b : Book) → IsBook b → All (Lacks 10) (log_lines b)
log_ends b valid =
    subst (All (Lacks 10)) (sym (lines_are b))
    (All-map (Lacks 10) line_text (all_told b) (All-weaker IsLine (λ l. Lacks 10 (line_text l)) (λ l is. line_ends l is) (all_told b) (all_told_are b valid)))

pub front_of : {X : Type 0} (P : X → Type 0) (xs ys : List X) → All P (xs ++ ys) → All P xs
front_of P [] ys h = All-nil P
front_of P (x ∷ xs) ys h = All-cons P x xs (All-head P x (xs ++ ys) h) (front_of P xs ys (All-tail P x (xs ++ ys) h))

pub begins_ends : (lines : List (List ℕ)) → BeginsBook lines → All (Lacks 10) lines
begins_ends lines h = front_of (Lacks 10) lines h.more (subst (All (Lacks 10)) h.whole (log_ends h.book h.valid))

-- ---- the first bad line

-- where no log begins so, and the lines before it are no whole log with nothing after it, there is no log
pub bad_line : (octets rest : List ℕ) (before : List (List ℕ)) (number : ℕ) → octets ≡ text_of_lines before ++ rest
    → number ≡ suc (length before) → BeginsBook before
    → ((line more : List ℕ) → rest ≡ ended_line line ++ more → BeginsBook (before ++ line ∷ []) → ⊥)
    → ((b : Book) → IsBook b → log_lines b ≡ before → rest ≡ [] → ⊥) → IsBadBookLine octets number
bad_line octets rest before number parted counted begins bad whole = record { before = before; rest = rest; parted = parted; counted = counted; begins = begins; bad = bad; none = λ b is. by b is (longer before (log_lines b) rest (begins_ends before begins) (log_ends b is.valid) (sym parted ∙ is.spelled)) }
  where
    by : (b : Book) → IsBookText octets b → Longer before (log_lines b) rest → ⊥
    by b is h = cases h.more h.whole h.left
      where
        cases : (more : List (List ℕ)) → log_lines b ≡ before ++ more → rest ≡ text_of_lines more → ⊥
        cases [] e left = whole b is.valid (e ∙ append-nil before) left
        cases (line ∷ more) e left = bad line (text_of_lines more) left (record { book = b; valid = is.valid; more = more; whole = e ∙ sym (append_assoc before (line ∷ []) more) })

-- the line that was read
pub this_line : (rest line more : List ℕ) (before : List (List ℕ)) → rest ≡ line ++ 10 ∷ more → Lacks 10 line
    → (Next before line → ⊥) → (other rest_of : List ℕ) → rest ≡ ended_line other ++ rest_of
    → BeginsBook (before ++ other ∷ []) → ⊥
this_line rest line more before is lacks none other rest_of e begins =
    let ends : Lacks 10 other = middle_of (Lacks 10) before other [] (begins_ends (before ++ other ∷ []) begins) in
    let cut : SameCut line more other rest_of = same_cut 10 line more other rest_of lacks ends (sym is ∙ e ∙ ended_more other rest_of) in
    none (subst (Next before) (sym cut.front) (next before other begins))

-- a text without a line feed has no further line
pub no_end : (rest : List ℕ) → Lacks 10 rest → (line more : List ℕ) → rest ≡ ended_line line ++ more → ⊥
no_end rest lacks line more e = uncut 10 line more (subst (Lacks 10) (e ∙ ended_more line more) lacks)

-- ---- reading a book line by line

-- a line that is added is after the others
some_same : {X : Type 0} {x y : X} → Some x ≡ Some y → x ≡ y
some_same e = cc

none_some : {X : Type 0} {x : X} → None ≡ Some x → ⊥
none_some e = cc

bare_nil : {X : Type 0} (xs : List X) → is_bare xs ≡ true → xs ≡ []
bare_nil [] e = refl
bare_nil (x ∷ xs) e = absurd (false≢true e)

pub record Added (l : Line) (old new : Book) : Type 0 where
  pub lines : told new ≡ told old ++ l ∷ []
  pub valid : IsBook old → IsLine l → IsBook new

with_crossing : (c : Crossing) (b : Book) → b.lives ≡ [] → b.handed ≡ [] → Added (line.Crossed c) b (record b { crossings = b.crossings ++ c ∷ [] })
with_crossing c b lives handed = record {
  lines =
      let none : map lived b.lives ++ map (λ bits. line.Handed bits) b.handed ≡ [] = ap₂ (λ (xs : List (Life × Fate)) (hs : List (List Bool)). map lived xs ++ map (λ bits. line.Handed bits) hs) lives handed in
      let cs : List Line = map (λ d. line.Crossed d) b.crossings in
      ap₂ (λ (us vs : List Line). us ++ vs) (map-append (λ d. line.Crossed d) b.crossings (c ∷ [])) none
      ∙ append-nil (cs ++ line.Crossed c ∷ []) ∙ ap (λ us. us ++ line.Crossed c ∷ []) (sym (append-nil cs) ∙ ap (λ vs. cs ++ vs) (sym none));
  valid = λ is l. record { crossings = All-append IsCrossing b.crossings (c ∷ []) is.crossings (All-cons IsCrossing c [] l (All-nil IsCrossing)); lives = is.lives; handed = is.handed };
}

with_life : (x : Life) (f : Fate) (b : Book) → b.handed ≡ [] → Added (line.Lived x f) b (record b { lives = b.lives ++ (x, f) ∷ [] })
with_life x f b handed = record {
  lines =
      let none : map (λ bits. line.Handed bits) b.handed ≡ [] = ap (map (λ bits. line.Handed bits)) handed in
      let cs : List Line = map (λ d. line.Crossed d) b.crossings in
      let xs : List Line = map lived b.lives in
      ap (λ us. cs ++ us) (ap₂ (λ (us vs : List Line). us ++ vs) (map-append lived b.lives ((x, f) ∷ [])) none ∙ append-nil (xs ++ line.Lived x f ∷ []))
      ∙ sym (append_assoc cs xs (line.Lived x f ∷ [])) ∙ ap (λ us. (cs ++ us) ++ line.Lived x f ∷ []) (sym (append-nil xs) ∙ ap (λ vs. xs ++ vs) (sym none));
  valid = λ is l. record { crossings = is.crossings; lives = All-append IsLived b.lives ((x, f) ∷ []) is.lives (All-cons IsLived (x, f) [] l (All-nil IsLived)); handed = is.handed };
}

with_list : (bits : List Bool) (b : Book) → Added (line.Handed bits) b (record b { handed = b.handed ++ bits ∷ [] })
with_list bits b = record {
  lines =
      let cs : List Line = map (λ d. line.Crossed d) b.crossings in
      let xs : List Line = map lived b.lives in
      let hs : List Line = map (λ h. line.Handed h) b.handed in
      ap (λ us. cs ++ (xs ++ us)) (map-append (λ h. line.Handed h) b.handed (bits ∷ []))
      ∙ ap (λ us. cs ++ us) (sym (append_assoc xs hs (line.Handed bits ∷ []))) ∙ sym (append_assoc cs (xs ++ hs) (line.Handed bits ∷ []));
  valid = λ is l. record { crossings = is.crossings; lives = is.lives; handed = All-append IsHanded b.handed (bits ∷ []) is.handed (All-cons IsHanded bits [] l (All-nil IsHanded)) };
}

pub was_added : (l : Line) (old new : Book) → added l old ≡ Some new → Added l old new
was_added (line.Crossed c) old new e = by (is_bare old.lives && is_bare old.handed) refl e
  where
    by : (t : Bool) → (is_bare old.lives && is_bare old.handed) ≡ t → (if t then Some (record old { crossings = old.crossings ++ c ∷ [] }) else None) ≡ Some new → Added (line.Crossed c) old new
    by true bare is =
        let both = and_parts (is_bare old.lives) (is_bare old.handed) bare in
        subst (Added (line.Crossed c) old) (some_same is) (with_crossing c old (bare_nil old.lives both.0) (bare_nil old.handed both.1))
    by false bare is = absurd (none_some is)
was_added (line.Lived x f) old new e = by (is_bare old.handed) refl e
  where
    by : (t : Bool) → is_bare old.handed ≡ t → (if t then Some (record old { lives = old.lives ++ (x, f) ∷ [] }) else None) ≡ Some new → Added (line.Lived x f) old new
    by true bare is = subst (Added (line.Lived x f) old) (some_same is) (with_life x f old (bare_nil old.handed bare))
    by false bare is = absurd (none_some is)
was_added (line.Handed bits) old new e = subst (Added (line.Handed bits) old) (some_same e) (with_list bits old)
was_added line.End old new e = absurd (none_some e)

-- ---- lives and their fates, in two lists

zip_more : {X Y : Type 0} (xs : List X) (ys : List Y) (x : X) (y : Y) → length ys ≡ length xs → zip (xs ++ x ∷ []) (ys ++ y ∷ []) ≡ zip xs ys ++ (x, y) ∷ []
zip_more [] [] x y n = refl
zip_more [] (v ∷ ys) x y n = absurd (omega (arith, n))
zip_more (u ∷ xs) [] x y n = absurd (omega (arith, n))
zip_more {X} {Y} (u ∷ xs) (v ∷ ys) x y n = ap (λ (zs : List (X × Y)). (u, v) ∷ zs) (zip_more xs ys x y (omega (arith, n)))

pub life_added : (crossings : List Crossing) (xs us : List Life) (fs vs : List Fate) (handed : List (List Bool)) (x : Life) (f : Fate) (old : Book) → length fs ≡ length xs → us ≡ xs ++ x ∷ [] → vs ≡ fs ++ f ∷ []
    → record { crossings = crossings; lives = zip xs fs; handed = handed } ≡ old → record { crossings = crossings; lives = zip us vs; handed = handed } ≡ record old { lives = old.lives ++ (x, f) ∷ [] }
life_added crossings xs us fs vs handed x f old n p q is =
    let made : List (Life × Fate) → Book = λ zs. record { crossings = crossings; lives = zs; handed = handed } in
    ap made (ap₂ (λ (ls : List Life) (gs : List Fate). zip ls gs) p q ∙ zip_more xs fs x f n) ∙ ap (λ (b : Book). record b { lives = b.lives ++ (x, f) ∷ [] }) is

pub bare_lives : (xs : List (Life × Fate)) → (length (map (λ (x : Life × Fate). x.0) xs) == 0) ≡ is_bare xs
bare_lives [] = refl
bare_lives (x ∷ xs) = by (length (map (λ (y : Life × Fate). y.0) (x ∷ xs)) == 0) refl
  where
    by : (t : Bool) → (length (map (λ (y : Life × Fate). y.0) (x ∷ xs)) == 0) ≡ t → t ≡ false
    by true e = (let some : length (map (λ (y : Life × Fate). y.0) (x ∷ xs)) ≡ 0 = eqb-true (length (map (λ (y : Life × Fate). y.0) (x ∷ xs))) 0 e in absurd (omega (arith, some)))
    by false e = refl
