-- No line of a book is that of a stranger.
use Rattle.book_log.proofs.Common.{Host, Line, ended_line, line_text}
use Rattle.std.proofs.Common.{◌≡◌, ℕ, List, [], ◌∷◌, ◌++◌, sym, ap, ◌∙◌, arith}
use Rattle.book_log.specs.Log.{Book, log_lines, stranger_line, text_of_lines, log_text}
use Rattle.interface.specs.declared.crossing.Crossing.TheVariants as crossing
use Rattle.book_log.specs.declared.lines.Line.TheVariants as line
use Rattle.book_log.proofs.Books.{all_told, lines_are, nil_not, texts}
use Rattle.book_log.proofs.Cuts.{first_same, rest_same}

-- the first octet of a text
begins : List ℕ → ℕ
begins [] = 0
begins (x ∷ xs) = x

-- a line that doesn't begin with an f
abbrev IsOther : List ℕ → Type 0
IsOther text = begins text ≡ 102 → ⊥

other_line : (l : Line) → IsOther (line_text l)
unfolding begins
other_line (line.Crossed (crossing.Out m)) = λ e. let bad : 111 ≡ 102 = e in omega (arith, bad)
other_line (line.Crossed (crossing.In m)) = λ e. let bad : 105 ≡ 102 = e in omega (arith, bad)
other_line (line.Crossed (crossing.Answer kind f)) = λ e. let bad : 97 ≡ 102 = e in omega (arith, bad)
other_line (line.Crossed (crossing.Down h)) = λ e. let bad : 100 ≡ 102 = e in omega (arith, bad)
other_line (line.Crossed (crossing.Up h)) = λ e. let bad : 117 ≡ 102 = e in omega (arith, bad)
other_line (line.Lived x f) = λ e. let bad : 108 ≡ 102 = e in omega (arith, bad)
other_line (line.Handed bits) = λ e. let bad : 104 ≡ 102 = e in omega (arith, bad)
other_line line.End = λ e. let bad : 101 ≡ 102 = e in omega (arith, bad)

not_its : (l : Line) (h : Host) → line_text l ≡ stranger_line h → ⊥
unfolding begins
not_its l h e = other_line l (ap begins e)

in_lines : (ls : List Line) (before : List (List ℕ)) (h : Host) (more : List (List ℕ))
    → texts ls ≡ before ++ stranger_line h ∷ more → ⊥
in_lines [] [] h more e = absurd (nil_not e)
in_lines [] (t ∷ before) h more e = absurd (nil_not e)
in_lines (l ∷ ls) [] h more e = not_its l h (first_same e)
in_lines (l ∷ ls) (t ∷ before) h more e = in_lines ls before h more (rest_same e)

-- no line of a book is a stranger's
pub not_stranger : (b : Book) (before : List (List ℕ)) (h : Host) (more : List (List ℕ))
    → log_lines b ≡ before ++ stranger_line h ∷ more → ⊥
not_stranger b before h more e = in_lines (all_told b) before h more (sym (lines_are b) ∙ e)

-- nor does its text begin with one
begins_so : (ls : List Line) (h : Host) (rest : List ℕ)
    → text_of_lines (texts ls) ≡ ended_line (stranger_line h) ++ rest → ⊥
unfolding begins
begins_so [] h rest e = let bad : 0 ≡ 102 = ap begins e in omega (arith, bad)
begins_so (l ∷ ls) h rest e = by l (ap begins e)
  where
    by : (l : Line) → begins (text_of_lines (texts (l ∷ ls))) ≡ 102 → ⊥
    by (line.Crossed (crossing.Out m)) e = let bad : 111 ≡ 102 = e in omega (arith, bad)
    by (line.Crossed (crossing.In m)) e = let bad : 105 ≡ 102 = e in omega (arith, bad)
    by (line.Crossed (crossing.Answer kind f)) e = let bad : 97 ≡ 102 = e in omega (arith, bad)
    by (line.Crossed (crossing.Down h)) e = let bad : 100 ≡ 102 = e in omega (arith, bad)
    by (line.Crossed (crossing.Up h)) e = let bad : 117 ≡ 102 = e in omega (arith, bad)
    by (line.Lived x f) e = let bad : 108 ≡ 102 = e in omega (arith, bad)
    by (line.Handed bits) e = let bad : 104 ≡ 102 = e in omega (arith, bad)
    by line.End e = let bad : 101 ≡ 102 = e in omega (arith, bad)

pub not_text : (b : Book) (h : Host) (rest : List ℕ) → log_text b ≡ ended_line (stranger_line h) ++ rest → ⊥
not_text b h rest e = begins_so (all_told b) h rest (ap text_of_lines (sym (lines_are b)) ∙ e)
