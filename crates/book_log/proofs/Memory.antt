-- Where memory may run out as a log is read.
use Rattle.book_log.proofs.Common.{All-cons, All-nil, Line, ended_line}
use Rattle.std.proofs.Common.{◌≡◌, ℕ, true, List, [], ◌∷◌, ◌++◌, refl, sym, ap, ◌∙◌, subst, ◌⊎◌, Err, IfErr, Ok, Result}
use Rattle.book_log.specs.Log.{Book, IsBook, IsCrossing, IsHanded, IsLived, text_of_lines, HasOctets, RanOut, is_of_octets}
use Rattle.book_log.specs.Steps.{IsLine, line_text, BeginsBook, opening_book, words_in}
use Rattle.book_log.specs.declared.lines.Line.TheVariants as line
use Rattle.book_log.proofs.Books.{begins_told, ended_more, texts, told}
use Rattle.book_log.proofs.Going.{Reached}

-- a line whose first word is one of those
pub has_octets : (word line first : List ℕ) (others : List (List ℕ)) → is_of_octets word ≡ true
    → words_in line ≡ first ∷ others → first ≡ word → HasOctets line
has_octets word line first others one words is = record {
  first = first;
  others = others;
  words = words;
  octets = subst (λ (w : List ℕ). is_of_octets w ≡ true) (sym is) one;
}

pub begins_nothing : BeginsBook []
begins_nothing = begins_told opening_book
    (record { crossings = All-nil IsCrossing; lives = All-nil IsLived; handed = All-nil IsHanded })

-- the book of one line
pub begins_one : (l : Line) → IsLine l → (l ≡ line.End → ⊥) → BeginsBook (line_text l ∷ [])
begins_one (line.Crossed c) is not = begins_told (record opening_book { crossings = c ∷ [] })
    (record { crossings = All-cons IsCrossing c [] is (All-nil IsCrossing); lives = All-nil IsLived; handed = All-nil IsHanded })
begins_one (line.Lived x f) is not = begins_told (record opening_book { lives = (x, f) ∷ [] })
    (record { crossings = All-nil IsCrossing; lives = All-cons IsLived (x, f) [] is (All-nil IsLived); handed = All-nil IsHanded })
begins_one (line.Handed bits) is not = begins_told (record opening_book { handed = bits ∷ [] })
    (record { crossings = All-nil IsCrossing; lives = All-nil IsLived; handed = All-cons IsHanded bits [] is (All-nil IsHanded) })
begins_one line.End is not = absurd (not refl)

-- the line that is read next
pub ran_out : (text left this more : List ℕ) (b : Book) (passed : ℕ) → Reached text left b passed
    → left ≡ this ++ 10 ∷ more → HasOctets this ⊎ BeginsBook (this ∷ []) → RanOut BeginsBook text
ran_out text left this more b passed r is wants = record {
  before = texts (told b);
  line = this;
  rest = more;
  parted = r.parted ∙ ap (λ (t : List ℕ). text_of_lines (texts (told b)) ++ t) (is ∙ sym (ended_more this more));
  begins = begins_told b r.valid;
  wants = wants;
}

-- whatever the fault
pub if_err : {A E P : Type 0} (r : Result A E) → P → IfErr r (λ e. P)
if_err (Ok a) p = tt
if_err (Err e) p = p
