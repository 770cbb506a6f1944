-- The part of a log that the book borrows.
use Rattle.net_sim.proofs.Common.{◌≡◌, List, ◌++◌, length, take, ap, sym, ◌∙◌, arith, reverse-append, length-reverse, Crossing, Kept}
use Rattle.std.proofs.Common.{reverse}
use Rattle.std.proofs.lemmas.List.{length-append}
use Rattle.std.proofs.Math.Seq.{take-append_seam}
use Rattle.net_sim.specs.Inside.Notes.{BeginsWith}

-- a carrier's log is that of the notes, and what crossed later
pub lent : (k : Kept) (log shown later : List Crossing) → log ≡ reverse shown → shown ≡ later ++ k.book.crossings → BeginsWith k log
lent k log shown later same is = record {
  within = omega (arith, long, length-append (reverse k.book.crossings) (reverse later), length-reverse k.book.crossings);
  oldest =
      ap (λ (xs : List Crossing). take (length k.book.crossings) xs) all
      ∙ ap (λ n. take n (reverse k.book.crossings ++ reverse later)) (sym (length-reverse k.book.crossings))
      ∙ take-append_seam (reverse k.book.crossings) (reverse later);
} where
  all : log ≡ reverse k.book.crossings ++ reverse later
  all = same ∙ ap (λ (xs : List Crossing). reverse xs) is ∙ reverse-append later k.book.crossings

  long : length log ≡ length (reverse k.book.crossings ++ reverse later)
  long = ap (λ (xs : List Crossing). length xs) all
