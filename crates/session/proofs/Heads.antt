-- The head of an input is heard line by line.
use Rattle.std.proofs.Common.{◌≡◌, ◌≢◌, ◌<◌, ◌==◌, ◌+◌, ◌∙◌, ℕ, false, List, [], ◌∷◌, ◌++◌, Option, None, Some, IfSome, ap, ap₂, arith, codes, inl, length, refl, subst, sym}
use Rattle.std.proofs.KnownBytes.{Consumes-whole}
use Rattle.std.proofs.lemmas.Grind.{flat_map-append}
use Rattle.std.proofs.lemmas.List.{append-nil, append_assoc, length-append}
use Rattle.std.proofs.lemmas.List.Elements.{All-append, All-cons, All-nil}
use Rattle.std.specs.Io.KnownBytes.{IsAtEnd}
use Rattle.std.specs.List.{All, flat_map}
use Rattle.command_line.specs.Steps.{IsReadFault}
use Rattle.command_line.specs.declared.fault.ScriptFault.{ScriptFault}
use Rattle.command_line.specs.declared.fault.ScriptFault.TheVariants as fault
use Rattle.script.specs.Input.{ended_line}
use Rattle.script.specs.Script.{lines_of}
use Rattle.session.specs.Hearing.{Hearing, Hears, IsEnded, IsLine, IsTooLong, hearing}
use Rattle.session.specs.Head.{HasNoHead, IsHead, WasNoHead}
use Rattle.session.proofs.Lines.{by_read, hears_both}
use Rattle.session.proofs.Turns.{first_line, first_lines}

-- octets are the lines of a topology so far
pub record AreLinesSoFar (octets : List ℕ) : Type 0 where
  pub lines : List (List ℕ)
  pub are : All IsLine lines
  pub unmarked : All (λ line. line ≢ codes "%") lines
  pub parts : octets ≡ flat_map ended_line lines

pub no_lines : (octets : List ℕ) → octets ≡ [] → AreLinesSoFar octets
no_lines octets none = record { lines = []; are = All-nil IsLine; unmarked = All-nil (λ line. line ≢ codes "%"); parts = none }

pub one_more : (octets line : List ℕ) → AreLinesSoFar octets → IsEnded line → line ≢ codes "%\n" → AreLinesSoFar (octets ++ line)
one_more octets line h (own, is_line, is) other = record {
  lines = h.lines ++ own ∷ [];
  are = All-append IsLine h.lines (own ∷ []) h.are (All-cons IsLine own [] is_line (All-nil IsLine));
  unmarked = All-append (λ l. l ≢ codes "%") h.lines (own ∷ []) h.unmarked
      (All-cons (λ l. l ≢ codes "%") own [] (λ e. other (is ∙ ap ended_line e)) (All-nil (λ l. l ≢ codes "%")));
  parts = ap (λ xs. xs ++ line) h.parts ∙ ap (λ xs. flat_map ended_line h.lines ++ xs) (is ∙ sym (append-nil (ended_line own)))
      ∙ sym (flat_map-append ended_line h.lines (own ∷ []));
}

pub marked : (octets line : List ℕ) → AreLinesSoFar octets → line ≡ codes "%\n" → IsHead (octets ++ line) octets
marked octets line h is = λ script. record {
  before = h.lines;
  front = h.parts;
  unmarked = h.unmarked;
  lines = inl (ap lines_of (append_assoc octets line script ∙ ap (λ xs. octets ++ (xs ++ script)) is ∙ ap (λ xs. xs ++ (codes "%\n" ++ script)) h.parts)
      ∙ first_lines h.lines (codes "%\n" ++ script) h.are
      ∙ ap (λ ls. h.lines ++ ls) (first_line (codes "%") script (All-cons (λ x. (x == 10) ≡ false) 37 [] refl (All-nil (λ x. (x == 10) ≡ false)))));
}

-- nothing was heard yet, and nothing was read ahead
pub hears_first : (known : Option (List ℕ)) (head ahead : List ℕ) → head ≡ [] → ahead ≡ []
    → Hears (record { heard = 0; left = known }) (hearing (length head) ahead known) head
hears_first None head ahead none empty = record { consumed = tt; counted = omega arith }
hears_first (Some xs) head ahead none empty =
    record { consumed = ap₂ (λ (ys zs : List ℕ). ys ++ (zs ++ xs)) (sym none) (sym empty); counted = omega arith }

pub hears_more : (known : Option (List ℕ)) (mid : Hearing) (heard : ℕ) (ahead : List ℕ) (rest : Option (List ℕ)) (head line all : List ℕ)
    → Hears (record { heard = 0; left = known }) mid head → Hears mid (hearing heard ahead rest) line → all ≡ head ++ line
    → (heard ≡ length all) × Hears (record { heard = 0; left = known }) (hearing (length all) ahead rest) all
hears_more known mid heard ahead rest head line all h k is =
    let both : Hears (record { heard = 0; left = known }) (hearing heard ahead rest) all =
    subst (Hears (record { heard = 0; left = known }) (hearing heard ahead rest)) (sym is) (hears_both h k) in
    let counted : heard ≡ 0 + length all = both.counted in
    (omega (arith, counted), record { consumed = both.consumed; counted = omega arith })

-- what is too long after some of it is too long
longer_before : (known : Option (List ℕ)) (heard : ℕ) (left : Option (List ℕ)) (octets : List ℕ)
    → Hears (record { heard = 0; left = known }) (record { heard = heard; left = left }) octets → IsTooLong (record { heard = heard; left = left })
    → IfSome known (λ all. 268435456 < length all)
longer_before None heard left octets h long = tt
longer_before (Some xs) heard None octets h long = absurd h.consumed
longer_before (Some xs) heard (Some ys) octets h long =
    let both : length (octets ++ ys) ≡ length octets + length ys = length-append octets ys in
    let same : length xs ≡ length (octets ++ ys) = ap length h.consumed in
    let counted : heard ≡ 0 + length octets = h.counted in
    omega (arith, both, same, counted, long)

pub said : {P : Type 0} (known : Option (List ℕ)) → P → IfSome known (λ all. P)
said None h = tt
said (Some xs) h = h

-- why hearing ended
pub unheard : (known : Option (List ℕ)) (mid : Hearing) (octets : List ℕ) (f : ScriptFault) → Hears (record { heard = 0; left = known }) mid octets
    → IsReadFault f → (f ≡ fault.TooLong → IsTooLong mid) → WasNoHead known f
unheard known mid octets f h read long = by_read (WasNoHead known) f read
    (λ e. (λ x. cc, λ x. cc, longer_before known mid.heard mid.left octets h (long e))) (λ x. cc, λ x. cc, said known tt) (λ x. cc, λ x. cc, said known tt)

-- the input ended before its marker line
pub unended : (known : Option (List ℕ)) (mid last : Hearing) (octets line : List ℕ) → Hears (record { heard = 0; left = known }) mid octets
    → AreLinesSoFar octets → Hears mid last line → IsLine line → IsAtEnd last.left → WasNoHead known fault.BadTopology
unended known mid last octets line h so_far k is_line end = (
  λ e. cc,
  λ e. cc,
  Consumes-whole known last.left (octets ++ line) (λ all. HasNoHead all fault.BadTopology) (hears_both h k).consumed end
      (record { lines = so_far.lines; last = line; are = (so_far.are, is_line); parts = ap (λ xs. xs ++ line) so_far.parts; unmarked = so_far.unmarked }),
)
