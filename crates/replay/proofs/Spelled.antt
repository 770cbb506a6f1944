-- Texts are printed as a script spells them.
use Rattle.replay.proofs.Common.{decimal, Appends, Appends-nil, Appends-trans, Crossing, HostMessage, ended_line, Detail}
use Rattle.std.proofs.Common.{◌≡◌, ℕ, ◌+◌, ◌/◌, ◌%◌, ◌<◌, ◌≤◌, List, [], ◌∷◌, ◌++◌, drop, slice_index, Option, Result, Ok, Err, OnOk, codes, length, refl, sym, ap, subst, ◌∙◌}
use Rattle.std.proofs.lemmas.List.{append_assoc, append-nil, drop_all}
use Rattle.hex.specs.Hex.{encode_upper, encode_with, upper_digits}
use Rattle.hex.proofs.Pairs.{encode_with-drop}
use Rattle.interface.specs.Printed.{crossing_text, flow_text}
use Rattle.interface.specs.declared.crossing.Crossing.TheVariants as crossing
use Rattle.script.specs.Spelling.{octets_text, spelling}
use Rattle.script.specs.declared.event.RawEvent.TheVariants as event
use Rattle.replay.specs.Output.{crossing_line, spelled}
use Rattle.replay.specs.declared.print.Detail.TheVariants.{Texts}

-- ---- octets

-- two digits are printed for an octet
abbrev pub pair : ℕ → List ℕ
pair n = slice_index upper_digits (n / 16) ∷ slice_index upper_digits (n % 16) ∷ []

-- the octets up to this one are written: with what those that are left come to it is the whole
pub record Written (octets : List ℕ) (i : ℕ) (a b : Option (List ℕ)) : Type 0 where
  pub front : List ℕ
  pub whole : front ++ encode_upper (drop i octets) ≡ encode_upper octets
  pub written : Appends a b front

pub none_written : (octets : List ℕ) (a : Option (List ℕ)) → Written octets 0 a a
none_written octets a = record { front = []; whole = refl; written = Appends-nil a }

pub one_written : (octets : List ℕ) (i : ℕ) (a b c : Option (List ℕ)) → i < length octets → Written octets i a b → Appends b c (pair (slice_index octets i)) → Written octets (i + 1) a c
one_written octets i a b c lt h now =
    let two : List ℕ = pair (slice_index octets i) in
    record {
      front = h.front ++ two;
      whole = append_assoc h.front two (encode_upper (drop (i + 1) octets)) ∙ ap (λ xs. h.front ++ xs) (sym (encode_with-drop upper_digits octets i lt)) ∙ h.whole;
      written = Appends-trans a b c h.front two h.written now;
    }

pub all_written : (octets : List ℕ) (i : ℕ) (a b : Option (List ℕ)) → length octets ≤ i → Written octets i a b → Appends a b (encode_upper octets)
unfolding encode_with
all_written octets i a b le h =
    subst (Appends a b) (sym (append-nil h.front) ∙ ap (λ xs. h.front ++ encode_upper xs) (sym (drop_all i octets le)) ∙ h.whole) h.written

-- ---- lines

-- the line of a message that goes out is the line of a script that asks for it
pub again : (m : HostMessage) → crossing_line Texts (crossing.Out m) ≡ spelling (event.Out m)
again m =
    let bits : List ℕ = decimal (length m.text) in
    let octets : List ℕ = codes " " ++ octets_text m.text in
    ap (λ xs. codes "out " ++ xs) (append_assoc (flow_text m.flow) (codes " " ++ bits) octets)

-- a crossing, what follows its bits, and the end of the line
pub text_line : {E : Type 0} (detail : Detail) (c : Crossing) (outcome : Result (Unit {0}) E) (first second third last : Option (List ℕ)) → detail ≡ Texts
    → Appends first second (crossing_text c) → Appends second third (spelled c) → OnOk outcome (Appends third last (codes "\n")) → OnOk outcome (Appends first last (ended_line (crossing_line detail c)))
text_line detail c (Err f) first second third last is crossed behind end = tt
text_line detail c (Ok x) first second third last is crossed behind end =
    subst (λ (d : Detail). Appends first last (ended_line (crossing_line d c))) (sym is)
    (Appends-trans first third last (crossing_text c ++ spelled c) (codes "\n") (Appends-trans first second third (crossing_text c) (spelled c) crossed behind) end)
