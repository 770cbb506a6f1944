-- The lines of what was read.
use Rattle.session.proofs.Common.{append_assoc, length-append, All-append, Keeps, prepend_known, ended_line, IsReadFault, ScriptFault}
use Rattle.std.specs.Io.KnownBytes.{Consumes, IsAtEnd}
use Rattle.std.proofs.Common.{◌≡◌, ◌⊎◌, ◌≤◌, ◌<◌, ◌+◌, ◌==◌, ◌∙◌, ℕ, Bool, true, false, List, [], ◌∷◌, ◌++◌, Option, Some, None, length, take, ap, ap₂, inl, inr, refl, sym, arith}
use Rattle.std.proofs.KnownBytes.{Consumes-nil, Consumes-trans, prepend_known-read}
use Rattle.std.proofs.Math.Seq.{take-append_seam}
use Rattle.command_line.specs.declared.fault.ScriptFault.TheVariants as fault
use Rattle.session.specs.Hearing.{EndsAt, Hearing, Hears, IsEnded, IsHeard, IsLine, IsTooLong, hearing}

-- what was read before has no end of a line, and the line's end has come
pub end_came : (before came first left : List ℕ) (end : ℕ) → IsLine before → EndsAt came end → before ++ came ≡ first ++ left
    → length first ≡ length before + end → IsEnded first
end_came before came first left end none h parts long =
    let ended : List ℕ = before ++ ended_line h.line in
    let all : first ++ left ≡ ended ++ h.rest =
    sym parts ∙ ap (λ (xs : List ℕ). before ++ xs) h.parts ∙ sym (append_assoc before (ended_line h.line) h.rest) in
    let same : length first ≡ length ended =
    long ∙ ap (λ (n : ℕ). length before + n) h.counted ∙ sym (length-append before (ended_line h.line)) in
    let whole : first ≡ ended =
    sym (take-append_seam first left) ∙ ap₂ (λ (n : ℕ) (xs : List ℕ). take n xs) same all ∙ take-append_seam ended h.rest in
    (before ++ h.line, All-append (λ x. (x == 10) ≡ false) before h.line none h.is_line, whole ∙ sym (append_assoc before h.line (10 ∷ [])))

-- more octets were read
pub grown : (a b c : Option (List ℕ)) (old now came : List ℕ) → Keeps a (prepend_known old b) → Consumes b c came → now ≡ old ++ came
    → Keeps a (prepend_known now c)
grown None b c old now came h k is = tt
grown (Some xs) None c old now came h k is = absurd h
grown (Some xs) (Some ys) None old now came h k is = absurd k
grown (Some xs) (Some ys) (Some zs) old now came h k is =
    ap (λ l. l ++ zs) is ∙ append_assoc old came zs ∙ ap (λ l. old ++ l) (sym k) ∙ h

-- a line is taken of what was read ahead
pub takes : (a b : Option (List ℕ)) (ahead line left : List ℕ) (heard all : ℕ) → Keeps a (prepend_known ahead b) → ahead ≡ line ++ left
    → all ≡ heard + length line → Hears (record { heard = heard; left = a }) (hearing all left b) line
takes a b ahead line left heard all h parts counted =
    record { consumed = (prepend_known-read a b ahead left line ⊥ h parts (λ bad. absurd bad)).0; counted = counted }

-- more octets came than may come
pub longer : (a c : Option (List ℕ)) (now : List ℕ) (heard : ℕ) → Keeps a (prepend_known now c) → 268435456 < heard + length now
    → IsTooLong (record { heard = heard; left = a })
longer None c now heard h long = tt
longer (Some xs) None now heard h long = absurd h
longer (Some xs) (Some zs) now heard h long =
    let both : length (now ++ zs) ≡ length now + length zs = length-append now zs in
    let same : length (now ++ zs) ≡ length xs = ap length h in
    omega (arith, both, same, long)

-- nothing, and two parts one after the other
pub hears_none : (h : Hearing) → Hears h h []
hears_none h = record { consumed = Consumes-nil h.left; counted = omega arith }

pub hears_both : {a b c : Hearing} {xs ys : List ℕ} → Hears a b xs → Hears b c ys → Hears a c (xs ++ ys)
hears_both {a} {b} {c} {xs} {ys} h k =
    let both : length (xs ++ ys) ≡ length xs + length ys = length-append xs ys in
    let first : b.heard ≡ a.heard + length xs = h.counted in
    let second : c.heard ≡ b.heard + length ys = k.counted in
    record { consumed = Consumes-trans a.left b.left c.left xs ys h.consumed k.consumed; counted = omega (arith, both, first, second) }

pub some_long : (line : List ℕ) → IsEnded line → 1 ≤ length line
some_long line h =
    let long : length (ended_line h.0) ≡ length h.0 + 1 = length-append h.0 (10 ∷ []) in
    let same : length line ≡ length (ended_line h.0) = ap length h.2 in
    omega (arith, long, same)

-- nothing is heard at the end of the input only
pub nothing : (whole : Bool) (line : List ℕ) (left : Option (List ℕ)) → IsHeard whole line left → length line ≡ 0 → (line ≡ []) × IsAtEnd left
nothing true line left some none = absurd (let long : 1 ≤ length line = some_long line some in omega (arith, long, none))
nothing false [] left (is_line, end) none = (refl, end)
nothing false (x ∷ line) left heard none = absurd (omega (arith, none))

-- what was heard is a line with its end, or one without
pub either_line : (whole : Bool) (line : List ℕ) (left : Option (List ℕ)) → IsHeard whole line left → IsEnded line ⊎ IsLine line
either_line true line left h = inl h
either_line false line left h = inr h.0

-- what is so of each fault of hearing
pub by_read : (P : ScriptFault → Type 0) (f : ScriptFault) → IsReadFault f → (f ≡ fault.TooLong → P fault.TooLong) → P fault.CannotRead → P fault.OutOfMemory → P f
by_read P fault.TooLong read long failed memory = long refl
by_read P fault.CannotRead read long failed memory = failed
by_read P fault.OutOfMemory read long failed memory = memory
by_read P fault.BadTopology read long failed memory = absurd read
by_read P fault.CannotWrite read long failed memory = absurd read
by_read P fault.BadOptions read long failed memory = absurd read
by_read P (fault.BadLine number) read long failed memory = absurd read
