-- Words of one and of two digits, and hosts, whose numbers have one digit.
use Rattle.script.proofs.Common.{nat_tests, All-nil, All-cons, All-append, digit_value_digit, digit_value, decimal, IsInRange, All, host_text, begins_wrong, Lacks}
use Rattle.std.proofs.Common.{◌≡◌, ◌≢◌, ℕ, ◌+◌, ◌-◌, ◌*◌, ◌^◌, ◌<◌, ◌≤◌, ◌==◌, ◌⊎◌, inl, inr, false, List, [], ◌∷◌, ◌++◌, Option, get_or, take, drop, length, refl, sym, ap, ◌∙◌, subst, arith, lit<}
use Rattle.std.proofs.lemmas.Fmt.{decimal_is_IsNumeral, decimal_digit}
use Rattle.std.proofs.lemmas.List.{take_more}
use Rattle.std.proofs.lemmas.Str.Parse.{digit_from_value}
use Rattle.std.specs.Str.Parse.{AllDigits}
use Rattle.interface.specs.Host.{Host, host_at}
use Rattle.script.specs.Spelling.{ReadsAs, IsHost}
use Rattle.script.proofs.Hosts.{host_range, host_read}
use Rattle.script.proofs.Numbers.{All-unmarked_decimal, begins_wrong-decimal, spelled_as}

-- ---- a search: octets before a place lack the mark

apart : (x mark : ℕ) → x ≢ mark → (x == mark) ≡ false
apart x mark h = grind (arith, nat_tests, h)

pub one_further : (mark : ℕ) (xs : List ℕ) (at next : ℕ) → next ≡ at + 1 → at < length xs → Lacks mark (take at xs) → get_or xs at 0 ≢ mark → Lacks mark (take next xs)
one_further mark xs at next step lt before differs =
    let P : ℕ → Type 0 = λ x. (x == mark) ≡ false in
    let more : take next xs ≡ take at xs ++ get_or xs at 0 ∷ [] = ap (λ n. take n xs) step ∙ take_more xs at 0 lt in
    subst (All P) (sym more) (All-append P (take at xs) (get_or xs at 0 ∷ []) before (All-cons P (get_or xs at 0) [] (apart (get_or xs at 0) mark differs) (All-nil P)))

-- ---- numbers of one and of two digits

pub one_octet : (word : List ℕ) → length word ≡ 1 → word ≡ get_or word 0 0 ∷ []
one_octet [] e = absurd (omega (arith, e))
one_octet (c ∷ []) e = refl
one_octet (c ∷ d ∷ cs) e = absurd (omega (arith, e))

pub two_octets : (word : List ℕ) → length word ≡ 2 → word ≡ get_or word 0 0 ∷ get_or word 1 0 ∷ []
two_octets [] e = absurd (omega (arith, e))
two_octets (c ∷ []) e = absurd (omega (arith, e))
two_octets (c ∷ d ∷ []) e = refl
two_octets (c ∷ d ∷ x ∷ cs) e = absurd (omega (arith, e))

pub digit_read : (c : ℕ) → IsInRange 48 57 c → c ∷ [] ≡ decimal (c - 48)
digit_read c range =
    let whole : c ≡ 48 + (c - 48) = omega (arith, range) in
    ap (λ x. x ∷ []) whole ∙ sym (decimal_digit (c - 48) (omega (arith, range)))

digits_in : (ds : List ℕ) (n : ℕ) → n < 2 ^ 32 → ds ≡ decimal n → AllDigits 10 ds
digits_in ds n small e = subst (AllDigits 10) (sym e) (decimal_is_IsNumeral n (omega arith)).0.1

pub no_digit : (c : ℕ) → (IsInRange 48 57 c → ⊥) → (n : ℕ) → n < 2 ^ 32 → c ∷ [] ≢ decimal n
no_digit c out n small e = out (digit_from_value c (digits_in (c ∷ []) n small e).0)

pub two_read : (t o : ℕ) → IsInRange 49 57 t → IsInRange 48 57 o → t ∷ o ∷ [] ≡ decimal ((t - 48) * 10 + (o - 48))
two_read t o tens ones =
    let right : begins_wrong (t ∷ o ∷ []) ≡ false = grind (arith, nat_tests) in
    let high : digit_value t + 48 ≡ t = digit_value_digit t (omega (arith, tens), omega (arith, tens)) in
    let low : digit_value o + 48 ≡ o = digit_value_digit o ones in
    spelled_as (t ∷ o ∷ []) ((t - 48) * 10 + (o - 48)) right (omega (arith, high, tens), (omega (arith, low, ones), tt)) (omega (arith, high, low)) (omega (arith, tens, ones))

above : (t o : ℕ) → begins_wrong (t ∷ o ∷ []) ≡ false → IsInRange 48 57 t → 48 < t
above t o right range = grind (arith, nat_tests)

pub no_two : (t o : ℕ) → (IsInRange 49 57 t → IsInRange 48 57 o → ⊥) → (n : ℕ) → n < 256 → t ∷ o ∷ [] ≢ decimal n
no_two t o out n small e =
    let digits = digits_in (t ∷ o ∷ []) n (omega (arith, small)) e in
    let tens : IsInRange 48 57 t = digit_from_value t digits.0 in
    let ones : IsInRange 48 57 o = digit_from_value o digits.1.0 in
    let right : begins_wrong (t ∷ o ∷ []) ≡ false = ap begins_wrong e ∙ begins_wrong-decimal n (omega arith) in
    let first : 48 < t = above t o right tens in
    out (omega (arith, first), tens.1) ones

-- ---- a host: one digit, a slash, and the number of its IMP

host_spelled : (h : Host) → IsHost h → host_text h ≡ (48 + h.host) ∷ 47 ∷ decimal h.imp
host_spelled h is =
    let small : h.host ≤ 3 = (host_range h is).host in
    ap (λ ds. ds ++ 47 ∷ decimal h.imp) (decimal_digit h.host (omega arith))

pub no_second_slash : (word : List ℕ) → (length word < 2 ⊎ (get_or word 1 0 ≢ 47)) → (h : Host) → IsHost h → word ≢ host_text h
no_second_slash word (inl short) h is e =
    let long : length word ≡ length ((48 + h.host) ∷ 47 ∷ decimal h.imp) = ap length (e ∙ host_spelled h is) in
    absurd (omega (arith, long))
no_second_slash word (inr other) h is e = other (ap (λ w. get_or w 1 0) (e ∙ host_spelled h is))

pub cut_behind : (word b : List ℕ) → 2 ≤ length word → get_or word 1 0 ≡ 47 → b ≡ drop 2 word → word ≡ get_or word 0 0 ∷ 47 ∷ b
cut_behind [] b long slash is = absurd (omega (arith, long))
cut_behind (c ∷ []) b long slash is = absurd (omega (arith, long))
cut_behind (c ∷ d ∷ cs) b long slash is = ap (λ x. c ∷ x ∷ cs) slash ∙ ap (λ xs. c ∷ 47 ∷ xs) (sym is)

heads : {x y : ℕ} {xs ys : List ℕ} → x ∷ 47 ∷ xs ≡ y ∷ 47 ∷ ys → x ≡ y
heads e = cc

tails : {x y : ℕ} {xs ys : List ℕ} → x ∷ 47 ∷ xs ≡ y ∷ 47 ∷ ys → xs ≡ ys
tails e = cc

pub no_host_digit : (word : List ℕ) (c : ℕ) (b : List ℕ) → word ≡ c ∷ 47 ∷ b → ((n : ℕ) → n < 256 → c ∷ [] ≢ decimal n) → (h : Host) → IsHost h → word ≢ host_text h
no_host_digit word c b cut none h is e =
    let small : h.host ≤ 3 = (host_range h is).host in
    let first : c ≡ 48 + h.host = heads (sym cut ∙ e ∙ host_spelled h is) in
    none h.host (omega arith) (ap (λ x. x ∷ []) first ∙ sym (decimal_digit h.host (omega arith)))

pub no_imp_behind : (word : List ℕ) (c : ℕ) (b : List ℕ) → word ≡ c ∷ 47 ∷ b → ((n : ℕ) → n < 256 → b ≢ decimal n) → (h : Host) → IsHost h → word ≢ host_text h
no_imp_behind word c b cut none h is e =
    let few : h.imp ≤ 63 = (host_range h is).imp in
    none h.imp (omega arith) (tails (sym cut ∙ e ∙ host_spelled h is))

pub host_behind : (word : List ℕ) (c : ℕ) (b : List ℕ) (x y : ℕ) (o : Option Host) → word ≡ c ∷ 47 ∷ b → c ∷ [] ≡ decimal x → b ≡ decimal y → x < 256 → y < 256 → o ≡ host_at x y → ReadsAs host_text IsHost word o
host_behind word c b x y o cut isc isb xl yl made =
    let lacks : Lacks 47 (c ∷ []) = subst (Lacks 47) (sym isc) (All-unmarked_decimal 47 x (lit< tt) (omega (arith, xl))) in
    host_read word (c ∷ []) b x y o cut lacks isc isb xl yl made
