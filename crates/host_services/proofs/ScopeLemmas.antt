-- What the scope of several services has room for, and what passes by all of them.
use Rattle.std.proofs.Common.{◌≡◌, ◌≤◌, ◌==◌, ℕ, Bool, true, false, min, max, List, [], ◌∷◌, ◌++◌, map, refl, ◌∙◌, ap, sym, subst, arith}
use Rattle.std.proofs.Math.Nat.{min-le_left, min-le_right, le-max_left, le-max_right}
use Rattle.std.proofs.lemmas.Bool.{OnFalse_from, or_parts}
use Rattle.std.proofs.lemmas.Bool.Decides.{nat_tests}
use Rattle.std.specs.Bool.{OnFalse}
use Rattle.std.specs.List.{fold}
use Rattle.host_pairs.specs.declared.notice.Notice.{Notice}
use Rattle.host_services.specs.Ears.{AreDeaf, AreHeardIn, IsHeardIn, IsIn, ear_of, has_room, hears, hears_all, hears_of, hears_resets, is_heard_in, subject_of, widened, with_socket}
use Rattle.host_services.specs.Services.{Service, ServiceDeskState}
use Rattle.host_services.specs.Turns.{notice_heard}
use Rattle.host_services.specs.declared.hearing.Ear.{Ear}
use Rattle.host_services.specs.declared.hearing.Ear.TheVariants as ear
use Rattle.host_services.specs.declared.hearing.Scope.{Scope}
use Rattle.host_services.specs.declared.hearing.Subject.{Subject}
use Rattle.host_services.specs.declared.hearing.Subject.TheVariants as subject
use Rattle.host_services.proofs.HearingLemmas.{deaf, no_truth}
use Rattle.host_services.proofs.TurnLemmas.{next_heard}

-- ---- as wide as it has to be

lower : (a b c : ℕ) → a ≤ c → min a b ≤ c
lower a b c h = omega (arith, min-le_left a b, h)

higher : (a b c : ℕ) → c ≤ a → c ≤ max a b
higher a b c h = omega (arith, le-max_left a b, h)

-- with a socket more there is room for what there was room for
in_still : (s : Scope) (j k : ℕ) → IsIn s k → IsIn (with_socket j s) k
in_still s j k h = (lower s.low j k h.0, higher s.high j k h.1)

in_now : (s : Scope) (k : ℕ) → IsIn (with_socket k s) k
in_now s k = (min-le_right s.low k, le-max_right s.high k)

with_one : (s : Scope) (j : ℕ) (e : Ear) → IsHeardIn s e → IsHeardIn (with_socket j s) e
with_one s j ear.Nothing h = tt
with_one s j ear.Everything h = h
with_one s j (ear.Begins a r t) h = (h.0, (in_still s j a h.1.0, (in_still s j r h.1.1.0, in_still s j t h.1.1.1)))
with_one s j (ear.Ends r t) h = (in_still s j r h.0, in_still s j t h.1)

with_resets : (s : Scope) (e : Ear) → IsHeardIn s e → IsHeardIn (record s { resets = true }) e
with_resets s ear.Nothing h = tt
with_resets s ear.Everything h = h
with_resets s (ear.Begins a r t) h = (refl, h.1)
with_resets s (ear.Ends r t) h = h

with_all : (s : Scope) (e : Ear) → IsHeardIn s e → IsHeardIn (record s { everything = true }) e
with_all s ear.Nothing h = tt
with_all s ear.Everything h = refl
with_all s (ear.Begins a r t) h = h
with_all s (ear.Ends r t) h = h

-- a wider scope has room for what there was room for
still : (s : Scope) (e f : Ear) → IsHeardIn s f → IsHeardIn (widened s e) f
still s ear.Nothing f h = h
still s ear.Everything f h = with_all s f h
still s (ear.Begins a r t) f h =
    let resets : Scope = record s { resets = true } in
    with_one (with_socket r (with_socket a resets)) t f (with_one (with_socket a resets) r f (with_one resets a f (with_resets s f h)))
still s (ear.Ends r t) f h = with_one (with_socket r s) t f (with_one s r f h)

here : (s : Scope) (e : Ear) → IsHeardIn (widened s e) e
here s ear.Nothing = tt
here s ear.Everything = refl
here s (ear.Begins a r t) =
    let one : Scope = with_socket a (record s { resets = true }) in
    let two : Scope = with_socket r one in
    (refl, (in_still two t a (in_still one r a (in_now (record s { resets = true }) a)), (in_still two t r (in_now one r), in_now two t)))
here s (ear.Ends r t) = (in_still (with_socket r s) t r (in_now s r), in_now (with_socket r s) t)

kept_on : (s : Scope) (es : List Ear) (e : Ear) → IsHeardIn s e → IsHeardIn (fold widened s es) e
kept_on s [] e h = h
kept_on s (x ∷ es) e h = kept_on (widened s x) es e (still s x e h)

pub wide_enough : (s : Scope) (es : List Ear) → AreHeardIn (fold widened s es) es
wide_enough s [] = tt
wide_enough s (e ∷ es) = (kept_on (widened s e) es e (here s e), wide_enough (widened s e) es)

-- one ear more
pub one_more : (s : Scope) (es : List Ear) (e : Ear) → AreHeardIn s es → AreHeardIn (widened s e) (es ++ e ∷ [])
one_more s [] e h = (here s e, tt)
one_more s (x ∷ es) e h = (still s e x h.0, one_more s es e h.1)

-- ---- what passes by

outside : (s : Scope) (k x : ℕ) → IsIn s k → has_room s (subject.Socket x) ≡ false → (x == k) ≡ false
outside s k x h away =
    let low : s.low ≤ k = h.0 in
    let high : k ≤ s.high = h.1 in
    grind (arith, nat_tests)

unheard_of : (s : Scope) (e : Ear) (x : ℕ) → IsHeardIn s e → s.everything ≡ false → has_room s (subject.Socket x) ≡ false → hears_of e x ≡ false
unheard_of s ear.Nothing x h few away = refl
unheard_of s ear.Everything x h few away = absurd (cc)
unheard_of s (ear.Begins a r t) x h few away = rw (outside s a x h.1.0 away, outside s r x h.1.1.0 away, outside s t x h.1.1.1 away) refl
unheard_of s (ear.Ends r t) x h few away = rw (outside s r x h.0 away, outside s t x h.1 away) refl

no_resets : (s : Scope) (e : Ear) → IsHeardIn s e → s.everything ≡ false → s.resets ≡ false → hears_resets e ≡ false
no_resets s ear.Nothing h few none = refl
no_resets s ear.Everything h few none = absurd (cc)
no_resets s (ear.Begins a r t) h few none = absurd (no_truth (sym h.0 ∙ none))
no_resets s (ear.Ends r t) h few none = refl

not_all : (s : Scope) (e : Ear) → IsHeardIn s e → s.everything ≡ false → hears_all e ≡ false
not_all s ear.Everything h few = absurd (cc)
not_all s e h few = refl

out_of : (s : Scope) (e : Ear) (t : Subject) → IsHeardIn s e → s.everything ≡ false → has_room s t ≡ false → hears e t ≡ false
out_of s e (subject.Socket x) h few away = unheard_of s e x h few away
out_of s e subject.Reset h few away = no_resets s e h few away
out_of s e subject.Other h few away = not_all s e h few

unheard : (s : Scope) (e : Ear) (t : Subject) → IsHeardIn s e → is_heard_in s t ≡ false → hears e t ≡ false
unheard s e t h away =
    let both : (s.everything ≡ false) × (has_room s t ≡ false) = or_parts s.everything (has_room s t) away in
    out_of s e t h both.0 both.1

pub out_of_scope : (n : Notice) (s : Scope) → is_heard_in s (subject_of n) ≡ false → (xs : List Service) → AreHeardIn s (map ear_of xs) → (d : ServiceDeskState) → notice_heard n xs d ≡ (xs, d)
out_of_scope n s away [] h d = refl
out_of_scope n s away (x ∷ xs) h d =
    next_heard n x xs d (x, d) (deaf n x d (unheard s (ear_of x) (subject_of n) h.0 away))
    ∙ ap (λ (t : List Service × ServiceDeskState). (x ∷ t.0, t.1)) (out_of_scope n s away xs h.1 d)

-- what a scope says of services with these ears
pub all_deaf : (s : Scope) (es : List Ear) (xs : List Service) (t : Subject) (heard : Bool) → heard ≡ is_heard_in s t → es ≡ map ear_of xs → AreHeardIn s es
    → OnFalse heard ((n : Notice) → t ≡ subject_of n → AreDeaf xs n)
all_deaf s es xs t heard is own room = OnFalse_from heard ((n : Notice) → t ≡ subject_of n → AreDeaf xs n) (λ e. λ n about d.
    out_of_scope n s (ap (λ (u : Subject). is_heard_in s u) (sym about) ∙ (sym is ∙ e)) xs (subst (λ (fs : List Ear). AreHeardIn s fs) own room) d)
