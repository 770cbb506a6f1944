-- The turns of services, one by one.
use Rattle.std.proofs.Common.{◌≡◌, ℕ, zero, suc, ◌+◌, ◌<◌, ◌||◌, Bool, true, false, refl, List, [], ◌∷◌, ◌++◌, length, take, drop, slice_set, slice_index_or, map, ap, sym, ◌∙◌, arith}
use Rattle.std.proofs.lemmas.List.{get_or-map, length-map, map-append, map-set}
use Rattle.std.specs.Bool.{OnFalse}
use Rattle.host_pairs.specs.declared.notice.Notice.{Notice}
use Rattle.host_services.specs.Ears.{ear_of}
use Rattle.host_services.specs.Services.{Service, ServiceDeskState}
use Rattle.host_services.specs.Turns.{Turned, heard_by, notice_heard}
use Rattle.host_services.specs.declared.hearing.Ear.{Ear}

-- these come before the others
abbrev pub behind : List Service → List Service × ServiceDeskState → List Service × ServiceDeskState
behind front t = (front ++ t.0, t.1)

pub next_heard : (n : Notice) (x : Service) (xs : List Service) (d : ServiceDeskState) (t : Turned) → heard_by n x d ≡ t → notice_heard n (x ∷ xs) d ≡ behind (t.0 ∷ []) (notice_heard n xs t.1)
next_heard n x xs d t is = ap (λ (u : Turned). behind (u.0 ∷ []) (notice_heard n xs u.1)) is

-- one service more has had its turn
one_heard : (n : Notice) (xs : List Service) (i : ℕ) (o y : Service) (d e : ServiceDeskState) → i < length xs → heard_by n (slice_index_or xs i o) d ≡ (y, e)
    → behind (take i xs) (notice_heard n (drop i xs) d) ≡ behind (take (suc i) (slice_set xs i y)) (notice_heard n (drop (suc i) (slice_set xs i y)) e)
one_heard n [] i o y d e lt is = absurd (omega (arith, lt))
one_heard n (x ∷ xs) zero o y d e lt is = next_heard n x xs d (y, e) is
one_heard n (x ∷ xs) (suc i) o y d e lt is = ap (λ (t : List Service × ServiceDeskState). behind (x ∷ []) t) (one_heard n xs i o y d e (omega (arith, lt)) is)

pub more_heard : (n : Notice) (xs : List Service) (i : ℕ) (o y : Service) (d e : ServiceDeskState) → i < length xs → heard_by n (slice_index_or xs i o) d ≡ (y, e)
    → behind (take i xs) (notice_heard n (drop i xs) d) ≡ behind (take (i + 1) (slice_set xs i y)) (notice_heard n (drop (i + 1) (slice_set xs i y)) e)
more_heard n xs i o y d e lt is =
    let next : suc i ≡ i + 1 = omega arith in
    one_heard n xs i o y d e lt is ∙ ap (λ (k : ℕ). behind (take k (slice_set xs i y)) (notice_heard n (drop k (slice_set xs i y)) e)) next

-- ---- ears beside services

pub ear_at : (xs : List Service) (es : List Ear) (i : ℕ) (o : Service) (d : Ear) → es ≡ map ear_of xs → i < length xs → slice_index_or es i d ≡ ear_of (slice_index_or xs i o)
ear_at xs es i o d is lt = ap (λ (ys : List Ear). slice_index_or ys i d) is ∙ get_or-map ear_of xs i o d lt

pub ears_long : (xs : List Service) (es : List Ear) → es ≡ map ear_of xs → length es ≡ length xs
ears_long xs es is = ap (λ (ys : List Ear). length ys) is ∙ length-map xs ear_of

pub ears_set : (xs : List Service) (es : List Ear) (i : ℕ) (y : Service) (e : Ear) → es ≡ map ear_of xs → e ≡ ear_of y → slice_set es i e ≡ map ear_of (slice_set xs i y)
ears_set xs es i y e is one =
    ap (λ (ys : List Ear). slice_set ys i e) is ∙ ap (λ (f : Ear). slice_set (map ear_of xs) i f) one ∙ sym (map-set ear_of xs i y)

pub ears_joined : (xs : List Service) (es : List Ear) (y : Service) (e : Ear) → es ≡ map ear_of xs → e ≡ ear_of y → es ++ e ∷ [] ≡ map ear_of (xs ++ y ∷ [])
ears_joined xs es y e is one =
    ap (λ (ys : List Ear). ys ++ e ∷ []) is ∙ ap (λ (f : Ear). map ear_of xs ++ f ∷ []) one ∙ sym (map-append ear_of xs (y ∷ []))

put_back : (es : List Ear) (i : ℕ) (o : Ear) → i < length es → slice_set es i (slice_index_or es i o) ≡ es
put_back [] i o lt = absurd (omega (arith, lt))
put_back (e ∷ es) zero o lt = refl
put_back (e ∷ es) (suc i) o lt = ap (λ (fs : List Ear). e ∷ fs) (put_back es i o (omega (arith, lt)))

-- an ear that hasn't changed is put back in its place
pub ears_same : (es fs : List Ear) (i : ℕ) (o e : Ear) (was now : Bool) → i < length es → OnFalse was (es ≡ fs) → OnFalse now (e ≡ slice_index_or es i o) → OnFalse (was || now) (slice_set es i e ≡ fs)
ears_same es fs i o e true now lt before here = tt
ears_same es fs i o e false true lt before here = tt
ears_same es fs i o e false false lt before here = ap (λ (x : Ear). slice_set es i x) here ∙ put_back es i o lt ∙ before
