-- The turns of services that are in blocks.
use Rattle.std.proofs.Common.{◌≡◌, ℕ, zero, suc, ◌+◌, ◌<◌, List, [], ◌∷◌, ◌++◌, length, take, drop, slice_set, slice_index_or, ap, sym, subst, ◌∙◌, refl, append_assoc, arith}
use Rattle.std.proofs.lemmas.List.{append-nil, drop_more}
use Rattle.host_pairs.specs.declared.notice.Notice.{Notice}
use Rattle.host_services.specs.Ears.{AreDeaf, all_in}
use Rattle.host_services.specs.Services.{Service, ServiceDeskState, ServicesState, noticing, typing_on}
use Rattle.host_services.specs.Turns.{all_heard, heard_by, notice_heard, passed_by, services_left, services_told}
use Rattle.host_services.proofs.TurnLemmas.{behind}

-- ---- one list of services after another

heard_append : (n : Notice) (xs ys : List Service) (d : ServiceDeskState)
    → notice_heard n (xs ++ ys) d ≡ behind (notice_heard n xs d).0 (notice_heard n ys (notice_heard n xs d).1)
heard_append n [] ys d = refl
heard_append n (x ∷ xs) ys d =
    ap (λ (t : List Service × ServiceDeskState). behind ((heard_by n x d).0 ∷ []) t) (heard_append n xs ys (heard_by n x d).1)

next_block : (n : Notice) (b y ys : List Service) (d e : ServiceDeskState) → notice_heard n b d ≡ (y, e) → notice_heard n (b ++ ys) d ≡ behind y (notice_heard n ys e)
next_block n b y ys d e is = heard_append n b ys d ∙ ap (λ (t : List Service × ServiceDeskState). behind t.0 (notice_heard n ys t.1)) is

pub both_heard : (n : Notice) (xs ys us vs : List Service) (d e f : ServiceDeskState) → notice_heard n xs d ≡ (us, e) → notice_heard n ys e ≡ (vs, f)
    → notice_heard n (xs ++ ys) d ≡ (us ++ vs, f)
both_heard n xs ys us vs d e f first second = next_block n xs us ys d e first ∙ ap (λ (t : List Service × ServiceDeskState). behind us t) second

-- ---- block by block

behind_both : (xs ys : List Service) (t : List Service × ServiceDeskState) → behind (xs ++ ys) t ≡ behind xs (behind ys t)
behind_both xs ys t = ap (λ (zs : List Service). (zs, t.1)) (append_assoc xs ys t.0)

one_block : (n : Notice) (bs : List (List Service)) (i : ℕ) (o y : List Service) (d e : ServiceDeskState) → i < length bs → notice_heard n (slice_index_or bs i o) d ≡ (y, e)
    → behind (all_in (take i bs)) (notice_heard n (all_in (drop i bs)) d)
    ≡ behind (all_in (take (suc i) (slice_set bs i y))) (notice_heard n (all_in (drop (suc i) (slice_set bs i y))) e)
one_block n [] i o y d e lt is = absurd (omega (arith, lt))
one_block n (b ∷ bs) zero o y d e lt is =
    next_block n b y (all_in bs) d e is ∙ ap (λ (zs : List Service). behind zs (notice_heard n (all_in bs) e)) (sym (append-nil y))
one_block n (b ∷ bs) (suc i) o y d e lt is =
    behind_both b (all_in (take i bs)) (notice_heard n (all_in (drop i bs)) d)
    ∙ ap (λ (t : List Service × ServiceDeskState). behind b t) (one_block n bs i o y d e (omega (arith, lt)) is)
    ∙ sym (behind_both b (all_in (take (suc i) (slice_set bs i y))) (notice_heard n (all_in (drop (suc i) (slice_set bs i y))) e))

pub more_blocks : (n : Notice) (bs : List (List Service)) (i : ℕ) (o y : List Service) (d e : ServiceDeskState) → i < length bs → notice_heard n (slice_index_or bs i o) d ≡ (y, e)
    → behind (all_in (take i bs)) (notice_heard n (all_in (drop i bs)) d)
    ≡ behind (all_in (take (i + 1) (slice_set bs i y))) (notice_heard n (all_in (drop (i + 1) (slice_set bs i y))) e)
more_blocks n bs i o y d e lt is =
    let next : suc i ≡ i + 1 = omega arith in
    one_block n bs i o y d e lt is ∙ ap (λ (k : ℕ). behind (all_in (take k (slice_set bs i y))) (notice_heard n (all_in (drop k (slice_set bs i y))) e)) next

-- ---- one more

all_in_more : (bs : List (List Service)) (b : List Service) → all_in (bs ++ b ∷ []) ≡ all_in bs ++ b
all_in_more [] b = append-nil b
all_in_more (c ∷ bs) b = ap (λ (xs : List Service). c ++ xs) (all_in_more bs b) ∙ sym (append_assoc c (all_in bs) b)

-- the last block is a full one now, and a new one follows
pub one_block_more : (bs : List (List Service)) (b : List Service) → all_in (bs ++ b ∷ []) ++ [] ≡ all_in bs ++ b
one_block_more bs b = append-nil (all_in (bs ++ b ∷ [])) ∙ all_in_more bs b

pub joined : (xs ys : List Service) (s : Service) → xs ++ (ys ++ s ∷ []) ≡ (xs ++ ys) ++ s ∷ []
joined xs ys s = sym (append_assoc xs ys (s ∷ []))

-- ---- notices that nobody hears

pub both_deaf : (n : Notice) (xs ys : List Service) → AreDeaf xs n → AreDeaf ys n → AreDeaf (xs ++ ys) n
both_deaf n xs ys first second = λ d. both_heard n xs ys xs ys d d d (first d) (second d)

-- one block more
pub more_deaf : (n : Notice) (bs : List (List Service)) (i : ℕ) (b : List Service) → i < length bs → slice_index_or bs i b ≡ b → AreDeaf b n → AreDeaf (all_in (drop (i + 1) bs)) n → AreDeaf (all_in (drop i bs)) n
more_deaf n bs i b lt is here rest =
    let cut : drop i bs ≡ b ∷ drop (i + 1) bs = drop_more bs i b lt ∙ ap (λ (c : List Service). c ∷ drop (i + 1) bs) is in
    subst (λ (cs : List (List Service)). AreDeaf (all_in cs) n) (sym cut) (both_deaf n b (all_in (drop (i + 1) bs)) here rest)

-- none of these notices does anything to services
abbrev pub NoneHeard : List Service → List Notice → Type 0
NoneHeard xs [] = Unit {0}
NoneHeard xs (n ∷ ns) = AreDeaf xs n × NoneHeard xs ns

-- one notice more
pub more_passed : (xs : List Service) (ns : List Notice) (i : ℕ) (n : Notice) → i < length ns → slice_index_or ns i n ≡ n → AreDeaf xs n → NoneHeard xs (drop (i + 1) ns) → NoneHeard xs (drop i ns)
more_passed xs ns i n lt is here rest =
    let cut : drop i ns ≡ n ∷ drop (i + 1) ns = drop_more ns i n lt ∙ ap (λ (m : Notice). m ∷ drop (i + 1) ns) is in
    subst (λ (ms : List Notice). NoneHeard xs ms) (sym cut) (here, rest)

abbrev noticed : List Service → ServiceDeskState → ℕ → List Service × ServiceDeskState
noticed xs d m = (xs, record d { notices = m })

all_passed : (xs : List Service) (ns : List Notice) (d : ServiceDeskState) → NoneHeard xs ns → all_heard ns xs d ≡ (xs, record d { notices = d.notices + length ns })
all_passed xs [] d deaf = ap (λ (m : ℕ). noticed xs d m) (omega arith)
all_passed xs (n ∷ ns) d deaf =
    ap (λ (t : List Service × ServiceDeskState). all_heard ns t.0 t.1) (deaf.0 (noticing d)) ∙ all_passed xs ns (noticing d) deaf.1 ∙ ap (λ (m : ℕ). noticed xs d m) (omega arith)

pub told_deaf : (ns : List Notice) (s : ServicesState) (d : ServiceDeskState) → NoneHeard s.running ns → services_told ns s d ≡ passed_by ns s d
unfolding services_told
told_deaf ns s d deaf = ap services_left (all_passed s.running ns (typing_on s.typing d) deaf)
