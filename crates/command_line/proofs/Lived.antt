-- The lives of a book are those that its crossings and notices make.
use Rattle.command_line.proofs.Common.{Host, Crossing, Told, Life, Notice, Request}
use Rattle.std.proofs.Common.{◌≡◌, ℕ, ◌<◌, ◌==◌, Bool, true, false, if◌then◌else◌, List, [], ◌∷◌, ◌++◌, map, refl, sym, ap, ap₂, ◌∙◌, arith, subst, ◌≤◌, suc, length, append-nil}
use Rattle.std.proofs.lemmas.List.{map-append}
use Rattle.command_line.specs.Lived.{AreLived, lives_in, ungranted, all_lives_told, told_at}
use Rattle.std.proofs.lemmas.Bool.{eq-eqb, ne_eqb}
use Rattle.interface.specs.declared.crossing.Crossing.TheVariants as crossing
use Rattle.host_pairs.specs.declared.notice.Notice.TheVariants as notice
use Rattle.sockets.specs.declared.request.Request.TheVariants as request
use Rattle.net_sim.specs.Book.{Kept, all_told, asked, book_told, carried, changed_when, crossed, granted, life_ended, lives_asked, lives_at, lives_between, lives_crossed, lives_on, lives_told, lives_with, returned, where_it}
use Rattle.net_sim.specs.Story.{Asked, Crossed, Moment}
use Rattle.net_sim.specs.Told.{host_in, kept_by, kept_in, notices_by, without_reports}

-- ---- what is done to lives, with what was granted or without it

one_changed : (b : Bool) (change : Life → Life) → ((x : Life) → ungranted (change x) ≡ change (ungranted x)) → (x : Life) → ungranted (changed_when b change x) ≡ changed_when b change (ungranted x)
one_changed true change same x = same x
one_changed false change same x = refl

where_alike : (test : Life → Bool) (change : Life → Life) → ((x : Life) → test (ungranted x) ≡ test x) → ((x : Life) → ungranted (change x) ≡ change (ungranted x)) → (lives : List Life)
    → map ungranted (where_it test change lives) ≡ where_it test change (map ungranted lives)
where_alike test change blind same [] = refl
where_alike test change blind same (x ∷ lives) =
    ap₂ (λ (y : Life) (ys : List Life). y ∷ ys) (one_changed (test x) change same x ∙ ap (λ (b : Bool). changed_when b change (ungranted x)) (sym (blind x))) (where_alike test change blind same lives)

one_granted : (b : Bool) (messages bits : ℕ) (x : Life) → ungranted (changed_when b (granted messages bits) x) ≡ ungranted x
one_granted true messages bits x = refl
one_granted false messages bits x = refl

where_granted : (test : Life → Bool) (messages bits : ℕ) (lives : List Life) → map ungranted (where_it test (granted messages bits) lives) ≡ map ungranted lives
where_granted test messages bits [] = refl
where_granted test messages bits (x ∷ lives) = ap₂ (λ (y : Life) (ys : List Life). y ∷ ys) (one_granted (test x) messages bits x) (where_granted test messages bits lives)

told_alike : (h : Host) (n : Notice) (lives : List Life) → map ungranted (lives_told h n lives) ≡ lives_told h n (map ungranted lives)
told_alike h (notice.Opened socket peer foreign own partner) lives = map-append ungranted lives _
told_alike h (notice.Ended socket peer foreign) lives = where_alike (lives_between h socket peer foreign) life_ended (λ x. refl) (λ x. refl) lives
told_alike h (notice.PairReset peer) lives = where_alike (lives_with h peer) life_ended (λ x. refl) (λ x. refl) lives
told_alike h (notice.Sent socket bits) lives = where_alike (lives_at h socket) (carried bits) (λ x. refl) (λ x. refl) lives
told_alike h (notice.Arrived socket bits) lives = where_alike (lives_at h socket) (carried bits) (λ x. refl) (λ x. refl) lives
told_alike h (notice.Returned socket messages bits) lives = where_alike (lives_at h socket) (returned messages bits) (λ x. refl) (λ x. refl) lives
told_alike h (notice.Ready peer) lives = refl
told_alike h (notice.ContactFailed peer) lives = refl
told_alike h (notice.Interrupt socket) lives = refl
told_alike h (notice.Echoed peer octet) lives = refl
told_alike h (notice.RemoteError peer code detail) lives = refl

crossed_alike : (c : Crossing) (lives : List Life) → map ungranted (lives_crossed c lives) ≡ lives_crossed c (map ungranted lives)
crossed_alike (crossing.Down h) lives = where_alike (lives_on h) life_ended (λ x. refl) (λ x. refl) lives
crossed_alike (crossing.Out m) lives = refl
crossed_alike (crossing.In m) lives = refl
crossed_alike (crossing.Answer kind f) lives = refl
crossed_alike (crossing.Up h) lives = refl

asked_alike : (h : Host) (r : Request) (lives : List Life) → map ungranted (lives_asked h r lives) ≡ map ungranted lives
asked_alike h (request.Grant socket messages bits) lives = where_granted (lives_at h socket) messages bits lives
asked_alike h (request.Contact peer) lives = refl
asked_alike h (request.Listen socket size) lives = refl
asked_alike h (request.OpenSend peer own foreign size) lives = refl
asked_alike h (request.OpenReceive peer own foreign) lives = refl
asked_alike h (request.Send socket bits) lives = refl
asked_alike h (request.AskBack socket messages bits) lives = refl
asked_alike h (request.Interrupt socket) lives = refl
asked_alike h (request.Close socket) lives = refl
asked_alike h (request.Echo peer octet) lives = refl

-- ---- the notices at a place

two_ways : (b : Bool) (t : Told) (xs ys : List Told) → (if b then t ∷ xs ++ ys else xs ++ ys) ≡ (if b then t ∷ xs else xs) ++ ys
two_ways true t xs ys = refl
two_ways false t xs ys = refl

told_at_more : (place : ℕ) (told more : List Told) → told_at place (told ++ more) ≡ told_at place told ++ told_at place more
told_at_more place [] more = refl
told_at_more place (t ∷ told) more =
    ap (λ (xs : List Told). if t.place == place then t ∷ xs else xs) (told_at_more place told more) ∙ two_ways (t.place == place) t (told_at place told) (told_at place more)

all_told_more : (told more : List Told) (lives : List Life) → all_lives_told (told ++ more) lives ≡ all_lives_told more (all_lives_told told lives)
all_told_more [] more lives = refl
all_told_more (t ∷ told) more lives = all_told_more told more (lives_told t.host t.notice lives)

-- a notice at this place, and one at a later place
told_here : (place : ℕ) (told : List Told) (t : Told) → t.place ≡ place → told_at place (told ++ t ∷ []) ≡ told_at place told ++ t ∷ []
told_here place told t here =
    let this : (t.place == place) ≡ true = eq-eqb t.place place here in
    told_at_more place told (t ∷ []) ∙ ap (λ (b : Bool). told_at place told ++ (if b then t ∷ [] else [])) this

told_elsewhere : (place : ℕ) (told : List Told) (t : Told) → place < t.place → told_at place (told ++ t ∷ []) ≡ told_at place told
told_elsewhere place told t later =
    let other : (t.place == place) ≡ false = ne_eqb t.place place (λ e. omega (arith, e, later)) in
    told_at_more place told (t ∷ []) ∙ ap (λ (b : Bool). told_at place told ++ (if b then t ∷ [] else [])) other ∙ append-nil (told_at place told)

-- ---- one notice more

lives_before : (log : List Crossing) (told : List Told) (t : Told) → length log < t.place → lives_in log (told ++ t ∷ []) ≡ lives_in log told
lives_before [] told t later = ap (λ (ts : List Told). all_lives_told ts []) (told_elsewhere 0 told t later)
lives_before (c ∷ log) told t later =
    let sooner : length log < t.place = omega (arith, later) in
    ap₂ (λ (ts : List Told) (lives : List Life). all_lives_told ts (lives_crossed c lives)) (told_elsewhere (suc (length log)) told t later) (lives_before log told t sooner)

lives_now : (log : List Crossing) (told : List Told) (t : Told) → t.place ≡ length log → lives_in log (told ++ t ∷ []) ≡ lives_told t.host t.notice (lives_in log told)
lives_now [] told t here = ap (λ (ts : List Told). all_lives_told ts []) (told_here 0 told t here) ∙ all_told_more (told_at 0 told) (t ∷ []) []
lives_now (c ∷ log) told t here =
    let later : length log < t.place = omega (arith, here) in
    ap₂ (λ (ts : List Told) (lives : List Life). all_lives_told ts (lives_crossed c lives)) (told_here (suc (length log)) told t here) (lives_before log told t later)
    ∙ all_told_more (told_at (suc (length log)) told) (t ∷ []) (lives_crossed c (lives_in log told))

-- ---- places that have come

pub Placed : ℕ → List Told → Type 0
Placed place [] = Unit {0}
Placed place (t ∷ told) = (t.place ≤ place) × Placed place told

placed_on : (place : ℕ) (told : List Told) → Placed place told → Placed (suc place) told
unfolding Placed
placed_on place [] h = tt
placed_on place (t ∷ told) h = (omega (arith, h.0), placed_on place told h.1)

placed_more : (place : ℕ) (told : List Told) (t : Told) → Placed place told → t.place ≤ place → Placed place (told ++ t ∷ [])
unfolding Placed
placed_more place [] t h k = (k, tt)
placed_more place (u ∷ told) t h k = (h.0, placed_more place told t h.1 k)

none_yet : (place : ℕ) (told : List Told) → Placed place told → told_at (suc place) told ≡ []
unfolding Placed
none_yet place [] h = refl
none_yet place (t ∷ told) h =
    let not : (t.place == suc place) ≡ false = ne_eqb t.place (suc place) (λ e. omega (arith, e, h.0)) in
    ap (λ (b : Bool). if b then t ∷ told_at (suc place) told else told_at (suc place) told) not ∙ none_yet place told h.1

-- ---- what is kept

pub record Lived (k : Kept) : Type 0 where
  pub placed : Placed (length k.book.crossings) k.book.notices
  pub lived : AreLived k.book.crossings k.book.notices k.book.lives

pub crossed_lived : (c : Crossing) (k : Kept) → Lived k → Lived (crossed c k)
crossed_lived c k h = record {
  placed = placed_on (length k.book.crossings) k.book.notices h.placed;
  lived =
      crossed_alike c k.book.lives ∙ ap (lives_crossed c) h.lived
      ∙ ap (λ (ts : List Told). all_lives_told ts (lives_crossed c (lives_in k.book.crossings k.book.notices))) (sym (none_yet (length k.book.crossings) k.book.notices h.placed));
}

pub asked_lived : (h : Host) (r : Request) (k : Kept) → Lived k → Lived (asked h r k)
asked_lived h r k l = record { placed = l.placed; lived = asked_alike h r k.book.lives ∙ l.lived }

one_lived : (h : Host) (n : Notice) (k : Kept) → Lived k → Lived (book_told h n k)
one_lived h n k l = let t : Told = record { host = h; place = length k.book.crossings; notice = n } in record {
  placed = placed_more (length k.book.crossings) k.book.notices t l.placed (omega arith);
  lived = told_alike h n k.book.lives ∙ ap (lives_told h n) l.lived ∙ sym (lives_now k.book.crossings k.book.notices t refl);
}

pub all_lived : (h : Host) (ns : List Notice) (k : Kept) → Lived k → Lived (all_told h ns k)
all_lived h [] k l = l
all_lived h (n ∷ ns) k l = all_lived h ns (book_told h n k) (one_lived h n k l)

moment_lived : (x : Moment) (k : Kept) → Lived k → Lived (kept_by x k)
moment_lived (Crossed c) k l = crossed_lived c k l
moment_lived (Asked h r) k l = asked_lived h r k l

pub kept_lived : (moments : List Moment) → Lived (kept_in moments)
unfolding Placed
kept_lived [] = record { placed = tt; lived = refl }
kept_lived (x ∷ moments) = all_lived (host_in x) (notices_by x moments) (kept_by x (kept_in moments)) (moment_lived x (kept_in moments) (kept_lived moments))

-- reports change none of it
pub lived : (moments : List Moment) (k : Kept) → without_reports k ≡ kept_in moments → AreLived k.book.crossings k.book.notices k.book.lives
lived moments k same =
    let l : Lived (without_reports k) = subst Lived (sym same) (kept_lived moments) in
    l.lived

-- and where there are no notices there are no lives
none_crossed : (c : Crossing) → lives_crossed c [] ≡ []
none_crossed (crossing.Out m) = refl
none_crossed (crossing.In m) = refl
none_crossed (crossing.Answer kind f) = refl
none_crossed (crossing.Down h) = refl
none_crossed (crossing.Up h) = refl

pub none_lived : (log : List Crossing) → lives_in log [] ≡ []
none_lived [] = refl
none_lived (c ∷ log) = ap (lives_crossed c) (none_lived log) ∙ none_crossed c
