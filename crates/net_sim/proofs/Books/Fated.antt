-- A life is over exactly where its fate says so.
use Rattle.net_sim.proofs.Common.{◌≡◌, Bool, true, false, List, [], ◌∷◌, ◌++◌, refl, sym, subst, ◌∙◌, if◌then◌else◌, Host, Seen, Crossing, Notice, Request, Fate, Life, Kept, all_told, book_told, carried, changed_when, fates_where, life_ended, lives_asked, lives_at, lives_between, lives_crossed, lives_on, lives_told, lives_with, new_life, returned, where_it, Moment, Crossed, Asked, IsLawful, host_in, kept_by, kept_in, notices_by, WorldState}
use Rattle.interface.specs.declared.crossing.Crossing.TheVariants as crossing
use Rattle.host_pairs.specs.declared.notice.Notice.TheVariants as notice
use Rattle.sockets.specs.declared.request.Request.TheVariants as request
use Rattle.promise.specs.Fates.{AreFated, is_over}
use Rattle.promise.specs.declared.life.Fate.TheVariants as fate
use Rattle.net_sim.specs.Mixed.{crossed_only, mixed_kept}
use Rattle.net_sim.specs.Clean.{IsLawfulAmong}
use Rattle.net_sim.proofs.Hosts.Telling.{kept_nobody}
use Rattle.net_sim.specs.Book.{closing, fates_asked, fates_crossed, fates_told, granted, over_by_cls}

-- ---- changes of lives and of fates

same_ended : (b : Bool) (f : Life → Life) → ((x : Life) → (f x).ended ≡ x.ended) → (x : Life) → (changed_when b f x).ended ≡ x.ended
same_ended true f keeps x = keeps x
same_ended false f keeps x = refl

where_fated : (test : Life → Bool) (f : Life → Life) → ((x : Life) → (f x).ended ≡ x.ended) → (lives : List Life) (fates : List Fate) → AreFated lives fates → AreFated (where_it test f lives) fates
where_fated test f keeps [] fates h = h
where_fated test f keeps (x ∷ lives) [] h = absurd h
where_fated test f keeps (x ∷ lives) (g ∷ fates) h = (same_ended (test x) f keeps x ∙ h.0, where_fated test f keeps lives fates h.1)

-- lives that end
over_fated : (test : Life → Bool) (change : Fate → Fate) → ((f : Fate) → is_over (change f) ≡ true) → (lives : List Life) (fates : List Fate) → AreFated lives fates
    → AreFated (where_it test life_ended lives) (fates_where test change lives fates)
over_fated test change over [] fates h = h
over_fated test change over (x ∷ lives) [] h = absurd h
over_fated test change over (x ∷ lives) (f ∷ fates) h = (by (test x), over_fated test change over lives fates h.1) where
  by : (b : Bool) → (changed_when b life_ended x).ended ≡ is_over (if b then change f else f)
  by true = sym (over f)
  by false = h.0

-- lives that don't
on_fated : (test : Life → Bool) (change : Fate → Fate) → ((f : Fate) → is_over (change f) ≡ is_over f) → (lives : List Life) (fates : List Fate) → AreFated lives fates → AreFated lives (fates_where test change lives fates)
on_fated test change same [] fates h = h
on_fated test change same (x ∷ lives) [] h = absurd h
on_fated test change same (x ∷ lives) (f ∷ fates) h = (by (test x), on_fated test change same lives fates h.1) where
  by : (b : Bool) → x.ended ≡ is_over (if b then change f else f)
  by true = h.0 ∙ sym (same f)
  by false = h.0

push_fated : (lives : List Life) (fates : List Fate) (x : Life) → x.ended ≡ false → AreFated lives fates → AreFated (lives ++ x ∷ []) (fates ++ fate.Open ∷ [])
push_fated [] fates x e h =
    let P : List Fate → Type 0 = λ z. AreFated (x ∷ []) (z ++ fate.Open ∷ []) in
    subst P (sym h) (e, refl)
push_fated (y ∷ lives) [] x e h = absurd h
push_fated (y ∷ lives) (f ∷ fates) x e h = (h.0, push_fated lives fates x e h.1)

closing_same : (f : Fate) → is_over (closing f) ≡ is_over f
closing_same fate.Open = refl
closing_same fate.Closing = refl
closing_same fate.Closed = refl
closing_same fate.Ended = refl
closing_same fate.Reset = refl
closing_same fate.Stopped = refl

over_true : (f : Fate) → is_over (over_by_cls f) ≡ true
over_true fate.Open = refl
over_true fate.Closing = refl
over_true fate.Closed = refl
over_true fate.Ended = refl
over_true fate.Reset = refl
over_true fate.Stopped = refl

-- ---- what happens

crossed_fated : (c : Crossing) (lives : List Life) (fates : List Fate) → AreFated lives fates → AreFated (lives_crossed c lives) (fates_crossed c lives fates)
crossed_fated (crossing.Down h) lives fates u = over_fated (lives_on h) (λ f. fate.Stopped) (λ f. refl) lives fates u
crossed_fated c lives fates u = u

pub told_fated : (h : Host) (n : Notice) (lives : List Life) (fates : List Fate) → AreFated lives fates → AreFated (lives_told h n lives) (fates_told h n lives fates)
told_fated h (notice.Opened socket peer foreign own partner) lives fates u = push_fated lives fates (new_life h socket peer foreign own partner) refl u
told_fated h (notice.Ended socket peer foreign) lives fates u = over_fated (lives_between h socket peer foreign) over_by_cls over_true lives fates u
told_fated h (notice.PairReset peer) lives fates u = over_fated (lives_with h peer) (λ f. fate.Reset) (λ f. refl) lives fates u
told_fated h (notice.Sent socket bits) lives fates u = where_fated (lives_at h socket) (carried bits) (λ x. refl) lives fates u
told_fated h (notice.Arrived socket bits) lives fates u = where_fated (lives_at h socket) (carried bits) (λ x. refl) lives fates u
told_fated h (notice.Returned socket messages bits) lives fates u = where_fated (lives_at h socket) (returned messages bits) (λ x. refl) lives fates u
told_fated h n lives fates u = u

all_fated : (h : Host) (ns : List Notice) (k : Kept) → AreFated k.book.lives k.fates → AreFated (all_told h ns k).book.lives (all_told h ns k).fates
all_fated h [] k u = u
all_fated h (n ∷ ns) k u = all_fated h ns (book_told h n k) (told_fated h n k.book.lives k.fates u)

asked_fated : (h : Host) (r : Request) (lives : List Life) (fates : List Fate) → AreFated lives fates → AreFated (lives_asked h r lives) (fates_asked h r lives fates)
asked_fated h (request.Close socket) lives fates u = on_fated (lives_at h socket) closing closing_same lives fates u
asked_fated h (request.Grant socket messages bits) lives fates u = where_fated (lives_at h socket) (granted messages bits) (λ x. refl) lives fates u
asked_fated h r lives fates u = u

-- ---- every world

pub by_fated : (x : Moment) (k : Kept) → AreFated k.book.lives k.fates → AreFated (kept_by x k).book.lives (kept_by x k).fates
by_fated (Crossed c) k u = crossed_fated c k.book.lives k.fates u
by_fated (Asked h r) k u = asked_fated h r k.book.lives k.fates u

-- of a stranger only what crosses is kept
only_fated : (x : Moment) (k : Kept) → AreFated k.book.lives k.fates → AreFated (crossed_only x k).book.lives (crossed_only x k).fates
only_fated (Crossed c) k u = crossed_fated c k.book.lives k.fates u
only_fated (Asked h r) k u = u

chosen_fated : (b : Bool) (x y : Kept) → AreFated x.book.lives x.fates → AreFated y.book.lives y.fates
    → AreFated (if b then x else y).book.lives (if b then x else y).fates
chosen_fated true x y on off = on
chosen_fated false x y on off = off

pub mixed_fated : (strange : Host → Bool) (moments : List Moment)
    → AreFated (mixed_kept strange moments).book.lives (mixed_kept strange moments).fates
mixed_fated strange [] = refl
mixed_fated strange (x ∷ moments) =
    let rest : AreFated (mixed_kept strange moments).book.lives (mixed_kept strange moments).fates =
    mixed_fated strange moments in
    chosen_fated (strange (host_in x)) (crossed_only x (mixed_kept strange moments))
    (all_told (host_in x) (notices_by x moments) (kept_by x (mixed_kept strange moments)))
    (only_fated x (mixed_kept strange moments) rest)
    (all_fated (host_in x) (notices_by x moments) (kept_by x (mixed_kept strange moments))
    (by_fated x (mixed_kept strange moments) rest))

pub kept_fated : (moments : List Moment) → AreFated (kept_in moments).book.lives (kept_in moments).fates
kept_fated moments =
    let P : Kept → Type 0 = λ k. AreFated k.book.lives k.fates in
    subst P (kept_nobody (λ h. false) (λ h. refl) moments) (mixed_fated (λ h. false) moments)

-- with strangers, and without
pub among_fated : {C : Type 0} (strange : Host → Bool) (seen : C → Seen) (hosts : List Host) (w : WorldState C)
    → IsLawfulAmong strange seen hosts w → AreFated w.kept.book.lives w.kept.fates
among_fated strange seen hosts w lawful =
    let P : Kept → Type 0 = λ k. AreFated k.book.lives k.fates in
    subst P (sym lawful.whole.kept) (mixed_fated strange lawful.whole.moments)

pub world_fated : {C : Type 0} (seen : C → Seen) (hosts : List Host) (w : WorldState C) → IsLawful seen hosts w
    → AreFated w.kept.book.lives w.kept.fates
world_fated seen hosts w lawful =
    let P : Kept → Type 0 = λ k. AreFated k.book.lives k.fates in
    subst P (sym lawful.whole.kept) (kept_fated lawful.whole.moments)
