-- Nothing is handed over in a receiving life: a request to send is refused on a receiving socket.
use Rattle.net_sim.proofs.Common.{◌≡◌, ℕ, ◌==◌, ◌&&◌, ◌++◌, ◌%◌, Bool, true, false, not, List, [], ◌∷◌, None, refl, ap, sym, subst, ◌∙◌, arith, if◌then◌else◌, eqb-true, Host, same_host, Seen, Crossing, and_true, is_receive_socket, is_send_socket, Notice, NcpState, Request, Life, Kept, all_told, book_told, carried, changed_when, handed_to, life_ended, lives_asked, lives_at, lives_between, lives_crossed, lives_on, lives_told, lives_with, new_life, returned, where_it, Moment, Crossed, Asked, program, Happens, host_in, kept_by, notices_by, WorldState}
use Rattle.interface.specs.declared.crossing.Crossing.TheVariants as crossing
use Rattle.interface.proofs.lemmas.{guard, not_false}
use Rattle.host_pairs.specs.declared.notice.Notice.TheVariants as notice
use Rattle.sockets.specs.Requests.{refusal}
use Rattle.sockets.specs.declared.request.Request.TheVariants as request
use Rattle.net_sim.specs.Book.{granted, handed_asked, handed_told}
use Rattle.net_sim.specs.Handed.{AreUnhanded}
use Rattle.net_sim.specs.Mixed.{AreMixed, crossed_only, mixed_kept}
use Rattle.net_sim.specs.Clean.{IsLawfulAmong}

-- ---- changes of lives

same_socket : (b : Bool) (f : Life → Life) → ((x : Life) → (f x).socket ≡ x.socket) → (x : Life) → (changed_when b f x).socket ≡ x.socket
same_socket true f keeps x = keeps x
same_socket false f keeps x = refl

where_unhanded : (test : Life → Bool) (f : Life → Life) → ((x : Life) → (f x).socket ≡ x.socket) → (lives : List Life) (handed : List (List Bool)) → AreUnhanded lives handed → AreUnhanded (where_it test f lives) handed
where_unhanded test f keeps [] handed h = h
where_unhanded test f keeps (x ∷ lives) [] h = absurd h
where_unhanded test f keeps (x ∷ lives) (b ∷ handed) h =
    (λ r. h.0 (ap (λ (s : ℕ). s % 2 == 0) (sym (same_socket (test x) f keeps x)) ∙ r), where_unhanded test f keeps lives handed h.1)

push_unhanded : (lives : List Life) (handed : List (List Bool)) (x : Life) → AreUnhanded lives handed → AreUnhanded (lives ++ x ∷ []) (handed ++ [] ∷ [])
push_unhanded [] handed x h =
    let P : List (List Bool) → Type 0 = λ z. AreUnhanded (x ∷ []) (z ++ [] ∷ []) in
    subst P (sym h) (λ r. refl, refl)
push_unhanded (y ∷ lives) [] x h = absurd h
push_unhanded (y ∷ lives) (b ∷ handed) x h = (h.0, push_unhanded lives handed x h.1)

-- ---- what happens

crossed_unhanded : (c : Crossing) (lives : List Life) (handed : List (List Bool)) → AreUnhanded lives handed → AreUnhanded (lives_crossed c lives) handed
crossed_unhanded (crossing.Down h) lives handed u = where_unhanded (lives_on h) life_ended (λ x. refl) lives handed u
crossed_unhanded c lives handed u = u

told_unhanded : (h : Host) (n : Notice) (lives : List Life) (handed : List (List Bool)) → AreUnhanded lives handed → AreUnhanded (lives_told h n lives) (handed_told n handed)
told_unhanded h (notice.Opened socket peer foreign own partner) lives handed u = push_unhanded lives handed (new_life h socket peer foreign own partner) u
told_unhanded h (notice.Ended socket peer foreign) lives handed u = where_unhanded (lives_between h socket peer foreign) life_ended (λ x. refl) lives handed u
told_unhanded h (notice.PairReset peer) lives handed u = where_unhanded (lives_with h peer) life_ended (λ x. refl) lives handed u
told_unhanded h (notice.Sent socket bits) lives handed u = where_unhanded (lives_at h socket) (carried bits) (λ x. refl) lives handed u
told_unhanded h (notice.Arrived socket bits) lives handed u = where_unhanded (lives_at h socket) (carried bits) (λ x. refl) lives handed u
told_unhanded h (notice.Returned socket messages bits) lives handed u = where_unhanded (lives_at h socket) (returned messages bits) (λ x. refl) lives handed u
told_unhanded h n lives handed u = u

all_unhanded : (h : Host) (ns : List Notice) (k : Kept) → AreUnhanded k.book.lives k.handed → AreUnhanded (all_told h ns k).book.lives (all_told h ns k).handed
all_unhanded h [] k u = u
all_unhanded h (n ∷ ns) k u = all_unhanded h ns (book_told h n k) (told_unhanded h n k.book.lives k.handed u)

-- ---- what is handed over

-- a receiving life isn't that of a sending socket
not_there : (h : Host) (socket : ℕ) (x : Life) → is_send_socket socket ≡ true → is_receive_socket x.socket ≡ true → lives_at h socket x ≡ true → ⊥
not_there h socket x s r t =
    let both = and_true (same_host h x.host && x.socket == socket) (not x.ended) t in
    let own : x.socket ≡ socket = eqb-true x.socket socket (and_true (same_host h x.host) (x.socket == socket) both.0).1 in
    let odd : socket % 2 ≡ 1 = eqb-true (socket % 2) 1 s in
    let even : x.socket % 2 ≡ 0 = eqb-true (x.socket % 2) 0 r in
    let z : x.socket % 2 ≡ 1 = ap (λ (n : ℕ). n % 2) own ∙ odd in
    omega arith

kept_empty : (test : Bool) (b bits : List Bool) → (test ≡ true → ⊥) → b ≡ [] → (if test then b ++ bits else b) ≡ []
kept_empty true b bits n e = absurd (n refl)
kept_empty false b bits n e = e

sent_unhanded : (h : Host) (socket : ℕ) (bits : List Bool) → is_send_socket socket ≡ true → (lives : List Life) (handed : List (List Bool)) → AreUnhanded lives handed
    → AreUnhanded lives (handed_to (lives_at h socket) bits lives handed)
sent_unhanded h socket bits s [] handed u = u
sent_unhanded h socket bits s (x ∷ lives) [] u = absurd u
sent_unhanded h socket bits s (x ∷ lives) (b ∷ handed) u =
    (λ r. kept_empty (lives_at h socket x) b bits (not_there h socket x s r) (u.0 r), sent_unhanded h socket bits s lives handed u.1)

asked_unhanded : (h : Host) (s : NcpState) (r : Request) → refusal s r ≡ None → (lives : List Life) (handed : List (List Bool)) → AreUnhanded lives handed
    → AreUnhanded (lives_asked h r lives) (handed_asked h r lives handed)
unfolding refusal
asked_unhanded h s (request.Send socket bits) may lives handed u =
    sent_unhanded h socket bits (not_false (is_send_socket socket) (guard (not (is_send_socket socket)) _ _ may).0) lives handed u
asked_unhanded h s (request.Grant socket messages bits) may lives handed u = where_unhanded (lives_at h socket) (granted messages bits) (λ x. refl) lives handed u
asked_unhanded h s r may lives handed u = u

-- ---- every world

by_unhanded : (hosts : List Host) (x : Moment) (moments : List Moment) → Happens hosts x moments → (k : Kept) → AreUnhanded k.book.lives k.handed → AreUnhanded (kept_by x k).book.lives (kept_by x k).handed
by_unhanded hosts (Crossed c) moments may k u = crossed_unhanded c k.book.lives k.handed u
by_unhanded hosts (Asked h r) moments may k u = asked_unhanded h (program h moments) r may.2 k.book.lives k.handed u

-- of a stranger only what crosses is kept
only_unhanded : (x : Moment) (k : Kept) → AreUnhanded k.book.lives k.handed → AreUnhanded (crossed_only x k).book.lives (crossed_only x k).handed
only_unhanded (Crossed c) k u = crossed_unhanded c k.book.lives k.handed u
only_unhanded (Asked h r) k u = u

chosen_unhanded : (b : Bool) (x y : Kept) → (b ≡ true → AreUnhanded x.book.lives x.handed)
    → (b ≡ false → AreUnhanded y.book.lives y.handed) → AreUnhanded (if b then x else y).book.lives (if b then x else y).handed
chosen_unhanded true x y on off = on refl
chosen_unhanded false x y on off = off refl

mixed_unhanded : (strange : Host → Bool) (hosts : List Host) (moments : List Moment) → AreMixed strange hosts moments
    → AreUnhanded (mixed_kept strange moments).book.lives (mixed_kept strange moments).handed
mixed_unhanded strange hosts [] mixed = refl
mixed_unhanded strange hosts (x ∷ moments) mixed =
    let rest : AreUnhanded (mixed_kept strange moments).book.lives (mixed_kept strange moments).handed =
    mixed_unhanded strange hosts moments mixed.1 in
    chosen_unhanded (strange (host_in x)) (crossed_only x (mixed_kept strange moments))
    (all_told (host_in x) (notices_by x moments) (kept_by x (mixed_kept strange moments)))
    (λ on. only_unhanded x (mixed_kept strange moments) rest)
    (λ off. all_unhanded (host_in x) (notices_by x moments) (kept_by x (mixed_kept strange moments))
    (by_unhanded hosts x moments (mixed.0 off) (mixed_kept strange moments) rest))

-- with strangers, and without
pub among_unhanded : {C : Type 0} (strange : Host → Bool) (seen : C → Seen) (hosts : List Host) (w : WorldState C)
    → IsLawfulAmong strange seen hosts w → AreUnhanded w.kept.book.lives w.kept.handed
among_unhanded strange seen hosts w lawful =
    let P : Kept → Type 0 = λ k. AreUnhanded k.book.lives k.handed in
    subst P (sym lawful.whole.kept) (mixed_unhanded strange hosts lawful.whole.moments lawful.whole.mixed)
