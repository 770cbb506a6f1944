-- Lives that continue and their ends, by what world_keeps_lives has of each socket; and the lives of a book since a host dropped its ends.
use Rattle.world_keeps_streams.proofs.Common.{◌≡◌, inl, inr, ℕ, zero, suc, ◌+◌, ◌≤◌, ◌==◌, Bool, true, false, if◌then◌else◌, List, [], ◌∷◌, ◌++◌, map, drop, length, refl, ap, sym, subst, ◌∙◌, eq-eqb, arith, length-append, Host, same_host, same_host-refl, Entry, Notice, pair_with, Request, Kept, all_told, lives_asked, lives_told, where_it, HaveAddresses, Asked, Crossed, Moment, event_in, events_of, program, crossings_of, keeps, Happened, Network}
use Rattle.net_sim.specs.Told.{host_in, kept_by, notices_by, kept_in}
use Rattle.world_keeps_lives.specs.Lives.{HasOpenEnd, IsLifeOf, at_socket, mine_on, EachOn, NoneOf}
use Rattle.world_keeps_lives.proofs.lemmas.{At, Elsewhere, Near, Place, clash}
use Rattle.interface.specs.Mailboxes as mail
use Rattle.interface.specs.declared.crossing.Crossing.TheVariants as crossing
use Rattle.host_pairs.specs.declared.notice.Notice.TheVariants as notice
use Rattle.sockets.specs.declared.request.Request.TheVariants as request
use Rattle.promise.specs.declared.life.Life.{Life}
use Rattle.net_sim.specs.Book as book
use Rattle.world_keeps_streams.proofs.Deeds.Effects.{Among, Deed, all_lives, life_by, new_by}
use Rattle.world_keeps_streams.proofs.Deeds.Told.{After}
use Rattle.world_keeps_streams.proofs.Carried.Streams.{EndOf}
use Rattle.world_keeps_streams.proofs.Carried.Step.{AreOwned}
use Rattle.world_keeps_streams.proofs.Carried.Calls.{among_contains, since}
use Rattle.world_keeps_streams.proofs.Ours.{live}

-- ---- ends of lives

-- after moments
pub owned_now : (hosts : Network) (ms : List Moment) → HaveAddresses hosts.all → mail.IsRun hosts.all (crossings_of ms)
    → Happened hosts ms → (a b : Host) → hosts.strange a ≡ false
    → AreOwned a b (pair_with b (program a ms).peers).entries (kept_in ms).book.lives
owned_now hosts ms addresses run time a b plain x there host peer goes =
    let h : HasOpenEnd (program x.host ms) x = live hosts ms addresses run time x (subst (λ (g : Host). hosts.strange g ≡ false) (sym host) plain) (among_contains _ x there) goes in
    let one : mine_on x.socket (pair_with b (program a ms).peers).entries ≡ h.end ∷ [] =
    subst (λ (g : Host). mine_on x.socket (pair_with b (program g ms).peers).entries ≡ h.end ∷ []) host (subst (λ (g : Host). mine_on x.socket (pair_with g (program x.host ms).peers).entries ≡ h.end ∷ []) peer h.one) in
    record { end = h.end; one = one; foreign = h.foreign; asked = h.own; partner = h.partner }

pub among_each : (a : Host) (k : ℕ) (P : Life → List Bool → Type 0) (lives : List Life) (handed : List (List Bool)) (x : Life) → Among x lives → at_socket a k x ≡ true → x.ended ≡ false → EachOn a k P lives handed → (t : List Bool) × P x t
among_each a k P [] handed x there at goes e = absurd there
among_each a k P (y ∷ ys) [] x there at goes e = absurd e
among_each a k P (y ∷ ys) (t ∷ ts) x (inl is) at goes e =
    (t, subst (λ (z : Life). P z t) is ((e.0 (subst (λ (z : Life). at_socket a k z ≡ true) (sym is) at)).1 (subst (λ (z : Life). z.ended ≡ false) (sym is) goes)))
among_each a k P (y ∷ ys) (t ∷ ts) x (inr is) at goes e = among_each a k P ys ts x is at goes e.1

-- an end elsewhere is with another host
abbrev pub IsAway : Host → Place → Type 0
IsAway p Near = Unit {0}
IsAway p (Elsewhere g e) = same_host g p ≡ false

-- between calls: each socket is at some place
pub owned_of : (a p : Host) (es : List Entry) (κ : Kept) (listens : ℕ → Bool) → ((k : ℕ) → (m : Place) × IsAway p m × At a k m p (mine_on k es) (listens k) κ) → AreOwned a p es κ.book.lives
owned_of a p es κ listens places x there host peer goes = by (places x.socket).0 (mine_on x.socket es) (listens x.socket) refl (places x.socket).1 (places x.socket).2 where
  at : at_socket a x.socket x ≡ true
  at =
      let h : same_host a x.host ≡ true = subst (λ (g : Host). same_host a g ≡ true) (sym host) (same_host-refl a) in
      let s : (x.socket == x.socket) ≡ true = eq-eqb x.socket x.socket refl in
      rw (h, s) refl

  by : (m : Place) (ys : List Entry) (l : Bool) → mine_on x.socket es ≡ ys → IsAway p m → At a x.socket m p ys l κ → EndOf es x
  by Near [] l is away h = absurd (among_each a x.socket NoneOf κ.book.lives κ.handed x there at goes h).1
  by Near (e ∷ []) false is away h =
      let i : (t : List Bool) × IsLifeOf p e x t = among_each a x.socket _ κ.book.lives κ.handed x there at goes h.1 in
      record { end = e; one = is; foreign = i.1.foreign; asked = i.1.own; partner = i.1.partner }
  by Near (e ∷ []) true is away h = absurd h
  by Near (e ∷ f ∷ more) l is away h = absurd h
  by (Elsewhere g e) [] false is away h =
      let i : (t : List Bool) × IsLifeOf g e x t = among_each a x.socket _ κ.book.lives κ.handed x there at goes h in
      clash (EndOf es x) (same_host g p) (subst (λ (q : Host). same_host g q ≡ true) (sym i.1.peers ∙ peer) (same_host-refl g)) away
  by (Elsewhere g e) [] true is away h = absurd h
  by (Elsewhere g e) (f ∷ more) l is away h = absurd h

among_dropped : {A : Type 0} (n : ℕ) (xs : List A) (x : A) → Among x (drop n xs) → Among x xs
among_dropped zero xs x h = h
among_dropped (suc n) [] x h = h
among_dropped (suc n) (y ∷ ys) x h = inr (among_dropped n ys x h)

-- so it is for those since a place in the book
pub owned_dropped : (a b : Host) (es : List Entry) (n : ℕ) (lives : List Life) → AreOwned a b es lives → AreOwned a b es (drop n lives)
owned_dropped a b es n lives o x there host peer goes = o x (among_dropped n lives x there) host peer goes

-- ---- lives of a book

pub told_lives : (h : Host) (ns : List Notice) (k : Kept) → (all_told h ns k).book.lives ≡ all_lives h ns k.book.lives
told_lives h [] k = refl
told_lives h (n ∷ ns) k = told_lives h ns (book.book_told h n k)

drop_map : {A : Type 0} (f : A → A) (n : ℕ) (xs new : List A) → n ≤ length xs → drop n (map f xs ++ new) ≡ map f (drop n xs) ++ new
drop_map f zero xs new l = refl
drop_map f (suc n) [] new l = absurd (omega (arith, l))
drop_map f (suc n) (x ∷ xs) new l = drop_map f n xs new (omega (arith, l))

-- a deed does to the later lives what it does to all
pub after_dropped : (a b : Host) (d : Deed) (n : ℕ) (lives : List Life) → n ≤ length lives → drop n (After a b d lives) ≡ After a b d (drop n lives)
after_dropped a b d n lives l = drop_map _ n lives _ l

pub where_length : (test : Life → Bool) (f : Life → Life) (ls : List Life) → length (where_it test f ls) ≡ length ls
where_length test f [] = refl
where_length test f (x ∷ xs) = ap (λ (n : ℕ). suc n) (where_length test f xs)

pub told_longer : (h : Host) (n : Notice) (ls : List Life) → length ls ≤ length (lives_told h n ls)
told_longer h (notice.Opened socket peer foreign own partner) ls =
    let e : length (ls ++ book.new_life h socket peer foreign own partner ∷ []) ≡ length ls + 1 = length-append ls (book.new_life h socket peer foreign own partner ∷ []) in omega (arith, e)
told_longer h (notice.Ended socket peer foreign) ls = let e : length (where_it (book.lives_between h socket peer foreign) book.life_ended ls) ≡ length ls = where_length (book.lives_between h socket peer foreign) book.life_ended ls in omega (arith, e)
told_longer h (notice.PairReset peer) ls = let e : length (where_it (book.lives_with h peer) book.life_ended ls) ≡ length ls = where_length (book.lives_with h peer) book.life_ended ls in omega (arith, e)
told_longer h (notice.Sent socket bits) ls = let e : length (where_it (book.lives_at h socket) (book.carried bits) ls) ≡ length ls = where_length (book.lives_at h socket) (book.carried bits) ls in omega (arith, e)
told_longer h (notice.Arrived socket bits) ls = let e : length (where_it (book.lives_at h socket) (book.carried bits) ls) ≡ length ls = where_length (book.lives_at h socket) (book.carried bits) ls in omega (arith, e)
told_longer h (notice.Returned socket m n) ls = let e : length (where_it (book.lives_at h socket) (book.returned m n) ls) ≡ length ls = where_length (book.lives_at h socket) (book.returned m n) ls in omega (arith, e)
told_longer h n ls = omega arith

pub all_longer : (h : Host) (ns : List Notice) (ls : List Life) → length ls ≤ length (all_lives h ns ls)
all_longer h [] ls = omega arith
all_longer h (n ∷ ns) ls =
    let one : length ls ≤ length (lives_told h n ls) = told_longer h n ls in
    let rest : length (lives_told h n ls) ≤ length (all_lives h ns _) = all_longer h ns (lives_told h n ls) in
    omega (arith, one, rest)

asked_length : (h : Host) (q : Request) (ls : List Life) → length (lives_asked h q ls) ≡ length ls
asked_length h (request.Grant socket m n) ls = where_length (book.lives_at h socket) (book.granted m n) ls
asked_length h q ls = refl

pub by_length : (x : Moment) (k : Kept) → length (kept_by x k).book.lives ≡ length k.book.lives
by_length (Crossed (crossing.Down h)) k = where_length _ book.life_ended k.book.lives
by_length (Crossed c) k = refl
by_length (Asked h q) k = asked_length h q k.book.lives

-- a book only grows
pub longer : (x : Moment) (ms : List Moment) → length (kept_in ms).book.lives ≤ length (kept_in (x ∷ ms)).book.lives
longer x ms =
    let told : length (kept_in (x ∷ ms)).book.lives ≡ length (all_lives (host_in x) (notices_by x ms) (kept_by x (kept_in ms)).book.lives) = ap length (told_lives (host_in x) (notices_by x ms) (kept_by x (kept_in ms))) in
    let grows : length (kept_by x (kept_in ms)).book.lives ≤ length (all_lives (host_in x) (notices_by x ms) (kept_by x (kept_in ms)).book.lives) = all_longer (host_in x) (notices_by x ms) (kept_by x (kept_in ms)).book.lives in
    let same : length (kept_by x (kept_in ms)).book.lives ≡ length (kept_in ms).book.lives = by_length x (kept_in ms) in
    omega (arith, told, grows, same)

pub since_within : (a b : Host) (ms : List Moment) → since a b ms ≤ length (kept_in ms).book.lives
since_within a b [] = omega arith
since_within a b (x ∷ ms) = by (since_within a b ms) (keeps a b (event_in x) (events_of ms)) where
  by : since a b ms ≤ length (kept_in ms).book.lives → (v : Bool) → (if v then since a b ms else length (kept_in (x ∷ ms)).book.lives) ≤ length (kept_in (x ∷ ms)).book.lives
  by rest true = omega (arith, rest, longer x ms)
  by rest false = omega arith
