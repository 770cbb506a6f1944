-- Each life of the book that continues is known to its user.
use Rattle.world_keeps_connections.proofs.Common.{◌≡◌, ℕ, Bool, true, false, ◌&&◌, ◌==◌, if◌then◌else◌, List, [], ◌∷◌, refl, sym, subst, ◌∙◌, eq-eqb, arith, Contains, Host, same_host, Crossing, same_host-refl, same_host-true, Notice, Request, IsIn, all_known, Moment, Crossed, Asked, crossings_of, is_between, life_of, known_in}
use Rattle.net_sim.specs.Timeline.{IsTimeline}
use Rattle.std.proofs.Common.{inl, inr, zero, suc, ◌<◌, not, ◌++◌, length, get_or, ap}
use Rattle.std.proofs.lemmas.Bool.{eqb-true}
use Rattle.interface.specs.Mailboxes as mail
use Rattle.interface.specs.declared.crossing.Crossing.TheVariants as crossing
use Rattle.host_pairs.specs.declared.notice.Notice.TheVariants as notice
use Rattle.host_pairs.proofs.lemmas.{both}
use Rattle.sockets.specs.declared.request.Request.TheVariants as request
use Rattle.pairing_law.specs.Sides.{Life}
use Rattle.host_keeps_pairing.specs.Known.{known_after}
use Rattle.net_sim.specs.Book.{Kept, all_told, carried, changed_when, crossed, life_ended, granted, lives_asked, lives_at, lives_between, lives_on, lives_told, lives_with, new_life, returned, book_told, where_it}
use Rattle.promise.specs.declared.life.Life as book
use Rattle.net_sim.specs.Mixed.{Happened, mixed_kept}
use Rattle.net_sim.specs.Told.{host_in, kept_by, notices_by}
use Rattle.reset_law.specs.Network.{Network}
use Rattle.interface.proofs.lemmas.{not_true, unlike}
use Rattle.world_keeps_pairing.proofs.lemmas.{and_never}

-- an opening upon what is known, where it is of these ends
abbrev upon : Bool → Bool → Life → List Life → List Life
upon b c l k = if b then (if c then l ∷ k else k) else k

module _ (origin : ℕ → ℕ) (h p : Host) (own foreign : ℕ) where
  -- a life of these ends that continues
  abbrev pub goes : book.Life → Bool
  goes x = is_between h p own foreign x && not x.ended

  -- each of them is known
  abbrev pub AreKnown : List Life → List book.Life → Type 0
  AreKnown k [] = Unit {0}
  AreKnown k (x ∷ lives) = (goes x ≡ true → IsIn (life_of origin x) k) × AreKnown k lives

  join : (k : List Life) (xs ys : List book.Life) → AreKnown k xs → AreKnown k ys → AreKnown k (xs ++ ys)
  join k [] ys a b = b
  join k (x ∷ xs) ys a b = (a.0, join k xs ys a.1 b)

  more : (l : Life) (k : List Life) (xs : List book.Life) → AreKnown k xs → AreKnown (l ∷ k) xs
  more l k [] a = tt
  more l k (x ∷ xs) a = (λ e. inr (a.0 e), more l k xs a.1)

  -- what a life has that continues
  record Has (x : book.Life) : Type 0 where
    host : h ≡ x.host
    peer : p ≡ x.peer
    socket : x.socket ≡ own
    foreign_is : x.foreign ≡ foreign
    on : x.ended ≡ false

  has : (x : book.Life) → goes x ≡ true → Has x
  has x e =
      let a : (is_between h p own foreign x ≡ true) × (not x.ended ≡ true) = both (is_between h p own foreign x) (not x.ended) e in
      let b : (same_host h x.host ≡ true) × ((same_host p x.peer && (x.socket == own && x.foreign == foreign)) ≡ true) = both (same_host h x.host) (same_host p x.peer && (x.socket == own && x.foreign == foreign)) a.0 in
      let c : (same_host p x.peer ≡ true) × ((x.socket == own && x.foreign == foreign) ≡ true) = both (same_host p x.peer) (x.socket == own && x.foreign == foreign) b.1 in
      let d : ((x.socket == own) ≡ true) × ((x.foreign == foreign) ≡ true) = both (x.socket == own) (x.foreign == foreign) c.1 in
      record { host = same_host-true h x.host b.0; peer = same_host-true p x.peer c.0; socket = eqb-true x.socket own d.0; foreign_is = eqb-true x.foreign foreign d.1; on = not_true x.ended a.1 }

  -- ---- changes of lives

  abbrev Keeps : (book.Life → book.Life) → Type 0
  Keeps change = (x : book.Life) → goes (change x) ≡ true → (goes x ≡ true) × (life_of origin (change x) ≡ life_of origin x)

  where_keeps : (test : book.Life → Bool) (change : book.Life → book.Life) (k : List Life) (xs : List book.Life) → Keeps change → AreKnown k xs → AreKnown k (where_it test change xs)
  where_keeps test change k [] keeps a = tt
  where_keeps test change k (x ∷ xs) keeps a = (by (test x), where_keeps test change k xs keeps a.1) where
    by : (b : Bool) → goes (changed_when b change x) ≡ true → IsIn (life_of origin (changed_when b change x)) k
    by true e = subst (λ (l : Life). IsIn l k) (sym (keeps x e).1) (a.0 (keeps x e).0)
    by false e = a.0 e

  -- lives that all end
  where_ends : (test : book.Life → Bool) (xs : List book.Life) → ((x : book.Life) → goes x ≡ true → test x ≡ true) → AreKnown [] (where_it test life_ended xs)
  where_ends test [] all = tt
  where_ends test (x ∷ xs) all = (by (test x) refl, where_ends test xs all) where
    by : (b : Bool) → test x ≡ b → goes (changed_when b life_ended x) ≡ true → IsIn (life_of origin (changed_when b life_ended x)) []
    by true e g = absurd (and_never (is_between h p own foreign x) g)
    by false e g = absurd (unlike (test x) (all x g) e)

  ended_keeps : Keeps life_ended
  ended_keeps x e = absurd (and_never (is_between h p own foreign x) e)

  same_if : (b : Bool) (k : List Life) (xs : List book.Life) → AreKnown k xs → AreKnown (if b then k else k) xs
  same_if true k xs a = a
  same_if false k xs a = a

  -- ---- notices

  opened_by : (g q : Host) (socket other a b : ℕ) (k : List Life) (lives : List book.Life) → AreKnown k lives → (c d : Bool) → same_host h g ≡ c → (same_host p q && (socket == own && other == foreign)) ≡ d
      → AreKnown (upon c d (record { own = a; partner = origin b }) k) (lives ++ new_life g socket q other a b ∷ [])
  opened_by g q socket other a b k lives known true true e f = join (record { own = a; partner = origin b } ∷ k) lives (new_life g socket q other a b ∷ []) (more (record { own = a; partner = origin b }) k lives known) ((λ i. inl refl), tt)
  opened_by g q socket other a b k lives known true false e f =
      join k lives (new_life g socket q other a b ∷ []) known
      ((λ i. absurd (unlike (same_host p q && (socket == own && other == foreign)) (both (same_host h g) (same_host p q && (socket == own && other == foreign)) (both (is_between h p own foreign (new_life g socket q other a b)) true i).0).1 f)), tt)
  opened_by g q socket other a b k lives known false d e f =
      join k lives (new_life g socket q other a b ∷ []) known
      ((λ i. absurd (unlike (same_host h g) (both (same_host h g) (same_host p q && (socket == own && other == foreign)) (both (is_between h p own foreign (new_life g socket q other a b)) true i).0).0 e)), tt)

  host_is : (g : Host) (x : book.Life) → same_host h g ≡ true → Has x → same_host g x.host ≡ true
  host_is g x e i = subst (λ (y : Host). same_host y x.host ≡ true) (sym i.host ∙ same_host-true h g e) (same_host-refl x.host)

  peer_is : (q : Host) (x : book.Life) → same_host p q ≡ true → Has x → same_host q x.peer ≡ true
  peer_is q x e i = subst (λ (y : Host). same_host y x.peer ≡ true) (sym i.peer ∙ same_host-true p q e) (same_host-refl x.peer)

  ended_by : (g q : Host) (socket other : ℕ) (k : List Life) (lives : List book.Life) → AreKnown k lives → (c d : Bool) → same_host h g ≡ c → (same_host p q && (socket == own && other == foreign)) ≡ d
      → AreKnown (if c then (if d then [] else k) else k) (where_it (lives_between g socket q other) life_ended lives)
  ended_by g q socket other k lives known true true e f =
      where_ends (lives_between g socket q other) lives
      (λ x i.
      (let has_it : Has x = has x i in
      let a : (same_host p q ≡ true) × ((socket == own && other == foreign) ≡ true) = both (same_host p q) (socket == own && other == foreign) f in
      let b : ((socket == own) ≡ true) × ((other == foreign) ≡ true) = both (socket == own) (other == foreign) a.1 in
      let c : (x.socket == socket) ≡ true = eq-eqb x.socket socket (has_it.socket ∙ sym (eqb-true socket own b.0)) in
      let d : (x.foreign == other) ≡ true = eq-eqb x.foreign other (has_it.foreign_is ∙ sym (eqb-true other foreign b.1)) in
      let hosts : same_host g x.host ≡ true = host_is g x e has_it in
      let peers : same_host q x.peer ≡ true = peer_is q x a.0 has_it in
      let on : x.ended ≡ false = has_it.on in
      rw (hosts, c, on, peers, d) refl))
  ended_by g q socket other k lives known true false e f = where_keeps (lives_between g socket q other) life_ended k lives ended_keeps known
  ended_by g q socket other k lives known false d e f = where_keeps (lives_between g socket q other) life_ended k lives ended_keeps known

  reset_by : (g q : Host) (k : List Life) (lives : List book.Life) → AreKnown k lives → (c d : Bool) → same_host h g ≡ c → same_host p q ≡ d → AreKnown (if c then (if d then [] else k) else k) (where_it (lives_with g q) life_ended lives)
  reset_by g q k lives known true true e f =
      where_ends (lives_with g q) lives
      (λ x i.
      (let has_it : Has x = has x i in
      let hosts : same_host g x.host ≡ true = host_is g x e has_it in
      let peers : same_host q x.peer ≡ true = peer_is q x f has_it in
      let on : x.ended ≡ false = has_it.on in
      rw (hosts, peers, on) refl))
  reset_by g q k lives known true false e f = where_keeps (lives_with g q) life_ended k lives ended_keeps known
  reset_by g q k lives known false d e f = where_keeps (lives_with g q) life_ended k lives ended_keeps known

  told_known : (g : Host) (n : Notice) (k : List Life) (lives : List book.Life) → AreKnown k lives → AreKnown (if same_host h g then known_after origin p own foreign n k else k) (lives_told g n lives)
  told_known g (notice.Opened socket q other a b) k lives known = opened_by g q socket other a b k lives known (same_host h g) (same_host p q && (socket == own && other == foreign)) refl refl
  told_known g (notice.Ended socket q other) k lives known = ended_by g q socket other k lives known (same_host h g) (same_host p q && (socket == own && other == foreign)) refl refl
  told_known g (notice.PairReset q) k lives known = reset_by g q k lives known (same_host h g) (same_host p q) refl refl
  told_known g (notice.Sent socket bits) k lives known = same_if (same_host h g) k (where_it (lives_at g socket) (carried bits) lives) (where_keeps (lives_at g socket) (carried bits) k lives (λ x e. (e, refl)) known)
  told_known g (notice.Arrived socket bits) k lives known = same_if (same_host h g) k (where_it (lives_at g socket) (carried bits) lives) (where_keeps (lives_at g socket) (carried bits) k lives (λ x e. (e, refl)) known)
  told_known g (notice.Returned socket messages bits) k lives known = same_if (same_host h g) k (where_it (lives_at g socket) (returned messages bits) lives) (where_keeps (lives_at g socket) (returned messages bits) k lives (λ x e. (e, refl)) known)
  told_known g n k lives known = same_if (same_host h g) k lives known

  all_told_by : (g : Host) (b : Bool) → same_host h g ≡ b → (ns : List Notice) (k : List Life) (kept : Kept) → AreKnown k kept.book.lives → AreKnown (if b then all_known origin p own foreign ns k else k) (all_told g ns kept).book.lives
  all_told_by g b e [] k kept known = same_if b k kept.book.lives known
  all_told_by g true e (n ∷ ns) k kept known =
      all_told_by g true e ns (known_after origin p own foreign n k) (book_told g n kept)
      (subst (λ (c : Bool). AreKnown (if c then known_after origin p own foreign n k else k) (lives_told g n kept.book.lives)) e (told_known g n k kept.book.lives known))
  all_told_by g false e (n ∷ ns) k kept known =
      all_told_by g false e ns k (book_told g n kept)
      (subst (λ (c : Bool). AreKnown (if c then known_after origin p own foreign n k else k) (lives_told g n kept.book.lives)) e (told_known g n k kept.book.lives known))

  asked_known : (g : Host) (r : Request) (k : List Life) (lives : List book.Life) → AreKnown k lives → AreKnown k (lives_asked g r lives)
  asked_known g (request.Grant socket messages bits) k lives known = where_keeps (lives_at g socket) (granted messages bits) k lives (λ x e. (e, refl)) known
  asked_known g r k lives known = known

  -- a host that stops ends its lives
  down_by : (g : Host) (k : List Life) (lives : List book.Life) → AreKnown k lives → (b : Bool) → same_host h g ≡ b → AreKnown (if b then [] else k) (where_it (lives_on g) life_ended lives)
  down_by g k lives known true e =
      where_ends (lives_on g) lives
      (λ x i. (let has_it : Has x = has x i in let hosts : same_host g x.host ≡ true = host_is g x e has_it in let on : x.ended ≡ false = has_it.on in rw (hosts, on) refl))
  down_by g k lives known false e = where_keeps (lives_on g) life_ended k lives ended_keeps known

  -- ---- moments

  abbrev known : List Moment → List Life
  known moments = known_in origin h p own foreign moments

  -- a host that is down has no lives
  pub record Follows (hosts : Network) (moments : List Moment) : Type 0 where
    pub are : AreKnown (known_in origin h p own foreign moments) (mixed_kept hosts.strange moments).book.lives
    pub idle : mail.is_up hosts.all h (crossings_of moments) ≡ false
        → AreKnown [] (mixed_kept hosts.strange moments).book.lives

  -- something is done by a host that is up
  acts : (hosts : List Host) (g : Host) (ns : List Notice) (k : List Life) (kept : Kept) (log : List Crossing) → mail.is_up hosts g log ≡ true → AreKnown k kept.book.lives → (mail.is_up hosts h log ≡ false → AreKnown [] kept.book.lives)
      → AreKnown (if same_host h g then all_known origin p own foreign ns k else k) (all_told g ns kept).book.lives × (mail.is_up hosts h log ≡ false → AreKnown [] (all_told g ns kept).book.lives)
  acts hosts g ns k kept log up known idle = (all_told_by g (same_host h g) refl ns k kept known, λ down. off down (same_host h g) refl) where
    off : mail.is_up hosts h log ≡ false → (b : Bool) → same_host h g ≡ b → AreKnown [] (all_told g ns kept).book.lives
    off down true e = absurd (unlike (mail.is_up hosts h log) (subst (λ (y : Host). mail.is_up hosts y log ≡ true) (sym (same_host-true h g e)) up) down)
    off down false e = all_told_by g false e ns [] kept (idle down)

  module _ (hosts : Network) (plain : hosts.strange h ≡ false) where
    -- what a stranger does is nothing to this host
    away : (g : Host) → hosts.strange g ≡ true → (b : Bool) → same_host h g ≡ b → b ≡ false
    away g on true e = absurd (unlike (hosts.strange g) on (subst (λ (y : Host). hosts.strange y ≡ false) (same_host-true h g e) plain))
    away g on false e = refl

    acts_among : (g : Host) (ns : List Notice) (k : List Life) (kept only : Kept) (log : List Crossing) → (hosts.strange g ≡ false → mail.is_up hosts.all g log ≡ true) → AreKnown k kept.book.lives → (mail.is_up hosts.all h log ≡ false → AreKnown [] kept.book.lives)
        → AreKnown k only.book.lives → (mail.is_up hosts.all h log ≡ false → AreKnown [] only.book.lives)
        → AreKnown (if same_host h g then all_known origin p own foreign ns k else k) (if hosts.strange g then only else all_told g ns kept).book.lives
        × (mail.is_up hosts.all h log ≡ false → AreKnown [] (if hosts.strange g then only else all_told g ns kept).book.lives)
    acts_among g ns k kept only log up known idle old was = by (hosts.strange g) refl where
      by : (b : Bool) → hosts.strange g ≡ b → AreKnown (if same_host h g then all_known origin p own foreign ns k else k) (if b then only else all_told g ns kept).book.lives
          × (mail.is_up hosts.all h log ≡ false → AreKnown [] (if b then only else all_told g ns kept).book.lives)
      by true on = (subst (λ (c : Bool). AreKnown (if c then all_known origin p own foreign ns k else k) only.book.lives) (sym (away g on (same_host h g) refl)) old, was)
      by false off = acts hosts.all g ns k kept log (up off) known idle

    -- at a stop and a start the same is kept of all
    outage_kept : (c : Crossing) (moments : List Moment) → notices_by (Crossed c) moments ≡ [] → (mixed_kept hosts.strange (Crossed c ∷ moments)).book.lives ≡ (crossed c (mixed_kept hosts.strange moments)).book.lives
    outage_kept c moments none = by (hosts.strange (host_in (Crossed c))) where
      by : (b : Bool) → (if b then crossed c (mixed_kept hosts.strange moments) else all_told (host_in (Crossed c)) (notices_by (Crossed c) moments) (crossed c (mixed_kept hosts.strange moments))).book.lives ≡ (crossed c (mixed_kept hosts.strange moments)).book.lives
      by true = refl
      by false = ap (λ (ns : List Notice). (all_told (host_in (Crossed c)) ns (crossed c (mixed_kept hosts.strange moments))).book.lives) none

    down_follows : (g : Host) (moments : List Moment) → Follows hosts moments
        → Follows hosts (Crossed (crossing.Down g) ∷ moments)
    down_follows g moments old = record {
      are = subst (λ (lives : List book.Life). AreKnown (if same_host h g then [] else known moments) lives) (sym (outage_kept (crossing.Down g) moments refl)) (down_by g (known moments) (mixed_kept hosts.strange moments).book.lives old.are (same_host h g) refl);
      idle = λ down. subst (λ (lives : List book.Life). AreKnown [] lives) (sym (outage_kept (crossing.Down g) moments refl)) (off (same_host h g) refl down);
    } where
      off : (c : Bool) → same_host h g ≡ c → (if c then false else mail.is_up hosts.all h (crossings_of moments)) ≡ false → AreKnown [] (where_it (lives_on g) life_ended (mixed_kept hosts.strange moments).book.lives)
      off true f down = down_by g (known moments) (mixed_kept hosts.strange moments).book.lives old.are true f
      off false f down = down_by g [] (mixed_kept hosts.strange moments).book.lives (old.idle down) false f

    -- a host that starts was down
    up_follows : (g : Host) (moments : List Moment) → mail.is_up hosts.all g (crossings_of moments) ≡ false
        → Follows hosts moments → Follows hosts (Crossed (crossing.Up g) ∷ moments)
    up_follows g moments was old = record {
      are = subst (λ (lives : List book.Life). AreKnown (if same_host h g then [] else known moments) lives) (sym (outage_kept (crossing.Up g) moments refl)) (on (same_host h g) refl);
      idle = λ down. subst (λ (lives : List book.Life). AreKnown [] lives) (sym (outage_kept (crossing.Up g) moments refl)) (off (same_host h g) refl down);
    } where
      on : (b : Bool) → same_host h g ≡ b
          → AreKnown (if b then [] else known moments) (mixed_kept hosts.strange moments).book.lives
      on true e = old.idle (subst (λ (y : Host). mail.is_up hosts.all y (crossings_of moments) ≡ false) (sym (same_host-true h g e)) was)
      on false e = old.are

      off : (b : Bool) → same_host h g ≡ b → (if b then true else mail.is_up hosts.all h (crossings_of moments)) ≡ false
          → AreKnown [] (mixed_kept hosts.strange moments).book.lives
      off true e down = absurd (let r : true ≡ false = down in cc)
      off false e down = old.idle down

    -- a message or an answer crosses
    crossed_follows : (c : Crossing) (ns : List Notice) (moments : List Moment) → mail.is_up hosts.all (host_in (Crossed c)) (crossings_of moments) ≡ true → (crossed c (mixed_kept hosts.strange moments)).book.lives ≡ (mixed_kept hosts.strange moments).book.lives → Follows hosts moments
        → AreKnown (if same_host h (host_in (Crossed c)) then all_known origin p own foreign ns (known moments) else known moments) (if hosts.strange (host_in (Crossed c)) then crossed c (mixed_kept hosts.strange moments) else all_told (host_in (Crossed c)) ns (crossed c (mixed_kept hosts.strange moments))).book.lives
        × (mail.is_up hosts.all h (crossings_of moments) ≡ false → AreKnown [] (if hosts.strange (host_in (Crossed c)) then crossed c (mixed_kept hosts.strange moments) else all_told (host_in (Crossed c)) ns (crossed c (mixed_kept hosts.strange moments))).book.lives)
    crossed_follows c ns moments up same old =
        let are : AreKnown (known moments) (crossed c (mixed_kept hosts.strange moments)).book.lives = subst (λ (lives : List book.Life). AreKnown (known moments) lives) (sym same) old.are in
        let idle : mail.is_up hosts.all h (crossings_of moments) ≡ false → AreKnown [] (crossed c (mixed_kept hosts.strange moments)).book.lives =
        λ down. subst (λ (lives : List book.Life). AreKnown [] lives) (sym same) (old.idle down) in
        acts_among (host_in (Crossed c)) ns (known moments) (crossed c (mixed_kept hosts.strange moments)) (crossed c (mixed_kept hosts.strange moments)) (crossings_of moments) (λ off. up) are idle are idle

    pub follows : (moments : List Moment) → mail.IsRun hosts.all (crossings_of moments) → Happened hosts moments
        → Follows hosts moments
    follows [] run time = record { are = tt; idle = λ down. tt }
    follows (Crossed (crossing.Out m) ∷ moments) run time =
        let r = crossed_follows (crossing.Out m) (notices_by (Crossed (crossing.Out m)) moments) moments run.0.0 refl (follows moments run.1 time.1) in
        record { are = r.0; idle = r.1 }
    follows (Crossed (crossing.In m) ∷ moments) run time =
        let r = crossed_follows (crossing.In m) (notices_by (Crossed (crossing.In m)) moments) moments run.0.0 refl (follows moments run.1 time.1) in
        record { are = r.0; idle = r.1 }
    follows (Crossed (crossing.Answer kind f) ∷ moments) run time =
        let r = crossed_follows (crossing.Answer kind f) (notices_by (Crossed (crossing.Answer kind f)) moments) moments run.0.0 refl (follows moments run.1 time.1) in
        record { are = r.0; idle = r.1 }
    follows (Crossed (crossing.Down g) ∷ moments) run time = down_follows g moments (follows moments run.1 time.1)
    follows (Crossed (crossing.Up g) ∷ moments) run time = up_follows g moments run.0.1 (follows moments run.1 time.1)
    follows (Asked g r ∷ moments) run time =
        let old : Follows hosts moments = follows moments run time.1 in
        let next = acts_among g (notices_by (Asked g r) moments) (known moments) (kept_by (Asked g r) (mixed_kept hosts.strange moments)) (mixed_kept hosts.strange moments) (crossings_of moments) (λ off. (time.0 off).0)
        (asked_known g r (known moments) (mixed_kept hosts.strange moments).book.lives old.are) (λ down. asked_known g r [] (mixed_kept hosts.strange moments).book.lives (old.idle down)) old.are old.idle in
        record { are = next.0; idle = next.1 }

  -- ---- one of the lives

  at_place : (x : book.Life) (n : ℕ) (k : List Life) (xs : List book.Life) → n < length xs → get_or xs n x ≡ x → goes x ≡ true → AreKnown k xs → IsIn (life_of origin x) k
  at_place x n k [] lt e g known = absurd (omega (arith, lt))
  at_place x zero k (y ∷ xs) lt e g known = subst (λ (z : book.Life). goes z ≡ true → IsIn (life_of origin z) k) e known.0 g
  at_place x (suc n) k (y ∷ xs) lt e g known = at_place x n k xs (omega (arith, lt)) e g known.1

  pub life_known : (hosts : Network) (moments : List Moment) → mail.IsRun hosts.all (crossings_of moments) → Happened hosts moments → hosts.strange h ≡ false → (x : book.Life) → Contains (mixed_kept hosts.strange moments).book.lives x → is_between h p own foreign x ≡ true → x.ended ≡ false
      → IsIn (life_of origin x) (known_in origin h p own foreign moments)
  life_known hosts moments run time plain x there between on =
      at_place x there.0 (known_in origin h p own foreign moments) (mixed_kept hosts.strange moments).book.lives there.1 there.2 (rw (between, on) refl) (follows hosts plain moments run time).are
