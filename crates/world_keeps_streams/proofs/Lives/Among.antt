-- Lives between hosts with programs: they are the same in the book of a network, where strangers report nothing, and in what is kept where
-- each program reports. So what the law of pairing has of the one holds of the other.
use Rattle.world_keeps_streams.proofs.Common.{Contains, Host, same_host, same_host-true, Notice, Asked, Crossed, Moment, events_of, IsStory, crossings_of, IsIn, life_of, openings, ArePaired, AreOurs, Network, IsBeside, filter-append, origin_or}
use Rattle.std.proofs.Common.{◌≡◌, inl, inr, ℕ, ◌&&◌, not, Bool, true, false, if◌then◌else◌, List, [], ◌∷◌, ◌++◌, Some, refl, ap, sym, subst, ◌∙◌, IsSome, append-nil}
use Rattle.net_sim.specs.Book.{Kept, all_told, carried, changed_when, life_ended, lives_at, lives_between, lives_on, lives_told, lives_with, new_life, where_it, granted, returned}
use Rattle.net_sim.specs.Told.{host_in, kept_by, notices_by, kept_in}
use Rattle.promise.specs.Safe.{Match, SafePartners, own_request, partner_request, AreTwo, receives}
use Rattle.interface.specs.Mailboxes as mail
use Rattle.interface.specs.declared.crossing.Crossing.TheVariants as crossing
use Rattle.host_pairs.specs.declared.notice.Notice.TheVariants as notice
use Rattle.sockets.specs.declared.request.Request.TheVariants as request
use Rattle.reset_law.specs.Runs.{IsRun}
use Rattle.promise.specs.declared.life.Life.{Life}
use Rattle.net_sim.specs.Among.{beside_among, is_among, lives_among}
use Rattle.net_sim.specs.Mixed.{crossed_only, mixed_kept}
use Rattle.world_keeps_lives.proofs.lemmas.Among.{Leaves, among_where}
use Rattle.world_keeps_pairing.proofs.lemmas as pairing
use Rattle.world_keeps_pairing.proofs.lemmas.{AreServed, in_book, two_in_book}
use Rattle.world_keeps_streams.proofs.Deeds.Effects.{all_lives}
use Rattle.world_keeps_streams.proofs.Carried.Owned.{told_lives}
use Rattle.world_keeps_streams.proofs.Facts.{clash}
use Rattle.world_keeps_streams.proofs.Lives.Lists.{IsOf, contains, is_of}

module _ (strange : Host → Bool) where
  abbrev AreAlike : List Life → List Life → Type 0
  AreAlike lives others = lives_among strange lives ≡ lives_among strange others

  both_where : (test : Life → Bool) (change : Life → Life) (lives others : List Life) → Leaves change
      → AreAlike lives others → AreAlike (where_it test change lives) (where_it test change others)
  both_where test change lives others leaves same = among_where strange test change lives leaves ∙ ap (where_it test change) same ∙ sym (among_where strange test change others leaves)

  both_told : (h : Host) (n : Notice) (lives others : List Life) → AreAlike lives others
      → AreAlike (lives_told h n lives) (lives_told h n others)
  both_told h (notice.Opened socket peer foreign own partner) lives others same =
      let x : List Life = new_life h socket peer foreign own partner ∷ [] in
      filter-append (is_among strange) lives x ∙ ap (λ (ls : List Life). ls ++ lives_among strange (new_life h socket peer foreign own partner ∷ [])) same ∙ sym (filter-append (is_among strange) others x)
  both_told h (notice.Ended socket peer foreign) lives others same = both_where (lives_between h socket peer foreign) life_ended lives others (λ x. (refl, refl)) same
  both_told h (notice.PairReset peer) lives others same = both_where (lives_with h peer) life_ended lives others (λ x. (refl, refl)) same
  both_told h (notice.Sent socket bits) lives others same = both_where (lives_at h socket) (carried bits) lives others (λ x. (refl, refl)) same
  both_told h (notice.Arrived socket bits) lives others same = both_where (lives_at h socket) (carried bits) lives others (λ x. (refl, refl)) same
  both_told h (notice.Returned socket messages bits) lives others same = both_where (lives_at h socket) (returned messages bits) lives others (λ x. (refl, refl)) same
  both_told h n lives others same = same

  both_all : (h : Host) (ns : List Notice) (lives others : List Life) → AreAlike lives others
      → AreAlike (all_lives h ns lives) (all_lives h ns others)
  both_all h [] lives others same = same
  both_all h (n ∷ ns) lives others same = both_all h ns (lives_told h n lives) (lives_told h n others) (both_told h n lives others same)

  both_by : (x : Moment) (k m : Kept) → AreAlike k.book.lives m.book.lives
      → AreAlike (kept_by x k).book.lives (kept_by x m).book.lives
  both_by (Crossed (crossing.Down h)) k m same = both_where _ life_ended k.book.lives m.book.lives (λ x. (refl, refl)) same
  both_by (Crossed c) k m same = same
  both_by (Asked h (request.Grant socket messages bits)) k m same = both_where _ _ k.book.lives m.book.lives (λ x. (refl, refl)) same
  both_by (Asked h r) k m same = same

  -- ---- what a stranger's host does changes none of them

  module _ (h : Host) (on : strange h ≡ true) where
    off : (x : Life) → is_among strange x ≡ true → same_host h x.host ≡ false
    off x is = by (same_host h x.host) refl where
      by : (b : Bool) → same_host h x.host ≡ b → b ≡ false
      by true e =
          let own : strange x.host ≡ true = subst (λ (g : Host). strange g ≡ true) (same_host-true h x.host e) on in
          clash (is_among strange x) is (ap (λ (b : Bool). not b && not (strange x.peer)) own)
      by false e = refl

    aside_where : (test : Life → Bool) (change : Life → Life) (lives : List Life) → Leaves change
        → ((x : Life) → is_among strange x ≡ true → test x ≡ false) → AreAlike (where_it test change lives) lives
    aside_where test change lives leaves never = among_where strange test change lives leaves ∙ by lives where
      by : (ls : List Life) → where_it test change (lives_among strange ls) ≡ lives_among strange ls
      by [] = refl
      by (x ∷ ls) = at (is_among strange x) refl (by ls) where
        at : (b : Bool) → is_among strange x ≡ b
            → where_it test change (lives_among strange ls) ≡ lives_among strange ls
            → where_it test change (lives_among strange (x ∷ ls)) ≡ lives_among strange (x ∷ ls)
        at true is rest = rw is (ap (λ (b : Bool). changed_when b change x ∷ where_it test change (lives_among strange ls)) (never x is) ∙ ap (λ (ys : List Life). x ∷ ys) rest)
        at false is rest = rw is rest

    aside_told : (n : Notice) (lives : List Life) → AreAlike (lives_told h n lives) lives
    aside_told (notice.Opened socket peer foreign own partner) lives =
        filter-append (is_among strange) lives (new_life h socket peer foreign own partner ∷ [])
        ∙ ap (λ (b : Bool). lives_among strange lives ++ (if not b && not (strange peer) then new_life h socket peer foreign own partner ∷ [] else [])) on ∙ append-nil (lives_among strange lives)
    aside_told (notice.Ended socket peer foreign) lives = aside_where _ life_ended lives (λ x. (refl, refl)) (λ x is. rw (off x is) refl)
    aside_told (notice.PairReset peer) lives = aside_where _ life_ended lives (λ x. (refl, refl)) (λ x is. rw (off x is) refl)
    aside_told (notice.Sent socket bits) lives = aside_where _ _ lives (λ x. (refl, refl)) (λ x is. rw (off x is) refl)
    aside_told (notice.Arrived socket bits) lives = aside_where _ _ lives (λ x. (refl, refl)) (λ x is. rw (off x is) refl)
    aside_told (notice.Returned socket messages bits) lives = aside_where _ _ lives (λ x. (refl, refl)) (λ x is. rw (off x is) refl)
    aside_told n lives = refl

    aside_all : (ns : List Notice) (lives : List Life) → AreAlike (all_lives h ns lives) lives
    aside_all [] lives = refl
    aside_all (n ∷ ns) lives = aside_all ns (lives_told h n lives) ∙ aside_told n lives

  aside_by : (x : Moment) (k : Kept) → strange (host_in x) ≡ true → AreAlike (kept_by x k).book.lives k.book.lives
  aside_by (Crossed (crossing.Down h)) k on = aside_where h on _ life_ended k.book.lives (λ x. (refl, refl)) (λ x is. rw (off h on x is) refl)
  aside_by (Crossed c) k on = refl
  aside_by (Asked h (request.Grant socket messages bits)) k on = aside_where h on _ _ k.book.lives (λ x. (refl, refl)) (λ x is. rw (off h on x is) refl)
  aside_by (Asked h r) k on = refl

  only_aside : (x : Moment) (k : Kept) → strange (host_in x) ≡ true
      → AreAlike (crossed_only x k).book.lives k.book.lives
  only_aside (Crossed c) k on = aside_by (Crossed c) k on
  only_aside (Asked h r) k on = refl

  -- ---- all moments

  pub among_same : (ms : List Moment)
      → lives_among strange (kept_in ms).book.lives ≡ lives_among strange (mixed_kept strange ms).book.lives
  among_same [] = refl
  among_same (x ∷ ms) = by (strange (host_in x)) refl (among_same ms) where
    told : (k : Kept)
        → AreAlike (all_told (host_in x) (notices_by x ms) (kept_by x k)).book.lives (all_lives (host_in x) (notices_by x ms) (kept_by x k).book.lives)
    told k = ap (lives_among strange) (told_lives (host_in x) (notices_by x ms) (kept_by x k))

    by : (b : Bool) → strange (host_in x) ≡ b → AreAlike (kept_in ms).book.lives (mixed_kept strange ms).book.lives
        → AreAlike (kept_in (x ∷ ms)).book.lives (if b then crossed_only x (mixed_kept strange ms) else all_told (host_in x) (notices_by x ms) (kept_by x (mixed_kept strange ms))).book.lives
    by true on same =
        told (kept_in ms) ∙ aside_all (host_in x) on (notices_by x ms) (kept_by x (kept_in ms)).book.lives ∙ aside_by x (kept_in ms) on ∙ same ∙ sym (only_aside x (mixed_kept strange ms) on)
    by false plain same =
        told (kept_in ms) ∙ both_all (host_in x) (notices_by x ms) (kept_by x (kept_in ms)).book.lives (kept_by x (mixed_kept strange ms)).book.lives (both_by x (kept_in ms) (mixed_kept strange ms) same)
        ∙ sym (told (mixed_kept strange ms))

  of_among : (x : Life) (lives : List Life) → is_among strange x ≡ true → IsOf x lives
      → IsOf x (lives_among strange lives)
  of_among x [] is i = absurd i
  of_among x (y ∷ lives) is (inl e) = subst (λ (z : Life). IsOf x (lives_among strange (z ∷ lives))) e (rw is (inl refl))
  of_among x (y ∷ lives) is (inr i) = by (is_among strange y) (of_among x lives is i) where
    by : (b : Bool) → IsOf x (lives_among strange lives)
        → IsOf x (if b then y ∷ lives_among strange lives else lives_among strange lives)
    by true j = inr j
    by false j = j

module _ (hosts : Network) where
  pub ours_if : (x : Life) → is_among hosts.strange x ≡ true → AreOurs hosts x.host x.peer
  ours_if x is = by (hosts.strange x.host) (hosts.strange x.peer) refl refl is where
    by : (b c : Bool) → hosts.strange x.host ≡ b → hosts.strange x.peer ≡ c → (not b && not c) ≡ true
        → AreOurs hosts x.host x.peer
    by true c e f both = absurd (cc)
    by false true e f both = absurd (cc)
    by false false e f both = (e, f)

  pub among_ours : (x : Life) → AreOurs hosts x.host x.peer → is_among hosts.strange x ≡ true
  among_ours x ours = rw (ours.0, ours.1) refl

  pub among_there : (x : Life) (lives : List Life) → AreOurs hosts x.host x.peer → Contains lives x
      → Contains (lives_among hosts.strange lives) x
  among_there x lives ours there = contains x _ (of_among hosts.strange x lives (among_ours x ours) (is_of x lives there))

  -- two of them are two among these
  pub two_among : (x y : Life) (lives : List Life) → AreOurs hosts x.host x.peer → AreOurs hosts y.host y.peer
      → AreTwo lives x y → AreTwo (lives_among hosts.strange lives) x y
  two_among x y lives ours theirs two = (
    lives_among hosts.strange two.0,
    lives_among hosts.strange two.1,
    lives_among hosts.strange two.2,
    ap (lives_among hosts.strange) two.3 ∙ parted y (two.0 ++ x ∷ two.1) two.2 (among_ours y theirs) ∙ ap (λ (ls : List Life). ls ++ y ∷ lives_among hosts.strange two.2) (parted x two.0 two.1 (among_ours x ours)),
  ) where
    parted : (z : Life) (front rest : List Life) → is_among hosts.strange z ≡ true
        → lives_among hosts.strange (front ++ z ∷ rest) ≡ lives_among hosts.strange front ++ z ∷ lives_among hosts.strange rest
    parted z front rest is =
        filter-append (is_among hosts.strange) front (z ∷ rest) ∙ ap (λ (b : Bool). lives_among hosts.strange front ++ (if b then z ∷ lives_among hosts.strange rest else lives_among hosts.strange rest)) is

  -- one of them is in the network's book, and back
  pub among_now : (ms : List Moment) (x : Life) → AreOurs hosts x.host x.peer → Contains (kept_in ms).book.lives x
      → Contains (lives_among hosts.strange (mixed_kept hosts.strange ms).book.lives) x
  among_now ms x ours there = subst (λ (ls : List Life). Contains ls x) (among_same hosts.strange ms) (among_there x _ ours there)

  pub kept_there : (ms : List Moment) (x : Life) → AreOurs hosts x.host x.peer → Contains (kept_in ms).book.lives x
      → Contains (mixed_kept hosts.strange ms).book.lives x
  kept_there ms x ours there = (in_book hosts _ x (among_now ms x ours there)).0

  pub now_kept : (ms : List Moment) (x : Life)
      → Contains (lives_among hosts.strange (mixed_kept hosts.strange ms).book.lives) x
      → Contains (kept_in ms).book.lives x × AreOurs hosts x.host x.peer
  now_kept ms x there = in_book hosts _ x (subst (λ (ls : List Life). Contains ls x) (sym (among_same hosts.strange ms)) there)

-- ---- what is beside them

-- what is beside one of them is beside it among all
module _ {A : Type 0} (hosts : Network) (x : Life) (a : A) where
  pub in_beside : (lives : List Life) (others : List A)
      → IsBeside x a (lives_among hosts.strange lives) (beside_among hosts.strange lives others)
      → IsBeside x a lives others × AreOurs hosts x.host x.peer
  in_beside [] others i = absurd i
  in_beside (y ∷ lives) [] i = absurd (nothing _ i) where
    nothing : (ls : List Life) → IsBeside x a ls [] → ⊥
    nothing [] j = j
    nothing (z ∷ ls) j = j
  in_beside (y ∷ lives) (b ∷ others) i = by (is_among hosts.strange y) refl i (in_beside lives others) where
    by : (v : Bool) → is_among hosts.strange y ≡ v
        → IsBeside x a (if v then y ∷ lives_among hosts.strange lives else lives_among hosts.strange lives) (if v then b ∷ beside_among hosts.strange lives others else beside_among hosts.strange lives others)
        → (IsBeside x a (lives_among hosts.strange lives) (beside_among hosts.strange lives others) → IsBeside x a lives others × AreOurs hosts x.host x.peer)
        → IsBeside x a (y ∷ lives) (b ∷ others) × AreOurs hosts x.host x.peer
    by true is (inl e) rest = (inl e, subst (λ (z : Life). AreOurs hosts z.host z.peer) (sym e.0) (ours_if hosts y is))
    by true is (inr j) rest = let r : IsBeside x a lives others × AreOurs hosts x.host x.peer = rest j in (inr r.0, r.1)
    by false is j rest = let r : IsBeside x a lives others × AreOurs hosts x.host x.peer = rest j in (inr r.0, r.1)

-- ---- what the law of pairing has of them

module _ (hosts : Network) (moments : List Moment) (story : IsStory hosts moments)
    (run : IsRun hosts (events_of moments)) (mails : mail.IsRun hosts.all (crossings_of moments))
    (served : AreServed hosts moments) where
  pub life_in : (none : ℕ) (x : Life) → AreOurs hosts x.host x.peer → Contains (kept_in moments).book.lives x
      → IsIn (life_of (origin_or none (crossings_of moments) x.host x.peer) x) (openings x.host x.peer x.socket x.foreign moments)
  life_in none x ours there = pairing.life_in hosts moments story run mails served none x ours (kept_there hosts moments x ours there)

  pub life_paired : (x : Life) → AreOurs hosts x.host x.peer → Contains (kept_in moments).book.lives x → ArePaired x
  life_paired x ours there = pairing.life_paired hosts moments story run mails served x ours (kept_there hosts moments x ours there)

  pub partner_named : (x : Life) → AreOurs hosts x.host x.peer → Contains (kept_in moments).book.lives x
      → IsSome (partner_request (crossings_of moments) x)
  partner_named x ours there = pairing.partner_named hosts moments story run mails served x ours (kept_there hosts moments x ours there)

  pub life_matches : (x y : Life) → AreOurs hosts x.host x.peer → AreOurs hosts y.host y.peer
      → Contains (kept_in moments).book.lives x → Contains (kept_in moments).book.lives y → receives x ≡ true
      → partner_request (crossings_of moments) x ≡ Some (own_request y) → Match (crossings_of moments) x y
  life_matches x y ours theirs here there = pairing.life_matches hosts moments story run mails served x y ours theirs (kept_there hosts moments x ours here) (kept_there hosts moments y theirs there)

  pub safe_partners : SafePartners (crossings_of moments) (lives_among hosts.strange (kept_in moments).book.lives)
  safe_partners =
      pairing.safe_partners hosts moments story run mails served (lives_among hosts.strange _)
      (λ x there. in_book hosts (mixed_kept hosts.strange moments).book.lives x (subst (λ (ls : List Life). Contains ls x) (among_same hosts.strange moments) there))
      (λ x y two. two_in_book hosts (mixed_kept hosts.strange moments).book.lives x y (subst (λ (ls : List Life). AreTwo ls x y) (among_same hosts.strange moments) two))
