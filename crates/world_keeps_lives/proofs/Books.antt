-- What notices of a host, and what its user asks for, do to the lives of one of its sockets.
use Rattle.world_keeps_lives.proofs.Common.{eqb-true, Host, same_host, same_host-refl, same_host-true, Notice, both, not_is, Life, EachIn, EachOn, IsSafe, at_socket}
use Rattle.std.proofs.Common.{◌≡◌, ℕ, ◌==◌, ◌&&◌, Bool, true, not, if◌then◌else◌, List, [], ◌∷◌, ◌++◌, refl, sym, subst, ◌∙◌, false}
use Rattle.net_sim.specs.Book.{Kept, all_told, carried, changed_when, life_ended, handed_to, handed_told, lives_at, lives_between, lives_told, lives_with, new_life, book_told, where_it, returned}
use Rattle.host_pairs.specs.declared.notice.Notice.TheVariants as notice

pub not_both : (P : Type 0) (b : Bool) → b ≡ true → b ≡ false → P
not_both P b e f = absurd (let r : true ≡ false = sym e ∙ f in cc)

-- what is asked of each life
abbrev pub One : (Life → List Bool → Type 0) → Life → List Bool → Type 0
One P x t = IsSafe x t × (x.ended ≡ false → P x t)

pub all_told_append : (h : Host) (ns ms : List Notice) (k : Kept) → all_told h (ns ++ ms) k ≡ all_told h ms (all_told h ns k)
all_told_append h [] ms k = refl
all_told_append h (n ∷ ns) ms k = all_told_append h ns ms (book_told h n k)

module _ (a : Host) (k : ℕ) where
  -- ---- lists

  each_where : (test : Life → Bool) (f : Life → Life) (P Q : Life → List Bool → Type 0) (lives : List Life) (handed : List (List Bool))
      → ((x : Life) → at_socket a k (f x) ≡ at_socket a k x)
      → ((x : Life) (t : List Bool) → at_socket a k x ≡ true → test x ≡ true → One P x t → One Q (f x) t)
      → ((x : Life) (t : List Bool) → at_socket a k x ≡ true → test x ≡ false → One P x t → One Q x t)
      → EachOn a k P lives handed → EachOn a k Q (where_it test f lives) handed
  each_where test f P Q [] [] keeps hit miss e = tt
  each_where test f P Q [] (t ∷ handed) keeps hit miss e = e
  each_where test f P Q (x ∷ lives) [] keeps hit miss e = e
  each_where test f P Q (x ∷ lives) (t ∷ handed) keeps hit miss e = (by (test x) refl, each_where test f P Q lives handed keeps hit miss e.1) where
    by : (b : Bool) → test x ≡ b → at_socket a k (changed_when b f x) ≡ true → One Q (changed_when b f x) t
    by true is there = hit x t (sym (keeps x) ∙ there) is (e.0 (sym (keeps x) ∙ there))
    by false is there = miss x t there is (e.0 there)

  pub each_weaker : (P Q : Life → List Bool → Type 0) (lives : List Life) (handed : List (List Bool)) → ((x : Life) (t : List Bool) → at_socket a k x ≡ true → P x t → Q x t) → EachOn a k P lives handed → EachOn a k Q lives handed
  each_weaker P Q [] [] w e = tt
  each_weaker P Q [] (t ∷ handed) w e = e
  each_weaker P Q (x ∷ lives) [] w e = e
  each_weaker P Q (x ∷ lives) (t ∷ handed) w e = (λ there. ((e.0 there).0, λ goes. w x t there ((e.0 there).1 goes)), each_weaker P Q lives handed w e.1)

  -- a change of lives that are all elsewhere
  pub each_apart : (test : Life → Bool) (f : Life → Life) (P : Life → List Bool → Type 0) (lives : List Life) (handed : List (List Bool)) → ((x : Life) → at_socket a k (f x) ≡ at_socket a k x)
      → ((x : Life) → at_socket a k x ≡ true → test x ≡ true → ⊥) → EachOn a k P lives handed → EachOn a k P (where_it test f lives) handed
  each_apart test f P lives handed keeps apart e = each_where test f P P lives handed keeps (λ x t there is o. absurd (apart x there is)) (λ x t there is o. o) e

  -- lives that end
  end_one : (x : Life) (t : List Bool) → IsSafe x t → IsSafe (life_ended x) t
  end_one x t s = record {
    front = s.front;
    within = λ r. record { messages = (s.within r).messages; bits = (s.within r).bits };
    bounded = λ r. record { messages = (s.bounded r).messages; bits = (s.bounded r).bits };
  }

  pub each_ending : (test : Life → Bool) (P : Life → List Bool → Type 0) (lives : List Life) (handed : List (List Bool)) → EachOn a k P lives handed → EachOn a k P (where_it test life_ended lives) handed
  each_ending test P lives handed e =
      each_where test life_ended P P lives handed (λ x. refl) (λ x t there is o. (end_one x t o.0, λ goes. absurd (let r : true ≡ false = goes in cc))) (λ x t there is o. o) e

  pub each_ended : (test : Life → Bool) (P Q : Life → List Bool → Type 0) (lives : List Life) (handed : List (List Bool)) → ((x : Life) (t : List Bool) → at_socket a k x ≡ true → x.ended ≡ false → P x t → test x ≡ true)
      → EachOn a k P lives handed → EachOn a k Q (where_it test life_ended lives) handed
  each_ended test P Q lives handed all e =
      each_where test life_ended P Q lives handed (λ x. refl) (λ x t there is o. (end_one x t o.0, λ goes. absurd (let r : true ≡ false = goes in cc)))
      (λ x t there is o. (o.0, λ goes. not_both (Q x t) (test x) (all x t there goes (o.1 goes)) is)) e

  -- a change of those that continue
  pub there_at : (x : Life) → at_socket a k x ≡ true → lives_at a k x ≡ false → x.ended ≡ true
  there_at x there off = by x.ended refl where
    by : (b : Bool) → x.ended ≡ b → x.ended ≡ true
    by true e = e
    by false e = let r : true ≡ false = sym (let s : lives_at a k x ≡ true = rw (there, e) refl in s) ∙ off in absurd (cc)

  goes_at : (x : Life) → lives_at a k x ≡ true → x.ended ≡ false
  goes_at x on = not_is x.ended (both (at_socket a k x) (not x.ended) on).1

  pub each_here : (f : Life → Life) (P Q : Life → List Bool → Type 0) (lives : List Life) (handed : List (List Bool)) → ((x : Life) → at_socket a k (f x) ≡ at_socket a k x)
      → ((x : Life) (t : List Bool) → at_socket a k x ≡ true → IsSafe x t → P x t → IsSafe (f x) t × Q (f x) t) → EachOn a k P lives handed → EachOn a k Q (where_it (lives_at a k) f lives) handed
  each_here f P Q lives handed keeps work e =
      each_where _ f P Q lives handed keeps
      (λ x t there is o. let r : IsSafe (f x) t × Q (f x) t = work x t there o.0 (o.1 (goes_at x is)) in (r.0, λ goes. r.1))
      (λ x t there is o. (o.0, λ goes. not_both (Q x t) x.ended (there_at x there is) goes)) e

  -- a life more
  pub each_more : (P : Life → List Bool → Type 0) (lives : List Life) (handed : List (List Bool)) (y : Life) → (at_socket a k y ≡ true → One P y []) → EachOn a k P lives handed → EachOn a k P (lives ++ y ∷ []) (handed ++ [] ∷ [])
  each_more P [] [] y new e = (new, tt)
  each_more P [] (t ∷ handed) y new e = absurd e
  each_more P (x ∷ lives) [] y new e = absurd e
  each_more P (x ∷ lives) (t ∷ handed) y new e = (e.0, each_more P lives handed y new e.1)

  -- what is handed over
  pub each_handed : (test : Life → Bool) (bits : List Bool) (P Q : Life → List Bool → Type 0) (lives : List Life) (handed : List (List Bool))
      → ((x : Life) (t : List Bool) → at_socket a k x ≡ true → test x ≡ true → One P x t → One Q x (t ++ bits))
      → ((x : Life) (t : List Bool) → at_socket a k x ≡ true → test x ≡ false → One P x t → One Q x t)
      → EachOn a k P lives handed → EachOn a k Q lives (handed_to test bits lives handed)
  each_handed test bits P Q [] [] hit miss e = tt
  each_handed test bits P Q [] (t ∷ handed) hit miss e = e
  each_handed test bits P Q (x ∷ lives) [] hit miss e = e
  each_handed test bits P Q (x ∷ lives) (t ∷ handed) hit miss e = (by (test x) refl, each_handed test bits P Q lives handed hit miss e.1) where
    by : (b : Bool) → test x ≡ b → at_socket a k x ≡ true → One Q x (if b then t ++ bits else t)
    by true is there = hit x t there is (e.0 there)
    by false is there = miss x t there is (e.0 there)

  -- ---- notices of this host

  -- one that is about another socket, or ends lives
  abbrev pub IsAside : Notice → Type 0
  IsAside (notice.Opened socket peer foreign own partner) = (socket == k) ≡ false
  IsAside (notice.Sent socket bits) = (socket == k) ≡ false
  IsAside (notice.Arrived socket bits) = (socket == k) ≡ false
  IsAside (notice.Returned socket messages bits) = (socket == k) ≡ false
  IsAside n = Unit {0}

  -- a life of one socket isn't one of another
  pub other_socket : (h : Host) (socket : ℕ) (x : Life) → (socket == k) ≡ false → at_socket a k x ≡ true → lives_at h socket x ≡ true → ⊥
  other_socket h socket x off there is =
      let s : (x.socket == socket) ≡ true = (both (same_host h x.host) (x.socket == socket) (both (same_host h x.host && x.socket == socket) (not x.ended) is).0).1 in
      let u : (x.socket == k) ≡ true = (both (same_host a x.host) (x.socket == k) there).1 in
      let v : x.socket ≡ socket = eqb-true x.socket socket s in
      not_both ⊥ _ u (subst (λ (n : ℕ). (n == k) ≡ false) (sym v) off)

  pub each_aside : (P : Life → List Bool → Type 0) (n : Notice) (lives : List Life) (handed : List (List Bool)) → IsAside n → EachOn a k P lives handed → EachOn a k P (lives_told a n lives) (handed_told n handed)
  each_aside P (notice.Opened socket peer foreign own partner) lives handed off e =
      each_more P lives handed _
      (λ there. not_both (One P (new_life a socket peer foreign own partner) []) (socket == k) (both (same_host a a) (socket == k) there).1 off) e
  each_aside P (notice.Ended socket peer foreign) lives handed off e = each_ending _ P lives handed e
  each_aside P (notice.PairReset peer) lives handed off e = each_ending _ P lives handed e
  each_aside P (notice.Sent socket bits) lives handed off e = each_apart _ _ P lives handed (λ x. refl) (λ x. other_socket a socket x off) e
  each_aside P (notice.Arrived socket bits) lives handed off e = each_apart _ _ P lives handed (λ x. refl) (λ x. other_socket a socket x off) e
  each_aside P (notice.Returned socket messages bits) lives handed off e = each_apart _ _ P lives handed (λ x. refl) (λ x. other_socket a socket x off) e
  each_aside P n lives handed off e = e

  -- ---- notices of other hosts

  other_host : (h : Host) (test : Life → Bool) (x : Life) → same_host h a ≡ false → (test x ≡ true → same_host h x.host ≡ true) → at_socket a k x ≡ true → test x ≡ true → ⊥
  other_host h test x off names there is =
      let s : a ≡ x.host = same_host-true a x.host (both (same_host a x.host) (x.socket == k) there).0 in
      not_both ⊥ _ (subst (λ (g : Host). same_host h g ≡ true) (sym s) (names is)) off

  named_at : (h : Host) (socket : ℕ) (x : Life) → lives_at h socket x ≡ true → same_host h x.host ≡ true
  named_at h socket x is = (both (same_host h x.host) (x.socket == socket) (both (same_host h x.host && x.socket == socket) (not x.ended) is).0).0

  pub away_at : (h : Host) (socket : ℕ) (x : Life) → same_host h a ≡ false → at_socket a k x ≡ true → lives_at h socket x ≡ true → ⊥
  away_at h socket x off there is = other_host h (lives_at h socket) x off (named_at h socket x) there is

  each_away : (P : Life → List Bool → Type 0) (h : Host) (n : Notice) (lives : List Life) (handed : List (List Bool)) → same_host h a ≡ false → EachOn a k P lives handed → EachOn a k P (lives_told h n lives) (handed_told n handed)
  each_away P h (notice.Opened socket peer foreign own partner) lives handed off e =
      each_more P lives handed _
      (λ there. let s : a ≡ h = same_host-true a h (both (same_host a h) (socket == k) there).0 in
      not_both (One P (new_life h socket peer foreign own partner) []) _ (subst (λ (g : Host). same_host h g ≡ true) (sym s) (same_host-refl h)) off) e
  each_away P h (notice.Ended socket peer foreign) lives handed off e = each_ending _ P lives handed e
  each_away P h (notice.PairReset peer) lives handed off e = each_ending _ P lives handed e
  each_away P h (notice.Sent socket bits) lives handed off e = each_apart _ _ P lives handed (λ x. refl) (λ x. away_at h socket x off) e
  each_away P h (notice.Arrived socket bits) lives handed off e = each_apart _ _ P lives handed (λ x. refl) (λ x. away_at h socket x off) e
  each_away P h (notice.Returned socket messages bits) lives handed off e = each_apart _ _ P lives handed (λ x. refl) (λ x. away_at h socket x off) e
  each_away P h n lives handed off e = e

  pub all_away : (P : Life → List Bool → Type 0) (h : Host) (ns : List Notice) (κ : Kept) → same_host h a ≡ false → EachIn a k P κ → EachIn a k P (all_told h ns κ)
  all_away P h [] κ off e = e
  all_away P h (n ∷ ns) κ off e = all_away P h ns (book_told h n κ) off (each_away P h n κ.book.lives κ.handed off e)
