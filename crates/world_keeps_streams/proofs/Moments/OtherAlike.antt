-- Two lists of lives that have the same lives of a host with one peer, and notices that leave them so.
use Rattle.world_keeps_streams.proofs.Common.{◌≡◌, inl, inr, ℕ, zero, suc, ◌==◌, ◌&&◌, Bool, true, false, not, if◌then◌else◌, List, [], ◌∷◌, ◌++◌, map, drop, refl, sym, subst, ◌∙◌, Host, same_host, same_host-refl, Entry, Notice, both, clash}
use Rattle.net_sim.specs.Book.{changed_when, lives_at, lives_between, lives_on, lives_told, lives_with, new_life, where_it}
use Rattle.host_pairs.specs.declared.notice.Notice.TheVariants as notice
use Rattle.promise.specs.declared.life.Life.{Life}
use Rattle.net_sim.specs.Book as book
use Rattle.world_keeps_streams.proofs.Deeds.Effects as deeds
use Rattle.world_keeps_streams.proofs.Deeds.Effects.{Among, Deed, all_lives, life_by, life_ends, new_by}
use Rattle.world_keeps_streams.proofs.Deeds.Told.{After}
use Rattle.world_keeps_streams.proofs.Carried.Still.{AreIn}

module _ (a b : Host) where
  -- a life after a change that leaves those of the two as they are
  pub record IsLike (x y : Life) : Type 0 where
    pub host : y.host ≡ x.host
    pub peer : y.peer ≡ x.peer
    pub same : x.host ≡ a → x.peer ≡ b → y ≡ x

  like_same : (x : Life) → IsLike x x
  like_same x = record { host = refl; peer = refl; same = λ h p. refl }

  like_then : (x y z : Life) → IsLike x y → IsLike y z → IsLike x z
  like_then x y z l k = record { host = k.host ∙ l.host; peer = k.peer ∙ l.peer; same = λ h p. k.same (l.host ∙ h) (l.peer ∙ p) ∙ l.same h p }

  like_when : (v : Bool) (f : Life → Life) (x : Life) → ((x : Life) → (f x).host ≡ x.host) → ((x : Life) → (f x).peer ≡ x.peer) → (x.host ≡ a → x.peer ≡ b → v ≡ true → ⊥) → IsLike x (changed_when v f x)
  like_when true f x host peer none = record { host = host x; peer = peer x; same = λ h p. absurd (none h p refl) }
  like_when false f x host peer none = like_same x

  -- none is a life of the two
  abbrev pub AreOthers : List Life → Type 0
  AreOthers [] = Unit {0}
  AreOthers (y ∷ ys) = (y.host ≡ a → y.peer ≡ b → ⊥) × AreOthers ys

  -- one list after another: all its lives are there still, and what is new is of others
  abbrev pub AreAlike : List Life → List Life → Type 0
  AreAlike [] ys = AreOthers ys
  AreAlike (x ∷ xs) [] = ⊥
  AreAlike (x ∷ xs) (y ∷ ys) = IsLike x y × AreAlike xs ys

  pub alike_same : (xs : List Life) → AreAlike xs xs
  alike_same [] = tt
  alike_same (x ∷ xs) = (like_same x, alike_same xs)

  others_then : (xs ys : List Life) → AreOthers xs → AreAlike xs ys → AreOthers ys
  others_then [] ys o l = l
  others_then (x ∷ xs) [] o l = absurd l
  others_then (x ∷ xs) (y ∷ ys) o l = ((λ h p. o.0 (sym l.0.host ∙ h) (sym l.0.peer ∙ p)), others_then xs ys o.1 l.1)

  pub alike_then : (xs ys zs : List Life) → AreAlike xs ys → AreAlike ys zs → AreAlike xs zs
  alike_then [] ys zs l k = others_then ys zs l k
  alike_then (x ∷ xs) [] zs l k = absurd l
  alike_then (x ∷ xs) (y ∷ ys) [] l k = absurd k
  alike_then (x ∷ xs) (y ∷ ys) (z ∷ zs) l k = (like_then x y z l.0 k.0, alike_then xs ys zs l.1 k.1)

  others_dropped : (n : ℕ) (ys : List Life) → AreOthers ys → AreOthers (drop n ys)
  others_dropped zero ys o = o
  others_dropped (suc n) [] o = o
  others_dropped (suc n) (y ∷ ys) o = others_dropped n ys o.1

  pub alike_dropped : (n : ℕ) (xs ys : List Life) → AreAlike xs ys → AreAlike (drop n xs) (drop n ys)
  alike_dropped zero xs ys l = l
  alike_dropped (suc n) [] ys l = others_dropped (suc n) ys l
  alike_dropped (suc n) (x ∷ xs) [] l = absurd l
  alike_dropped (suc n) (x ∷ xs) (y ∷ ys) l = alike_dropped n xs ys l.1

  pub alike_forth : (xs ys : List Life) → AreAlike xs ys → AreIn a b xs ys
  alike_forth [] ys l x h p there = absurd there
  alike_forth (z ∷ zs) [] l x h p there = absurd l
  alike_forth (z ∷ zs) (y ∷ ys) l x h p (inl is) = inl (l.0.same (subst (λ (w : Life). w.host ≡ a) (sym is) h) (subst (λ (w : Life). w.peer ≡ b) (sym is) p) ∙ is)
  alike_forth (z ∷ zs) (y ∷ ys) l x h p (inr there) = inr (alike_forth zs ys l.1 x h p there)

  none_other : (ys : List Life) → AreOthers ys → (x : Life) → x.host ≡ a → x.peer ≡ b → Among x ys → ⊥
  none_other [] o x h p there = there
  none_other (y ∷ ys) o x h p (inl is) = o.0 (subst (λ (w : Life). w.host ≡ a) (sym is) h) (subst (λ (w : Life). w.peer ≡ b) (sym is) p)
  none_other (y ∷ ys) o x h p (inr there) = none_other ys o.1 x h p there

  pub alike_back : (xs ys : List Life) → AreAlike xs ys → AreIn a b ys xs
  alike_back [] ys l x h p there = absurd (none_other ys l x h p there)
  alike_back (z ∷ zs) [] l x h p there = absurd l
  alike_back (z ∷ zs) (y ∷ ys) l x h p (inl is) =
      inl (sym (l.0.same (sym l.0.host ∙ subst (λ (w : Life). w.host ≡ a) (sym is) h) (sym l.0.peer ∙ subst (λ (w : Life). w.peer ≡ b) (sym is) p)) ∙ is)
  alike_back (z ∷ zs) (y ∷ ys) l x h p (inr there) = inr (alike_back zs ys l.1 x h p there)

  -- ---- changes of lists

  alike_mapped : (f : Life → Life) (xs new : List Life) → ((x : Life) → Among x xs → IsLike x (f x)) → AreOthers new → AreAlike xs (map f xs ++ new)
  alike_mapped f [] new like o = o
  alike_mapped f (x ∷ xs) new like o = (like x (inl refl), alike_mapped f xs new (λ y there. like y (inr there)) o)

  alike_more : (xs new : List Life) → AreOthers new → AreAlike xs (xs ++ new)
  alike_more [] new o = o
  alike_more (x ∷ xs) new o = (like_same x, alike_more xs new o)

  pub alike_where : (test : Life → Bool) (f : Life → Life) (xs : List Life) → ((x : Life) → (f x).host ≡ x.host) → ((x : Life) → (f x).peer ≡ x.peer) → ((x : Life) → Among x xs → x.host ≡ a → x.peer ≡ b → test x ≡ true → ⊥) → AreAlike xs (where_it test f xs)
  alike_where test f [] host peer none = tt
  alike_where test f (x ∷ xs) host peer none = (like_when (test x) f x host peer (none x (inl refl)), alike_where test f xs host peer (λ y there. none y (inr there)))

  -- ---- what another host is notified of

  module _ (h : Host) (off : same_host h a ≡ false) where
    at_other : (socket : ℕ) (x : Life) → x.host ≡ a → lives_at h socket x ≡ true → ⊥
    at_other socket x host is =
        let s : same_host h x.host ≡ true = (both (same_host h x.host) (x.socket == socket) (both (same_host h x.host && x.socket == socket) (not x.ended) is).0).0 in
        clash ⊥ (same_host h a) (subst (λ (g : Host). same_host h g ≡ true) host s) off

    between_other : (socket foreign : ℕ) (peer : Host) (x : Life) → x.host ≡ a → lives_between h socket peer foreign x ≡ true → ⊥
    between_other socket foreign peer x host is =
        at_other socket x host (both (lives_at h socket x) (same_host peer x.peer) (both (lives_at h socket x && same_host peer x.peer) (x.foreign == foreign) is).0).0

    with_other : (peer : Host) (x : Life) → x.host ≡ a → lives_with h peer x ≡ true → ⊥
    with_other peer x host is =
        let s : same_host h x.host ≡ true = (both (same_host h x.host) (same_host peer x.peer) (both (same_host h x.host && same_host peer x.peer) (not x.ended) is).0).0 in
        clash ⊥ (same_host h a) (subst (λ (g : Host). same_host h g ≡ true) host s) off

    pub on_other : (x : Life) → x.host ≡ a → lives_on h x ≡ true → ⊥
    on_other x host is = clash ⊥ (same_host h a) (subst (λ (g : Host). same_host h g ≡ true) host (both _ _ is).0) off

    pub alike_at_other : (socket : ℕ) (f : Life → Life) (ls : List Life) → ((x : Life) → (f x).host ≡ x.host) → ((x : Life) → (f x).peer ≡ x.peer) → AreAlike ls (where_it (lives_at h socket) f ls)
    alike_at_other socket f ls host peer = alike_where _ f ls host peer (λ x there g p is. at_other socket x g is)

    away_told : (n : Notice) (ls : List Life) → AreAlike ls (lives_told h n ls)
    away_told (notice.Opened socket peer foreign own partner) ls =
        alike_more ls (new_life h socket peer foreign own partner ∷ []) ((λ host p. clash ⊥ (same_host h a) (subst (λ (g : Host). same_host h g ≡ true) host (same_host-refl h)) off), tt)
    away_told (notice.Ended socket peer foreign) ls = alike_where (lives_between h socket peer foreign) book.life_ended ls (λ x. refl) (λ x. refl) (λ x there g p is. between_other socket foreign peer x g is)
    away_told (notice.PairReset peer) ls = alike_where (lives_with h peer) book.life_ended ls (λ x. refl) (λ x. refl) (λ x there g p is. with_other peer x g is)
    away_told (notice.Sent socket bits) ls = alike_at_other socket (book.carried bits) ls (λ x. refl) (λ x. refl)
    away_told (notice.Arrived socket bits) ls = alike_at_other socket (book.carried bits) ls (λ x. refl) (λ x. refl)
    away_told (notice.Returned socket messages bits) ls = alike_at_other socket (book.returned messages bits) ls (λ x. refl) (λ x. refl)
    away_told n ls = alike_same ls

    pub away_alike : (ns : List Notice) (ls : List Life) → AreAlike ls (all_lives h ns ls)
    away_alike [] ls = alike_same ls
    away_alike (n ∷ ns) ls = alike_then ls _ _ (away_told n ls) (away_alike ns (lives_told h n ls))

  -- ---- what is reported of another peer

  -- notices that name the peer, and none of a socket
  abbrev pub IsNamed : Host → Notice → Type 0
  IsNamed p (notice.Opened socket peer foreign own partner) = peer ≡ p
  IsNamed p (notice.Ended socket peer foreign) = peer ≡ p
  IsNamed p (notice.PairReset peer) = peer ≡ p
  IsNamed p (notice.Sent socket bits) = ⊥
  IsNamed p (notice.Arrived socket bits) = ⊥
  IsNamed p (notice.Returned socket messages bits) = ⊥
  IsNamed p n = Unit {0}

  abbrev pub AreNamed : Host → List Notice → Type 0
  AreNamed p [] = Unit {0}
  AreNamed p (n ∷ ns) = IsNamed p n × AreNamed p ns

  pub named_append : (p : Host) (ns ms : List Notice) → AreNamed p ns → AreNamed p ms → AreNamed p (ns ++ ms)
  named_append p [] ms l k = k
  named_append p (n ∷ ns) ms l k = (l.0, named_append p ns ms l.1 k)

  -- no life of the two continues at a socket
  abbrev pub IsClear : ℕ → List Life → Type 0
  IsClear k ls = (x : Life) → Among x ls → x.host ≡ a → x.peer ≡ b → lives_at a k x ≡ true → ⊥

  module _ (p : Host) (off : same_host p b ≡ false) where
    not_this : (peer : Host) → peer ≡ p → (x : Life) → x.peer ≡ b → same_host peer x.peer ≡ true → ⊥
    not_this peer is x to s = clash ⊥ (same_host p b) (subst (λ (g : Host). same_host p g ≡ true) to (subst (λ (g : Host). same_host g x.peer ≡ true) is s)) off

    other_between : (socket foreign : ℕ) (peer : Host) → peer ≡ p → (x : Life) → x.peer ≡ b → lives_between a socket peer foreign x ≡ true → ⊥
    other_between socket foreign peer named x to is =
        not_this peer named x to (both (lives_at a socket x) (same_host peer x.peer) (both (lives_at a socket x && same_host peer x.peer) (x.foreign == foreign) is).0).1

    other_with : (peer : Host) → peer ≡ p → (x : Life) → x.peer ≡ b → lives_with a peer x ≡ true → ⊥
    other_with peer named x to is = not_this peer named x to (both (same_host a x.host) (same_host peer x.peer) (both (same_host a x.host && same_host peer x.peer) (not x.ended) is).0).1

    named_new : (peer : Host) → peer ≡ p → peer ≡ b → ⊥
    named_new peer is to = clash ⊥ (same_host p b) (subst (λ (g : Host). same_host p g ≡ true) (sym is ∙ to) (same_host-refl p)) off

    named_told : (n : Notice) → IsNamed p n → (ls : List Life) → AreAlike ls (lives_told a n ls)
    named_told (notice.Opened socket peer foreign own partner) is ls = alike_more ls _ ((λ host to. named_new peer is to), tt)
    named_told (notice.Ended socket peer foreign) is ls = alike_where _ book.life_ended ls (λ x. refl) (λ x. refl) (λ x there h to t. other_between socket foreign peer is x to t)
    named_told (notice.PairReset peer) is ls = alike_where _ book.life_ended ls (λ x. refl) (λ x. refl) (λ x there h to t. other_with peer is x to t)
    named_told (notice.Sent socket bits) is ls = absurd is
    named_told (notice.Arrived socket bits) is ls = absurd is
    named_told (notice.Returned socket messages bits) is ls = absurd is
    named_told n is ls = alike_same ls

    pub named_alike : (ns : List Notice) → AreNamed p ns → (ls : List Life) → AreAlike ls (all_lives a ns ls)
    named_alike [] is ls = alike_same ls
    named_alike (n ∷ ns) is ls = alike_then ls _ _ (named_told n is.0 ls) (named_alike ns is.1 (lives_told a n ls))

    -- ---- a deed with another peer

    -- no life of the two continues where it is done
    abbrev pub IsClearOf : Deed → List Life → Type 0
    IsClearOf (deeds.Arrives e bits) ls = IsClear e.own ls
    IsClearOf (deeds.Leaves e bits) ls = IsClear e.own ls
    IsClearOf (deeds.Grants e messages bits) ls = IsClear e.own ls
    IsClearOf (deeds.Returns e messages bits) ls = IsClear e.own ls
    IsClearOf d ls = Unit {0}

    one_ended : (v : Bool) (e : Entry) (x : Life) → IsLike x (if v then changed_when (lives_between a e.own p e.foreign x) book.life_ended x else x)
    one_ended true e x = like_when _ book.life_ended x (λ y. refl) (λ y. refl) (λ h to t. other_between e.own e.foreign p refl x to t)
    one_ended false e x = like_same x

    like_ended : (es : List Entry) (x : Life) → IsLike x (life_ends a p es x)
    like_ended [] x = like_same x
    like_ended (e ∷ es) x =
        let y : Life = if e.mine then changed_when (lives_between a e.own p e.foreign x) book.life_ended x else x in
        like_then x y _ (one_ended e.mine e x) (like_ended es y)

    like_at : (k : ℕ) (f : Life → Life) (ls : List Life) → ((x : Life) → (f x).host ≡ x.host) → ((x : Life) → (f x).peer ≡ x.peer) → IsClear k ls → (x : Life) → Among x ls → IsLike x (changed_when (lives_at a k x) f x)
    like_at k f ls host peer clear x there = like_when _ f x host peer (clear x there)

    pub deed_alike : (d : Deed) (ls : List Life) → IsClearOf d ls → AreAlike ls (After a p d ls)
    deed_alike deeds.Nothing ls clear = alike_mapped _ ls [] (λ x there. like_same x) tt
    deed_alike (deeds.Opens e u v) ls clear = alike_mapped _ ls _ (λ x there. like_same x) ((λ host to. named_new p refl to), tt)
    deed_alike (deeds.Ends es) ls clear = alike_mapped _ ls [] (λ x there. like_ended es x) tt
    deed_alike (deeds.Arrives e bits) ls clear = alike_mapped _ ls [] (like_at e.own _ ls (λ x. refl) (λ x. refl) clear) tt
    deed_alike (deeds.Leaves e bits) ls clear = alike_mapped _ ls [] (like_at e.own _ ls (λ x. refl) (λ x. refl) clear) tt
    deed_alike (deeds.Grants e messages bits) ls clear = alike_mapped _ ls [] (like_at e.own _ ls (λ x. refl) (λ x. refl) clear) tt
    deed_alike (deeds.Returns e messages bits) ls clear = alike_mapped _ ls [] (like_at e.own _ ls (λ x. refl) (λ x. refl) clear) tt
