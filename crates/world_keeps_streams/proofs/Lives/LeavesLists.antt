-- Lives of one host with one peer, where a moment lets them be or ends them, and begins none.
use Rattle.world_keeps_streams.proofs.Common.{append_assoc, map-append, Host, same_host, same_host-refl, Notice, Request, Moment, Crossed, Asked, clash, map_two}
use Rattle.std.proofs.Common.{◌≡◌, ◌⊎◌, inl, inr, ℕ, Bool, true, false, List, [], ◌∷◌, ◌++◌, map, refl, ap, sym, subst, ◌∙◌, append-nil}
use Rattle.net_sim.specs.Book.{Kept, all_told, carried, changed_when, life_ended, lives_asked, lives_at, lives_between, lives_on, lives_told, lives_with, new_life, book_told, where_it, granted, returned}
use Rattle.net_sim.specs.Told.{host_in, kept_by, notices_by, kept_in}
use Rattle.interface.specs.declared.crossing.Crossing.TheVariants as crossing
use Rattle.host_pairs.specs.declared.notice.Notice.TheVariants as notice
use Rattle.sockets.specs.declared.request.Request.TheVariants as request
use Rattle.promise.specs.declared.life.Life.{Life}
use Rattle.world_keeps_streams.proofs.Lives.Lists.{IsOf, grown, of_either, of_mapped, map_itself}

-- ---- notices

module _ (calm : Bool) (p : Host) where
  -- it opens no end with the peer; and where this is asked for, it doesn't report messages or parts of a grant
  abbrev pub Fine : Notice → Type 0
  Fine (notice.Opened socket peer foreign own partner) = peer ≡ p → ⊥
  Fine (notice.Sent socket bits) = calm ≡ false
  Fine (notice.Arrived socket bits) = calm ≡ false
  Fine (notice.Returned socket messages bits) = calm ≡ false
  Fine c = Unit {0}

  abbrev pub AllFine : List Notice → Type 0
  AllFine [] = Unit {0}
  AllFine (n ∷ ns) = Fine n × AllFine ns

  pub fine_both : (ms ns : List Notice) → AllFine ms → AllFine ns → AllFine (ms ++ ns)
  fine_both [] ns a b = b
  fine_both (m ∷ ms) ns a b = (a.0, fine_both ms ns a.1 b)

module _ (calm : Bool) where
  -- a request that grants nothing
  abbrev pub IsFineAsked : Request → Type 0
  IsFineAsked (request.Grant socket messages bits) = calm ≡ false
  IsFineAsked r = Unit {0}

  abbrev pub IsFineBy : Moment → Type 0
  IsFineBy (Crossed c) = Unit {0}
  IsFineBy (Asked g r) = IsFineAsked r

-- ---- lists that grow so

-- no life of the host with the peer is among the new ones; and where this is asked for, the old ones are as they were, or have ended
pub record Bare (calm : Bool) (h p : Host) (old new : List Life) : Type 0 where
  pub change : Life → Life
  pub more : List Life
  pub is : new ≡ map change old ++ more
  pub host : (x : Life) → (change x).host ≡ x.host
  pub peer : (x : Life) → (change x).peer ≡ x.peer
  pub quiet : calm ≡ true → (x : Life) → x.host ≡ h → x.peer ≡ p → (change x ≡ x) ⊎ (change x ≡ life_ended x)
  pub none : (x : Life) → IsOf x more → x.host ≡ h → x.peer ≡ p → ⊥

-- ended twice is ended
twice : (x y z : Life) → (y ≡ x) ⊎ (y ≡ life_ended x) → (z ≡ y) ⊎ (z ≡ life_ended y) → (z ≡ x) ⊎ (z ≡ life_ended x)
twice x y z (inl e) (inl f) = inl (f ∙ e)
twice x y z (inl e) (inr f) = inr (f ∙ ap life_ended e)
twice x y z (inr e) (inl f) = inr (f ∙ e)
twice x y z (inr e) (inr f) = inr (f ∙ ap life_ended e)

module _ (calm : Bool) (h p : Host) where
  bare_none : (xs : List Life) → Bare calm h p xs xs
  bare_none xs = record {
    change = λ x. x;
    more = [];
    is = sym (append-nil (map (λ (x : Life). x) xs) ∙ map_itself xs);
    host = λ x. refl;
    peer = λ x. refl;
    quiet = λ c x f g. inl refl;
    none = λ x i f g. i;
  }

  bare_more : (xs : List Life) (y : Life) → (y.host ≡ h → y.peer ≡ p → ⊥) → Bare calm h p xs (xs ++ y ∷ [])
  bare_more xs y off = record {
    change = λ x. x;
    more = y ∷ [];
    is = ap (λ (l : List Life). l ++ y ∷ []) (sym (map_itself xs));
    host = λ x. refl;
    peer = λ x. refl;
    quiet = λ c x f g. inl refl;
    none = λ x i f g. by x i f g;
  } where
    by : (x : Life) → IsOf x (y ∷ []) → x.host ≡ h → x.peer ≡ p → ⊥
    by x (inl e) f g = off (ap (λ (v : Life). v.host) (sym e) ∙ f) (ap (λ (v : Life). v.peer) (sym e) ∙ g)
    by x (inr i) f g = i

  bare_on : (xs ys zs : List Life) → Bare calm h p xs ys → Bare calm h p ys zs → Bare calm h p xs zs
  bare_on xs ys zs g k = record {
    change = λ x. k.change (g.change x);
    more = map k.change g.more ++ k.more;
    is = k.is ∙ ap (λ (l : List Life). map k.change l ++ k.more) g.is
        ∙ ap (λ (l : List Life). l ++ k.more) (map-append k.change (map g.change xs) g.more ∙ ap (λ (l : List Life). l ++ map k.change g.more) (map_two g.change k.change xs))
        ∙ append_assoc (map (λ (x : Life). k.change (g.change x)) xs) (map k.change g.more) k.more;
    host = λ x. k.host (g.change x) ∙ g.host x;
    peer = λ x. k.peer (g.change x) ∙ g.peer x;
    quiet = λ c x e f. twice x (g.change x) (k.change (g.change x)) (g.quiet c x e f) (k.quiet c (g.change x) (g.host x ∙ e) (g.peer x ∙ f));
    none = λ x i e f. by x e f (of_either x _ k.more i);
  } where
    by : (x : Life) → x.host ≡ h → x.peer ≡ p → IsOf x (map k.change g.more) ⊎ IsOf x k.more → ⊥
    by x e f (inl i) =
        let m : (w : Life) × IsOf w g.more × (x ≡ k.change w) = of_mapped k.change x g.more i in
        g.none m.0 m.1 (sym (k.host m.0) ∙ ap (λ (v : Life). v.host) (sym m.2) ∙ e) (sym (k.peer m.0) ∙ ap (λ (v : Life). v.peer) (sym m.2) ∙ f)
    by x e f (inr i) = k.none x i e f

  -- a change of those that pass a test: none of these lives does, or it ends them
  bare_where : (test : Life → Bool) (f : Life → Life) (xs : List Life) → ((x : Life) → ((f x).host ≡ x.host) × ((f x).peer ≡ x.peer)) → (calm ≡ true → (x : Life) → x.host ≡ h → x.peer ≡ p → (test x ≡ false) ⊎ (f x ≡ life_ended x))
      → Bare calm h p xs (where_it test f xs)
  bare_where test f xs names quiet = record {
    change = λ x. changed_when (test x) f x;
    more = [];
    is = sym (append-nil (where_it test f xs));
    host = λ x. host (test x) x;
    peer = λ x. peer (test x) x;
    quiet = λ c x e g. by (test x) x (quiet c x e g);
    none = λ x i e g. i;
  } where
    host : (v : Bool) (x : Life) → (changed_when v f x).host ≡ x.host
    host true x = (names x).0
    host false x = refl

    peer : (v : Bool) (x : Life) → (changed_when v f x).peer ≡ x.peer
    peer true x = (names x).1
    peer false x = refl

    by : (v : Bool) (x : Life) → (v ≡ false) ⊎ (f x ≡ life_ended x) → (changed_when v f x ≡ x) ⊎ (changed_when v f x ≡ life_ended x)
    by v x (inl e) = inl (ap (λ (w : Bool). changed_when w f x) e)
    by true x (inr e) = inr e
    by false x (inr e) = inl refl

  -- ---- a notice of another host

  module _ (g : Host) (away : same_host g h ≡ false) where
    off : (x : Life) → x.host ≡ h → same_host g x.host ≡ false
    off x e = ap (same_host g) e ∙ away

    at_off : (socket : ℕ) (x : Life) → x.host ≡ h → lives_at g socket x ≡ false
    at_off socket x e = rw (off x e) refl

    elsewhere_told : (n : Notice) (xs : List Life) → Bare calm h p xs (lives_told g n xs)
    elsewhere_told (notice.Opened socket peer foreign own partner) xs = bare_more xs _ (λ e f. clash ⊥ (same_host g h) (ap (same_host g) (sym e) ∙ same_host-refl g) away)
    elsewhere_told (notice.Ended socket peer foreign) xs = bare_where _ life_ended xs (λ x. (refl, refl)) (λ c x e f. inr refl)
    elsewhere_told (notice.PairReset peer) xs = bare_where _ life_ended xs (λ x. (refl, refl)) (λ c x e f. inr refl)
    elsewhere_told (notice.Sent socket bits) xs = bare_where _ _ xs (λ x. (refl, refl)) (λ c x e f. inl (at_off socket x e))
    elsewhere_told (notice.Arrived socket bits) xs = bare_where _ _ xs (λ x. (refl, refl)) (λ c x e f. inl (at_off socket x e))
    elsewhere_told (notice.Returned socket messages bits) xs = bare_where _ _ xs (λ x. (refl, refl)) (λ c x e f. inl (at_off socket x e))
    elsewhere_told n xs = bare_none xs

    elsewhere_all : (ns : List Notice) (k : Kept) → Bare calm h p k.book.lives (all_told g ns k).book.lives
    elsewhere_all [] k = bare_none k.book.lives
    elsewhere_all (n ∷ ns) k = bare_on k.book.lives _ _ (elsewhere_told n k.book.lives) (elsewhere_all ns (book_told g n k))

    elsewhere_asked : (r : Request) (xs : List Life) → Bare calm h p xs (lives_asked g r xs)
    elsewhere_asked (request.Grant socket messages bits) xs = bare_where _ _ xs (λ x. (refl, refl)) (λ c x e f. inl (at_off socket x e))
    elsewhere_asked r xs = bare_none xs

  -- ---- a notice of the host

  loud : (f : Life → Life) (test : Life → Bool) → calm ≡ false → calm ≡ true → (x : Life) → x.host ≡ h → x.peer ≡ p → (test x ≡ false) ⊎ (f x ≡ life_ended x)
  loud f test l c x e g = clash ((test x ≡ false) ⊎ (f x ≡ life_ended x)) calm c l

  fine_told : (g : Host) (n : Notice) (xs : List Life) → Fine calm p n → Bare calm h p xs (lives_told g n xs)
  fine_told g (notice.Opened socket peer foreign own partner) xs t = bare_more xs _ (λ e f. t f)
  fine_told g (notice.Ended socket peer foreign) xs t = bare_where _ life_ended xs (λ x. (refl, refl)) (λ c x e f. inr refl)
  fine_told g (notice.PairReset peer) xs t = bare_where _ life_ended xs (λ x. (refl, refl)) (λ c x e f. inr refl)
  fine_told g (notice.Sent socket bits) xs t = bare_where _ _ xs (λ x. (refl, refl)) (loud _ _ t)
  fine_told g (notice.Arrived socket bits) xs t = bare_where _ _ xs (λ x. (refl, refl)) (loud _ _ t)
  fine_told g (notice.Returned socket messages bits) xs t = bare_where _ _ xs (λ x. (refl, refl)) (loud _ _ t)
  fine_told g n xs t = bare_none xs

  fine_all : (g : Host) (ns : List Notice) (k : Kept) → AllFine calm p ns → Bare calm h p k.book.lives (all_told g ns k).book.lives
  fine_all g [] k t = bare_none k.book.lives
  fine_all g (n ∷ ns) k t = bare_on k.book.lives _ _ (fine_told g n k.book.lives t.0) (fine_all g ns (book_told g n k) t.1)

  fine_asked : (g : Host) (r : Request) (xs : List Life) → IsFineAsked calm r → Bare calm h p xs (lives_asked g r xs)
  fine_asked g (request.Grant socket messages bits) xs t = bare_where _ _ xs (λ x. (refl, refl)) (loud _ _ t)
  fine_asked g r xs t = bare_none xs

  -- ---- a moment

  by_elsewhere : (y : Moment) (k : Kept) → same_host (host_in y) h ≡ false → Bare calm h p k.book.lives (kept_by y k).book.lives
  by_elsewhere (Crossed (crossing.Down g)) k away = bare_where _ life_ended k.book.lives (λ x. (refl, refl)) (λ c x e f. inr refl)
  by_elsewhere (Crossed c) k away = bare_none k.book.lives
  by_elsewhere (Asked g r) k away = elsewhere_asked g away r k.book.lives

  by_fine : (y : Moment) (k : Kept) → IsFineBy calm y → Bare calm h p k.book.lives (kept_by y k).book.lives
  by_fine (Crossed (crossing.Down g)) k fine = bare_where _ life_ended k.book.lives (λ x. (refl, refl)) (λ c x e f. inr refl)
  by_fine (Crossed c) k fine = bare_none k.book.lives
  by_fine (Asked g r) k fine = fine_asked g r k.book.lives fine

  pub bare_elsewhere : (y : Moment) (ms : List Moment) → same_host (host_in y) h ≡ false → Bare calm h p (kept_in ms).book.lives (kept_in (y ∷ ms)).book.lives
  bare_elsewhere y ms away =
      bare_on (kept_in ms).book.lives (kept_by y (kept_in ms)).book.lives (kept_in (y ∷ ms)).book.lives (by_elsewhere y (kept_in ms) away) (elsewhere_all (host_in y) away (notices_by y ms) (kept_by y (kept_in ms)))

  pub bare_fine : (y : Moment) (ms : List Moment) → IsFineBy calm y → AllFine calm p (notices_by y ms) → Bare calm h p (kept_in ms).book.lives (kept_in (y ∷ ms)).book.lives
  bare_fine y ms fine all =
      bare_on _ _ _ (by_fine y _ fine) (fine_all _ _ _ all)

-- ---- a list grows in one way

head_is : (x y : Life) (xs ys : List Life) → (x ∷ xs) ≡ (y ∷ ys) → x ≡ y
head_is x y xs ys e = cc

tail_is : (x y : Life) (xs ys : List Life) → (x ∷ xs) ≡ (y ∷ ys) → xs ≡ ys
tail_is x y xs ys e = cc

same_more : (f g : Life → Life) (xs ms ns : List Life) → map f xs ++ ms ≡ map g xs ++ ns → ms ≡ ns
same_more f g [] ms ns e = e
same_more f g (x ∷ xs) ms ns e = same_more f g xs ms ns (tail_is (f x) (g x) _ _ e)

same_change : (f g : Life → Life) (xs ms ns : List Life) → map f xs ++ ms ≡ map g xs ++ ns → (x : Life) → IsOf x xs → f x ≡ g x
same_change f g [] ms ns e x i = absurd i
same_change f g (y ∷ xs) ms ns e x (inl is) = ap f is ∙ head_is (f y) (g y) _ _ e ∙ sym (ap g is)
same_change f g (y ∷ xs) ms ns e x (inr i) = same_change f g xs ms ns (tail_is (f y) (g y) _ _ e) x i

module _ (calm : Bool) (h p : Host) (y : Moment) (ms : List Moment) (b : Bare calm h p (kept_in ms).book.lives (kept_in (y ∷ ms)).book.lives) where
  one_way : map (grown y ms).change (kept_in ms).book.lives ++ (grown y ms).more ≡ map b.change (kept_in ms).book.lives ++ b.more
  one_way = sym (grown y ms).is ∙ b.is

  pub none_of : (x : Life) → IsOf x (grown y ms).more → x.host ≡ h → x.peer ≡ p → ⊥
  none_of x i e f = b.none x (subst (λ (l : List Life). IsOf x l) (same_more _ b.change _ _ b.more one_way) i) e f

  pub quiet_of : calm ≡ true → (x : Life) → IsOf x (kept_in ms).book.lives → x.host ≡ h → x.peer ≡ p → ((grown y ms).change x ≡ x) ⊎ ((grown y ms).change x ≡ life_ended x)
  quiet_of c x i e f =
      subst (λ (v : Life). (v ≡ x) ⊎ (v ≡ life_ended x)) (sym (same_change _ b.change _ _ b.more one_way x i)) (b.quiet c x e f)
