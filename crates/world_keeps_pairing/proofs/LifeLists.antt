-- Lives of a book, one by one: those at two sockets are reported, and two of them at two places; and those between hosts with programs.
use Rattle.world_keeps_pairing.proofs.Common.{append_assoc, Contains, Host, AreAmong, AreOurs, Network}
use Rattle.std.proofs.Common.{◌≡◌, inl, inr, ℕ, zero, suc, ◌<◌, not, ◌&&◌, drop, Bool, true, false, if◌then◌else◌, List, [], ◌∷◌, ◌++◌, length, refl, ap, sym, subst, ◌∙◌, eq-eqb, arith, ◌≢◌, get_or}
use Rattle.interface.proofs.lemmas.{same_host-refl, contains_head, contains_none, contains_tail}
use Rattle.pairing_law.specs.Partners.{IsIn, NoneOwns, OwnOnce, PartnerOnce, NoneTook}
use Rattle.promise.specs.Safe.{AreTwo}
use Rattle.world_keeps_pairing.specs.Lives.{is_between, life_of, with_life, with_lives}
use Rattle.pairing_law.specs.Sides.{Life}
use Rattle.promise.specs.declared.life.Life as book
use Rattle.std.proofs.lemmas.List.Elements.{Contains-append_cases, Contains-push_cases}
use Rattle.net_sim.specs.Among.{is_among, lives_among}

-- ---- lives of the law

pub in_among : (x : Life) (xs ys : List Life) → AreAmong xs ys → IsIn x xs → IsIn x ys
in_among x [] ys a i = absurd i
in_among x (v ∷ xs) [] a i = absurd a
in_among x (v ∷ xs) (y ∷ ys) (inl a) (inl i) = inl (i ∙ a.0)
in_among x (v ∷ xs) (y ∷ ys) (inl a) (inr i) = inr (in_among x xs ys a.1 i)
in_among x (v ∷ xs) (y ∷ ys) (inr a) i = inr (in_among x (v ∷ xs) ys a i)

-- by a number that a life has
module _ (key : Life → ℕ) where
  abbrev NoneHas : ℕ → List Life → Type 0
  NoneHas p [] = Unit {0}
  NoneHas p (x ∷ lives) = (key x ≢ p) × NoneHas p lives

  abbrev pub IsOnce : List Life → Type 0
  IsOnce [] = Unit {0}
  IsOnce (x ∷ lives) = NoneHas (key x) lives × IsOnce lives

  none_among : (p : ℕ) (xs ys : List Life) → AreAmong xs ys → NoneHas p ys → NoneHas p xs
  none_among p [] ys a h = tt
  none_among p (x ∷ xs) [] a h = absurd a
  none_among p (x ∷ xs) (y ∷ ys) (inl a) h = (λ e. h.0 (ap key (sym a.0) ∙ e), none_among p xs ys a.1 h.1)
  none_among p (x ∷ xs) (y ∷ ys) (inr a) h = none_among p (x ∷ xs) ys a h.1

  pub once_among : (xs ys : List Life) → AreAmong xs ys → IsOnce ys → IsOnce xs
  once_among [] ys a h = tt
  once_among (x ∷ xs) [] a h = absurd a
  once_among (x ∷ xs) (y ∷ ys) (inl a) h = (none_among _ xs ys a.1 (subst (λ (v : Life). NoneHas (key v) ys) (sym a.0) h.0), once_among xs ys a.1 h.1)
  once_among (x ∷ xs) (y ∷ ys) (inr a) h = once_among (x ∷ xs) ys a h.1

none_owns : (p : ℕ) (lives : List Life) → NoneOwns p lives → NoneHas (λ x. x.own) p lives
none_owns p [] h = tt
none_owns p (x ∷ lives) h = (h.0, none_owns p lives h.1)

pub own_once : (lives : List Life) → OwnOnce lives → IsOnce (λ x. x.own) lives
own_once [] h = tt
own_once (x ∷ lives) h = (none_owns x.own lives h.0, own_once lives h.1)

none_took : (p : ℕ) (lives : List Life) → NoneTook p lives → NoneHas (λ x. x.partner) p lives
none_took p [] h = tt
none_took p (x ∷ lives) h = (h.0, none_took p lives h.1)

pub partner_once : (lives : List Life) → PartnerOnce lives → IsOnce (λ x. x.partner) lives
partner_once [] h = tt
partner_once (x ∷ lives) h = (none_took _ lives h.0, partner_once lives h.1)

-- ---- lives of a book

pub between_itself : (x : book.Life) → is_between x.host x.peer x.socket x.foreign x ≡ true
between_itself x = rw (same_host-refl x.host, same_host-refl x.peer, eq-eqb x.socket x.socket refl, eq-eqb x.foreign x.foreign refl) refl

module _ (origin : ℕ → ℕ) (h p : Host) (own foreign : ℕ) where
  lives_join : (xs ys : List book.Life) (told : List Life) → with_lives origin h p own foreign (xs ++ ys) told ≡ with_lives origin h p own foreign ys (with_lives origin h p own foreign xs told)
  lives_join [] ys told = refl
  lives_join (x ∷ xs) ys told = lives_join xs ys (with_life origin h p own foreign x told)

  -- what is reported stays reported
  in_one : (l : Life) (x : book.Life) (told : List Life) → IsIn l told → IsIn l (with_life origin h p own foreign x told)
  in_one l x told i = by (is_between h p own foreign x) where
    by : (b : Bool) → IsIn l (if b then life_of origin x ∷ told else told)
    by true = inr i
    by false = i

  in_more : (l : Life) (xs : List book.Life) (told : List Life) → IsIn l told → IsIn l (with_lives origin h p own foreign xs told)
  in_more l [] told i = i
  in_more l (x ∷ xs) told i = in_more l xs (with_life origin h p own foreign x told) (in_one l x told i)

  with_it : (x : book.Life) (told : List Life) → is_between h p own foreign x ≡ true → with_life origin h p own foreign x told ≡ life_of origin x ∷ told
  with_it x told e = ap (λ (b : Bool). if b then life_of origin x ∷ told else told) e

  -- each life of these ends is reported
  in_at : (x : book.Life) (k : ℕ) (xs : List book.Life) (told : List Life) → k < length xs → get_or xs k x ≡ x → is_between h p own foreign x ≡ true → IsIn (life_of origin x) (with_lives origin h p own foreign xs told)
  in_at x k [] told lt e b = absurd (omega (arith, lt))
  in_at x zero (y ∷ xs) told lt e b =
      in_more _ xs _
      (subst (λ (v : book.Life). IsIn (life_of origin x) (with_life origin h p own foreign v told)) (sym e)
      (subst (λ (l : List Life). IsIn (life_of origin x) l) (sym (with_it x told b)) (inl refl)))
  in_at x (suc k) (y ∷ xs) told lt e b = in_at x k xs (with_life origin h p own foreign y told) (omega (arith, lt)) e b

  pub told_in : (x : book.Life) (xs : List book.Life) → Contains xs x → is_between h p own foreign x ≡ true → IsIn (life_of origin x) (with_lives origin h p own foreign xs [])
  told_in x xs c b = in_at x c.0 xs [] c.1 c.2 b

  -- ---- two of them

  module _ (key : Life → ℕ) where
    once_one : (x : book.Life) (told : List Life) → IsOnce key (with_life origin h p own foreign x told) → IsOnce key told
    once_one x told = by (is_between h p own foreign x) where
      by : (b : Bool) → IsOnce key (if b then life_of origin x ∷ told else told) → IsOnce key told
      by true i = i.1
      by false i = i

    once_under : (xs : List book.Life) (told : List Life) → IsOnce key (with_lives origin h p own foreign xs told) → IsOnce key told
    once_under [] told i = i
    once_under (x ∷ xs) told i = once_one x told (once_under xs (with_life origin h p own foreign x told) i)

    none_one : (n : ℕ) (x : book.Life) (told : List Life) → NoneHas key n (with_life origin h p own foreign x told) → NoneHas key n told
    none_one n x told = by (is_between h p own foreign x) where
      by : (b : Bool) → NoneHas key n (if b then life_of origin x ∷ told else told) → NoneHas key n told
      by true i = i.1
      by false i = i

    none_under : (n : ℕ) (xs : List book.Life) (told : List Life) → NoneHas key n (with_lives origin h p own foreign xs told) → NoneHas key n told
    none_under n [] told i = i
    none_under n (x ∷ xs) told i = none_one n x told (none_under n xs (with_life origin h p own foreign x told) i)

    -- lives at two places of the book have two numbers, where each number is reported once
    pub two_apart : (x y : book.Life) (xs : List book.Life) → AreTwo xs x y → is_between h p own foreign x ≡ true → is_between h p own foreign y ≡ true → IsOnce key (with_lives origin h p own foreign xs [])
        → key (life_of origin x) ≡ key (life_of origin y) → ⊥
    two_apart x y xs two bx by once same =
        let front : List book.Life = two.0 in
        let between : List book.Life = two.1 in
        let rest : List book.Life = two.2 in
        let older : List Life = with_lives origin h p own foreign two.0 [] in
        let parts : xs ≡ (two.0 ++ x ∷ two.1) ++ y ∷ two.2 = two.3 in
        let told : with_lives origin h p own foreign xs [] ≡ with_lives origin h p own foreign two.2 (life_of origin y ∷ with_lives origin h p own foreign two.1 (life_of origin x ∷ with_lives origin h p own foreign two.0 [])) =
        ap (λ (l : List book.Life). with_lives origin h p own foreign l []) two.3
        ∙ lives_join (two.0 ++ x ∷ two.1) _ []
        ∙ ap (λ (l : List Life). with_lives origin h p own foreign two.2 (with_life origin h p own foreign y l)) (lives_join two.0 _ [])
        ∙ ap (λ (l : List Life). with_lives origin h p own foreign two.2 (with_life origin h p own foreign y (with_lives origin h p own foreign two.1 l))) (with_it x older bx)
        ∙ ap (λ (l : List Life). with_lives origin h p own foreign two.2 l) (with_it y _ by) in
        let upper : IsOnce key (life_of origin y ∷ with_lives origin h p own foreign two.1 (life_of origin x ∷ older)) =
        once_under two.2 _ (subst (λ (l : List Life). IsOnce key l) told once) in
        (none_under _ two.1 _ upper.0).0 same

-- ---- the lives that are between hosts with programs, in the order of the book

abbrev head_or : book.Life → List book.Life → book.Life
head_or x [] = x
head_or x (y ∷ lives) = y

-- a life among others of these, and what follows it in the book
record Split (hosts : Network) (lives rest : List book.Life) (x : book.Life) : Type 0 where
  front : List book.Life
  back : List book.Life
  is : lives ≡ front ++ x ∷ back
  later : lives_among hosts.strange back ≡ rest

module _ (hosts : Network) where
  first_stays : (x : book.Life) (lives : List book.Life) → is_among hosts.strange x ≡ true → lives_among hosts.strange (x ∷ lives) ≡ x ∷ lives_among hosts.strange lives
  first_stays x lives e = rw e refl

  first_goes : (x : book.Life) (lives : List book.Life) → is_among hosts.strange x ≡ false → lives_among hosts.strange (x ∷ lives) ≡ lives_among hosts.strange lives
  first_goes x lives e = rw e refl

  ours_if : (x : book.Life) → is_among hosts.strange x ≡ true → AreOurs hosts x.host x.peer
  ours_if x e = by (hosts.strange x.host) (hosts.strange x.peer) refl refl e where
    by : (b c : Bool) → hosts.strange x.host ≡ b → hosts.strange x.peer ≡ c → (not b && not c) ≡ true → AreOurs hosts x.host x.peer
    by true c e f both = absurd (cc)
    by false true e f both = absurd (cc)
    by false false e f both = (e, f)

  -- each of them is in the book
  pub in_book : (lives : List book.Life) (x : book.Life) → Contains (lives_among hosts.strange lives) x → Contains lives x × AreOurs hosts x.host x.peer
  in_book [] x there = absurd (contains_none x there)
  in_book (y ∷ lives) x there = by (is_among hosts.strange y) refl (λ i. in_book lives x i) where
    by : (b : Bool) → is_among hosts.strange y ≡ b → (Contains (lives_among hosts.strange lives) x → Contains lives x × AreOurs hosts x.host x.peer) → Contains (y ∷ lives) x × AreOurs hosts x.host x.peer
    by true e older =
        elim (Contains-append_cases (y ∷ []) (lives_among hosts.strange lives) x (subst (λ (l : List book.Life). Contains l x) (first_stays y lives e) there)) [
          | inl first ↦ elim (Contains-push_cases [] y x first) [
            | inl none ↦ absurd (contains_none x none)
            | inr is ↦ (subst (λ (v : book.Life). Contains (y ∷ lives) v) is (contains_head y lives), ours_if x (subst (λ (v : book.Life). is_among hosts.strange v ≡ true) is e))
          ]
          | inr later ↦ (let i : Contains lives x × AreOurs hosts x.host x.peer = older later in (contains_tail y lives x i.0, i.1))
        ]
    by false e older =
        let i : Contains lives x × AreOurs hosts x.host x.peer = older (subst (λ (l : List book.Life). Contains l x) (first_goes y lives e) there) in
        (contains_tail y lives x i.0, i.1)

  split : (lives front rest : List book.Life) (x : book.Life) → lives_among hosts.strange lives ≡ front ++ x ∷ rest → Split hosts lives rest x
  split [] [] rest x is = absurd (cc)
  split [] (y ∷ front) rest x is = absurd (cc)
  split (z ∷ lives) front rest x is = by (is_among hosts.strange z) refl (λ newer e. split lives newer rest x e) where
    more : Split hosts lives rest x → Split hosts (z ∷ lives) rest x
    more s = record { front = z ∷ s.front; back = s.back; is = ap (λ (l : List book.Life). z ∷ l) s.is; later = s.later }

    at : (newer : List book.Life) → z ∷ lives_among hosts.strange lives ≡ newer ++ x ∷ rest → ((older : List book.Life) → lives_among hosts.strange lives ≡ older ++ x ∷ rest → Split hosts lives rest x) → Split hosts (z ∷ lives) rest x
    at [] e older = record { front = []; back = lives; is = ap (λ (v : book.Life). v ∷ lives) (ap (head_or x) e); later = ap (drop 1) e }
    at (y ∷ newer) e older = more (older newer (ap (drop 1) e))

    by : (b : Bool) → is_among hosts.strange z ≡ b → ((older : List book.Life) → lives_among hosts.strange lives ≡ older ++ x ∷ rest → Split hosts lives rest x) → Split hosts (z ∷ lives) rest x
    by true e older = at front (sym (first_stays z lives e) ∙ is) older
    by false e older = more (older front (sym (first_goes z lives e) ∙ is))

  -- and two of them are two of the book
  pub two_in_book : (lives : List book.Life) (x y : book.Life) → AreTwo (lives_among hosts.strange lives) x y → AreTwo lives x y
  two_in_book lives x y two =
      let s : Split hosts lives (two.1 ++ y ∷ two.2) x = split lives two.0 _ x (two.3 ∙ append_assoc two.0 (x ∷ two.1) (y ∷ two.2)) in
      let t : Split hosts s.back two.2 y = split s.back two.1 two.2 y s.later in
      (s.front, t.front, t.back, s.is ∙ ap (λ (l : List book.Life). s.front ++ x ∷ l) t.is ∙ sym (append_assoc s.front (x ∷ t.front) (y ∷ t.back)))
