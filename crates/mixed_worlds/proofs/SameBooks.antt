-- The book of a network, in which strangers report nothing, has the same lives among hosts with programs as what is kept
-- where each host reports what its program would.
use Rattle.mixed_worlds.proofs.Common.{◌≡◌, ◌⊎◌, inl, inr, ℕ, ◌==◌, ◌&&◌, not, Bool, true, false, List, [], ◌∷◌, ◌++◌, length, Some, refl, ap, sym, subst, ◌∙◌, eq-eqb, if◌then◌else◌, Host, same_host, Crossing, Notice, Fate, Life, Request, same_host-sym, beside_among, is_among, lives_among, mixed_kept, crossed_only, Asked, Crossed, Moment, host_in, kept_by, kept_in, notices_by, same_host-true}
use Rattle.host_pairs.proofs.lemmas.{both, not_is}
use Rattle.net_sim.specs.Book.{Kept, all_told, book_told, carried, life_ended, lives_at, lives_between, lives_on, lives_with, new_life, returned, where_it, fates_where, granted, handed_to, opening_kept, asked, crossed, closing, over_by_cls}
use Rattle.world_keeps_lives.proofs.lemmas.{Each}
use Rattle.interface.specs.declared.crossing.Crossing.TheVariants as crossing
use Rattle.host_pairs.specs.declared.notice.Notice.TheVariants as notice
use Rattle.promise.specs.declared.life.Fate.TheVariants as fate
use Rattle.sockets.specs.declared.request.Request.TheVariants as request
use Rattle.world_keeps_lives.proofs.lemmas.Among.{NoneOf, among_more, among_other, among_where, beside_fates, beside_handed, beside_more, beside_other, beside_where, fates_length, fates_none, handed_length, handed_none, one_longer, where_length, where_none}

-- a notice that opens no life with a stranger
abbrev pub OpensAmong : (Host → Bool) → Notice → Type 0
OpensAmong strange (notice.Opened socket peer foreign own partner) = strange peer ≡ false
OpensAmong strange n = Unit {0}

module _ (strange : Host → Bool) where
  pub record SameBook (κ among : Kept) : Type 0 where
    pub lives : lives_among strange κ.book.lives ≡ among.book.lives
    pub handed : beside_among strange κ.book.lives κ.handed ≡ among.handed
    pub fates : beside_among strange κ.book.lives κ.fates ≡ among.fates
    pub handed_each : length κ.handed ≡ length κ.book.lives
    pub fate_each : length κ.fates ≡ length κ.book.lives

  -- ---- whose lives

  pub among_parts : (x : Life) → is_among strange x ≡ true → (strange x.host ≡ false) × (strange x.peer ≡ false)
  among_parts x is = let p : (not (strange x.host) ≡ true) × (not (strange x.peer) ≡ true) = both
      (not (strange x.host)) (not (strange x.peer)) is in (not_is (strange x.host) p.0, not_is (strange x.peer) p.1)

  -- of lives among hosts with programs none passes a test that only a stranger's passes
  pub none_among : (test : Life → Bool) (lives : List Life)
      → ((x : Life) → is_among strange x ≡ true → test x ≡ false) → NoneOf test (lives_among strange lives)
  none_among test [] never = tt
  none_among test (x ∷ lives) never = by (is_among strange x) refl (none_among test lives never) where
    by : (b : Bool) → is_among strange x ≡ b → NoneOf test (lives_among strange lives)
        → NoneOf test (if b then x ∷ lives_among strange lives else lives_among strange lives)
    by true is rest = (never x is, rest)
    by false off rest = rest

  pub other_host : (h g : Host) → strange h ≡ false → strange g ≡ true → same_host h g ≡ false
  other_host h g off on = by (same_host h g) refl where
    by : (b : Bool) → same_host h g ≡ b → b ≡ false
    by true e = absurd (let clash : true ≡ false = sym on ∙ subst (λ (x : Host). strange x ≡ false) (same_host-true h g e) off in cc)
    by false e = refl

  stranger_off : (h g : Host) (rest : Bool) → strange h ≡ true → strange g ≡ false → (same_host h g && rest) ≡ false
  stranger_off h g rest on off = ap (λ (b : Bool). b && rest) (same_host-sym h g ∙ other_host g h off on)

  -- what is done to lives of which none is among hosts with programs
  aside_where : (test : Life → Bool) (change : Life → Life) (lives : List Life)
      → ((x : Life) → ((change x).host ≡ x.host) × ((change x).peer ≡ x.peer))
      → NoneOf test (lives_among strange lives)
      → lives_among strange (where_it test change lives) ≡ lives_among strange lives
  aside_where test change lives leaves none = among_where strange test change lives leaves
      ∙ where_none test change (lives_among strange lives) none

  aside_fates : (test : Life → Bool) (change : Fate → Fate) (lives : List Life) (fates : List Fate)
      → NoneOf test (lives_among strange lives)
      → beside_among strange lives (fates_where test change lives fates) ≡ beside_among strange lives fates
  aside_fates test change lives fates none = beside_fates strange test change lives fates
      ∙ fates_none test change (lives_among strange lives) (beside_among strange lives fates) none

  -- ---- crossings

  pub crossed_both : (c : Crossing) (κ among : Kept) → SameBook κ among → SameBook (crossed c κ) (crossed c among)
  crossed_both (crossing.Down h) κ among same = record {
    lives = among_where strange (lives_on h) life_ended κ.book.lives (λ x. (refl, refl))
        ∙ ap (where_it (lives_on h) life_ended) same.lives;
    handed = beside_where strange (lives_on h) life_ended κ.book.lives κ.handed (λ x. (refl, refl)) ∙ same.handed;
    fates = beside_where strange (lives_on h) life_ended κ.book.lives
        (fates_where (lives_on h) (λ f. fate.Stopped) κ.book.lives κ.fates) (λ x. (refl, refl))
        ∙ beside_fates strange (lives_on h) (λ f. fate.Stopped) κ.book.lives κ.fates
        ∙ ap
        (λ (xs : List Life). fates_where (lives_on h) (λ f. fate.Stopped) xs
        (beside_among strange κ.book.lives κ.fates)) same.lives
        ∙ ap (fates_where (lives_on h) (λ f. fate.Stopped) among.book.lives) same.fates;
    handed_each = same.handed_each ∙ sym (where_length (lives_on h) life_ended κ.book.lives);
    fate_each = fates_length (lives_on h) (λ f. fate.Stopped) κ.book.lives κ.fates ∙ same.fate_each
        ∙ sym (where_length (lives_on h) life_ended κ.book.lives);
  }
  crossed_both (crossing.Up h) κ among same = record {
    lives = same.lives;
    handed = same.handed;
    fates = same.fates;
    handed_each = same.handed_each;
    fate_each = same.fate_each;
  }
  crossed_both (crossing.Out m) κ among same = record {
    lives = same.lives;
    handed = same.handed;
    fates = same.fates;
    handed_each = same.handed_each;
    fate_each = same.fate_each;
  }
  crossed_both (crossing.In m) κ among same = record {
    lives = same.lives;
    handed = same.handed;
    fates = same.fates;
    handed_each = same.handed_each;
    fate_each = same.fate_each;
  }
  crossed_both (crossing.Answer kind f) κ among same = record {
    lives = same.lives;
    handed = same.handed;
    fates = same.fates;
    handed_each = same.handed_each;
    fate_each = same.fate_each;
  }

  -- a crossing of a stranger changes none of them
  pub crossed_aside : (c : Crossing) (κ among : Kept) → strange (host_in (Crossed c)) ≡ true → SameBook κ among
      → SameBook (crossed c κ) among
  crossed_aside (crossing.Down h) κ among on same = record {
    lives = aside_where (lives_on h) life_ended κ.book.lives (λ x. (refl, refl)) none ∙ same.lives;
    handed = beside_where strange (lives_on h) life_ended κ.book.lives κ.handed (λ x. (refl, refl)) ∙ same.handed;
    fates = beside_where strange (lives_on h) life_ended κ.book.lives
        (fates_where (lives_on h) (λ f. fate.Stopped) κ.book.lives κ.fates) (λ x. (refl, refl))
        ∙ aside_fates (lives_on h) (λ f. fate.Stopped) κ.book.lives κ.fates none ∙ same.fates;
    handed_each = same.handed_each ∙ sym (where_length (lives_on h) life_ended κ.book.lives);
    fate_each = fates_length (lives_on h) (λ f. fate.Stopped) κ.book.lives κ.fates ∙ same.fate_each
        ∙ sym (where_length (lives_on h) life_ended κ.book.lives);
  } where
    none : NoneOf (lives_on h) (lives_among strange κ.book.lives)
    none = none_among (lives_on h) κ.book.lives (λ x is. stranger_off h x.host (not x.ended) on (among_parts x is).0)
  crossed_aside (crossing.Up h) κ among on same = record {
    lives = same.lives;
    handed = same.handed;
    fates = same.fates;
    handed_each = same.handed_each;
    fate_each = same.fate_each;
  }
  crossed_aside (crossing.Out m) κ among on same = record {
    lives = same.lives;
    handed = same.handed;
    fates = same.fates;
    handed_each = same.handed_each;
    fate_each = same.fate_each;
  }
  crossed_aside (crossing.In m) κ among on same = record {
    lives = same.lives;
    handed = same.handed;
    fates = same.fates;
    handed_each = same.handed_each;
    fate_each = same.fate_each;
  }
  crossed_aside (crossing.Answer kind f) κ among on same = record {
    lives = same.lives;
    handed = same.handed;
    fates = same.fates;
    handed_each = same.handed_each;
    fate_each = same.fate_each;
  }

  -- ---- notices

  new_among : (h : Host) (socket : ℕ) (peer : Host) (foreign own partner : ℕ) → strange h ≡ false
      → strange peer ≡ false → is_among strange (new_life h socket peer foreign own partner) ≡ true
  new_among h socket peer foreign own partner off other = rw (off, other) refl

  -- lives that change by a notice, in both books
  both_where : (test : Life → Bool) (change : Life → Life) (κ among : Kept)
      → ((x : Life) → ((change x).host ≡ x.host) × ((change x).peer ≡ x.peer)) → SameBook κ among
      → lives_among strange (where_it test change κ.book.lives) ≡ where_it test change among.book.lives
  both_where test change κ among leaves same = among_where strange test change κ.book.lives leaves
      ∙ ap (where_it test change) same.lives

  both_fates : (test : Life → Bool) (change : Life → Life) (goes : Fate → Fate) (κ among : Kept)
      → ((x : Life) → ((change x).host ≡ x.host) × ((change x).peer ≡ x.peer)) → SameBook κ among
      → beside_among strange (where_it test change κ.book.lives) (fates_where test goes κ.book.lives κ.fates) ≡
      fates_where test goes among.book.lives among.fates
  both_fates test change goes κ among leaves same =
      beside_where strange test change κ.book.lives (fates_where test goes κ.book.lives κ.fates) leaves
      ∙ beside_fates strange test goes κ.book.lives κ.fates
      ∙ ap (λ (xs : List Life). fates_where test goes xs (beside_among strange κ.book.lives κ.fates)) same.lives
      ∙ ap (fates_where test goes among.book.lives) same.fates

  told_where : (h : Host) (n : Notice) (test : Life → Bool) (change : Life → Life) (κ among : Kept)
      → ((x : Life) → ((change x).host ≡ x.host) × ((change x).peer ≡ x.peer)) → SameBook κ among
      → SameBook (record κ { book = record κ.book { lives = where_it test change κ.book.lives } })
      (record among { book = record among.book { lives = where_it test change among.book.lives } })
  told_where h n test change κ among leaves same = record {
    lives = both_where test change κ among leaves same;
    handed = beside_where strange test change κ.book.lives κ.handed leaves ∙ same.handed;
    fates = beside_where strange test change κ.book.lives κ.fates leaves ∙ same.fates;
    handed_each = same.handed_each ∙ sym (where_length test change κ.book.lives);
    fate_each = same.fate_each ∙ sym (where_length test change κ.book.lives);
  }

  told_fates : (test : Life → Bool) (goes : Fate → Fate) (κ among : Kept) → SameBook κ among
      →
      SameBook
      (record κ {
        book = record κ.book { lives = where_it test life_ended κ.book.lives };
        fates = fates_where test
            goes κ.book.lives κ.fates;
      })
      (record among {
        book = record among.book { lives = where_it test life_ended among.book.lives };
        fates = fates_where test
            goes among.book.lives among.fates;
      })
  told_fates test goes κ among same = record {
    lives = both_where test life_ended κ among (λ x. (refl, refl)) same;
    handed = beside_where strange test life_ended κ.book.lives κ.handed (λ x. (refl, refl)) ∙ same.handed;
    fates = both_fates test life_ended goes κ among (λ x. (refl, refl)) same;
    handed_each = same.handed_each ∙ sym (where_length test life_ended κ.book.lives);
    fate_each = fates_length test goes κ.book.lives κ.fates ∙ same.fate_each
        ∙ sym (where_length test life_ended κ.book.lives);
  }

  -- only lives, what was handed over and fates matter
  as_kept : (κ k among m : Kept) → SameBook κ among → k.book.lives ≡ κ.book.lives → k.handed ≡ κ.handed
      → k.fates ≡ κ.fates → m.book.lives ≡ among.book.lives → m.handed ≡ among.handed → m.fates ≡ among.fates
      → SameBook k m
  as_kept κ k among m same l h f ml mh mf = record {
    lives = ap (lives_among strange) l ∙ same.lives ∙ sym ml;
    handed = ap (λ (xs : List Life). beside_among strange xs k.handed) l ∙ ap (beside_among strange κ.book.lives) h
        ∙ same.handed ∙ sym mh;
    fates = ap (λ (xs : List Life). beside_among strange xs k.fates) l ∙ ap (beside_among strange κ.book.lives) f
        ∙ same.fates ∙ sym mf;
    handed_each = ap (λ (xs : List (List Bool)). length xs) h ∙ same.handed_each
        ∙ ap (λ (xs : List Life). length xs) (sym l);
    fate_each = ap (λ (xs : List Fate). length xs) f ∙ same.fate_each ∙ ap (λ (xs : List Life). length xs) (sym l);
  }

  pub told_both : (h : Host) (n : Notice) (κ among : Kept) → strange h ≡ false → OpensAmong strange n
      → SameBook κ among → SameBook (book_told h n κ) (book_told h n among)
  told_both h (notice.Opened socket peer foreign own partner) κ among off opens same =
      let x : Life = new_life h socket peer foreign own partner in
      let is : is_among strange (new_life h socket peer foreign own partner) ≡ true = new_among h socket peer foreign
      own partner off opens in
      record {
        lives = among_more strange κ.book.lives (new_life h socket peer foreign own partner) is
            ∙ ap (λ (xs : List Life). xs ++ new_life h socket peer foreign own partner ∷ []) same.lives;
        handed = beside_more strange κ.book.lives κ.handed (new_life h socket peer foreign own partner) []
            same.handed_each is ∙ ap (λ (ts : List (List Bool)). ts ++ [] ∷ []) same.handed;
        fates = beside_more strange κ.book.lives κ.fates (new_life h socket peer foreign own partner) fate.Open
            same.fate_each is ∙ ap (λ (fs : List Fate). fs ++ fate.Open ∷ []) same.fates;
        handed_each = one_longer κ.book.lives κ.handed (new_life h socket peer foreign own partner) [] same.handed_each;
        fate_each = one_longer κ.book.lives κ.fates (new_life h socket peer foreign own partner) fate.Open
            same.fate_each;
      }
  told_both h (notice.Ended socket peer foreign) κ among off opens same = as_kept _ _ _ _
      (told_fates (lives_between h socket peer foreign) over_by_cls κ among same) refl refl refl refl refl refl
  told_both h (notice.PairReset peer) κ among off opens same = as_kept _ _ _ _
      (told_fates (lives_with h peer) (λ f. fate.Reset) κ among same) refl refl refl refl refl refl
  told_both h (notice.Sent socket bits) κ among off opens same = as_kept _ _ _ _
      (told_where h (notice.Sent socket bits) (lives_at h socket) (carried bits) κ among (λ x. (refl, refl)) same)
      refl refl refl refl refl refl
  told_both h (notice.Arrived socket bits) κ among off opens same = as_kept _ _ _ _
      (told_where h (notice.Arrived socket bits) (lives_at h socket) (carried bits) κ among (λ x. (refl, refl)) same)
      refl refl refl refl refl refl
  told_both h (notice.Returned socket messages bits) κ among off opens same =
      as_kept _ _ _ _
      (told_where h (notice.Returned socket messages bits) (lives_at h socket) (returned messages bits) κ among
      (λ x. (refl, refl)) same) refl refl refl refl refl refl
  told_both h (notice.Ready peer) κ among off opens same = as_kept κ _ among _ same refl refl refl refl refl refl
  told_both h (notice.ContactFailed peer) κ among off opens same = as_kept κ _ among _ same refl refl refl refl refl
      refl
  told_both h (notice.Interrupt socket) κ among off opens same = as_kept κ _ among _ same refl refl refl refl refl
      refl
  told_both h (notice.Echoed peer octet) κ among off opens same = as_kept κ _ among _ same refl refl refl refl refl
      refl
  told_both h (notice.RemoteError peer code detail) κ among off opens same = as_kept κ _ among _ same refl refl refl
      refl refl refl

  -- ---- notices that change none of them

  aside_lives : (test : Life → Bool) (change : Life → Life) (κ k among : Kept)
      → ((x : Life) → ((change x).host ≡ x.host) × ((change x).peer ≡ x.peer)) → NoneOf test among.book.lives
      → SameBook κ among
      → k.book.lives ≡ where_it test change κ.book.lives → k.handed ≡ κ.handed → k.fates ≡ κ.fates → SameBook k among
  aside_lives test change κ k among leaves none same l h f =
      let here : NoneOf test (lives_among strange κ.book.lives) = subst (NoneOf test) (sym same.lives) none in
      record {
        lives = ap (lives_among strange) l ∙ aside_where test change κ.book.lives leaves here ∙ same.lives;
        handed = ap (λ (xs : List Life). beside_among strange xs k.handed) l
            ∙ beside_where strange test change κ.book.lives k.handed leaves ∙ ap (beside_among strange κ.book.lives) h
            ∙ same.handed;
        fates = ap (λ (xs : List Life). beside_among strange xs k.fates) l
            ∙ beside_where strange test change κ.book.lives k.fates leaves ∙ ap (beside_among strange κ.book.lives) f
            ∙ same.fates;
        handed_each = ap (λ (xs : List (List Bool)). length xs) h ∙ same.handed_each
            ∙ sym (where_length test change κ.book.lives) ∙ ap (λ (xs : List Life). length xs) (sym l);
        fate_each = ap (λ (xs : List Fate). length xs) f ∙ same.fate_each
            ∙ sym (where_length test change κ.book.lives) ∙ ap (λ (xs : List Life). length xs) (sym l);
      }

  aside_ended : (test : Life → Bool) (goes : Fate → Fate) (κ k among : Kept)
      → NoneOf test (lives_among strange κ.book.lives) → SameBook κ among
      → k.book.lives ≡ where_it test life_ended κ.book.lives → k.handed ≡ κ.handed
      → k.fates ≡ fates_where test goes κ.book.lives κ.fates → SameBook k among
  aside_ended test goes κ k among none same l h f = record {
    lives = ap (lives_among strange) l ∙ aside_where test life_ended κ.book.lives (λ x. (refl, refl)) none ∙ same.lives;
    handed = ap (λ (xs : List Life). beside_among strange xs k.handed) l
        ∙ beside_where strange test life_ended κ.book.lives k.handed (λ x. (refl, refl))
        ∙ ap (beside_among strange κ.book.lives) h ∙ same.handed;
    fates = ap (λ (xs : List Life). beside_among strange xs k.fates) l
        ∙ beside_where strange test life_ended κ.book.lives k.fates (λ x. (refl, refl))
        ∙ ap (beside_among strange κ.book.lives) f
        ∙ aside_fates test goes κ.book.lives κ.fates none ∙ same.fates;
    handed_each = ap (λ (xs : List (List Bool)). length xs) h ∙ same.handed_each
        ∙ sym (where_length test life_ended κ.book.lives) ∙ ap (λ (xs : List Life). length xs) (sym l);
    fate_each = ap (λ (xs : List Fate). length xs) f ∙ fates_length test goes κ.book.lives κ.fates ∙ same.fate_each
        ∙ sym (where_length test life_ended κ.book.lives) ∙ ap (λ (xs : List Life). length xs) (sym l);
  }

  none_of : (h : Host) → strange h ≡ true → (test : Life → Bool)
      → ((x : Life) → same_host h x.host ≡ false → test x ≡ false)
      → (lives : List Life) → NoneOf test (lives_among strange lives)
  none_of h on test off lives = none_among test lives (λ x is. off x (same_host-sym h x.host ∙ other_host x.host h (among_parts x is).0 on))

  at_none : (h : Host) (socket : ℕ) (κ among : Kept) → strange h ≡ true → SameBook κ among
      → NoneOf (lives_at h socket) among.book.lives
  at_none h socket κ among on same = subst (NoneOf (lives_at h socket)) same.lives (none_of h on (lives_at h socket) (λ x off. rw off refl) κ.book.lives)

  -- an opening with a stranger, or of a stranger
  opened_aside : (h : Host) (socket : ℕ) (peer : Host) (foreign own partner : ℕ) (κ among : Kept)
      → is_among strange (new_life h socket peer foreign own partner) ≡ false → SameBook κ among
      → SameBook (book_told h (notice.Opened socket peer foreign own partner) κ) among
  opened_aside h socket peer foreign own partner κ among off same = record {
    lives = among_other strange κ.book.lives (new_life h socket peer foreign own partner) off ∙ same.lives;
    handed = beside_other strange κ.book.lives κ.handed (new_life h socket peer foreign own partner) [] same.handed_each off ∙ same.handed;
    fates = beside_other strange κ.book.lives κ.fates (new_life h socket peer foreign own partner) fate.Open same.fate_each off ∙ same.fates;
    handed_each = one_longer κ.book.lives κ.handed (new_life h socket peer foreign own partner) [] same.handed_each;
    fate_each = one_longer κ.book.lives κ.fates (new_life h socket peer foreign own partner) fate.Open same.fate_each;
  }

  -- what a stranger's user would be notified of
  told_aside : (h : Host) (n : Notice) (κ among : Kept) → strange h ≡ true → SameBook κ among
      → SameBook (book_told h n κ) among
  told_aside h (notice.Opened socket peer foreign own partner) κ among on same =
      opened_aside h socket peer foreign own partner κ among (ap (λ (b : Bool). not b && not (strange peer)) on) same
  told_aside h (notice.Ended socket peer foreign) κ among on same =
      aside_ended (lives_between h socket peer foreign) over_by_cls κ _ among (none_of h on (lives_between h socket peer foreign) (λ x off. rw off refl) κ.book.lives) same refl refl refl
  told_aside h (notice.PairReset peer) κ among on same =
      aside_ended (lives_with h peer) (λ f. fate.Reset) κ _ among (none_of h on (lives_with h peer) (λ x off. rw off refl) κ.book.lives) same refl refl refl
  told_aside h (notice.Sent socket bits) κ among on same =
      aside_lives (lives_at h socket) (carried bits) κ _ among (λ x. (refl, refl)) (at_none h socket κ among on same) same refl refl refl
  told_aside h (notice.Arrived socket bits) κ among on same =
      aside_lives (lives_at h socket) (carried bits) κ _ among (λ x. (refl, refl)) (at_none h socket κ among on same) same refl refl refl
  told_aside h (notice.Returned socket messages bits) κ among on same =
      aside_lives (lives_at h socket) (returned messages bits) κ _ among (λ x. (refl, refl)) (at_none h socket κ among on same) same refl refl refl
  told_aside h (notice.Ready peer) κ among on same = as_kept κ _ among among same refl refl refl refl refl refl
  told_aside h (notice.ContactFailed peer) κ among on same = as_kept κ _ among among same refl refl refl refl refl refl
  told_aside h (notice.Interrupt socket) κ among on same = as_kept κ _ among among same refl refl refl refl refl refl
  told_aside h (notice.Echoed peer octet) κ among on same = as_kept κ _ among among same refl refl refl refl refl refl
  told_aside h (notice.RemoteError peer code detail) κ among on same = as_kept κ _ among among same refl refl refl refl refl refl

  all_aside : (h : Host) (ns : List Notice) (κ among : Kept) → strange h ≡ true → SameBook κ among
      → SameBook (all_told h ns κ) among
  all_aside h [] κ among on same = same
  all_aside h (n ∷ ns) κ among on same = all_aside h ns (book_told h n κ) among on (told_aside h n κ among on same)

  -- ---- requests

  pub asked_both : (h : Host) (r : Request) (κ among : Kept) → SameBook κ among
      → SameBook (asked h r κ) (asked h r among)
  asked_both h (request.Grant socket messages bits) κ among same =
      as_kept _ _ _ _
      (told_where h (notice.Interrupt socket) (lives_at h socket) (granted messages bits) κ among (λ x. (refl, refl))
      same) refl refl refl refl refl refl
  asked_both h (request.Send socket bits) κ among same = record {
    lives = same.lives;
    handed = beside_handed strange (lives_at h socket) bits κ.book.lives κ.handed
        ∙ ap (λ (xs : List Life). handed_to (lives_at h socket) bits xs (beside_among strange κ.book.lives κ.handed))
        same.lives ∙ ap (handed_to (lives_at h socket) bits among.book.lives) same.handed;
    fates = same.fates;
    handed_each = handed_length (lives_at h socket) bits κ.book.lives κ.handed ∙ same.handed_each;
    fate_each = same.fate_each;
  }
  asked_both h (request.Close socket) κ among same = record {
    lives = same.lives;
    handed = same.handed;
    fates = beside_fates strange (lives_at h socket) closing κ.book.lives κ.fates
        ∙ ap
        (λ (xs : List Life). fates_where (lives_at h socket) closing xs (beside_among strange κ.book.lives κ.fates))
        same.lives ∙ ap (fates_where (lives_at h socket) closing among.book.lives) same.fates;
    handed_each = same.handed_each;
    fate_each = fates_length (lives_at h socket) closing κ.book.lives κ.fates ∙ same.fate_each;
  }
  asked_both h (request.Contact peer) κ among same = as_kept κ _ among _ same refl refl refl refl refl refl
  asked_both h (request.Listen socket size) κ among same = as_kept κ _ among _ same refl refl refl refl refl refl
  asked_both h (request.OpenSend peer own foreign size) κ among same = as_kept κ _ among _ same refl refl refl refl
      refl refl
  asked_both h (request.OpenReceive peer own foreign) κ among same = as_kept κ _ among _ same refl refl refl refl
      refl refl
  asked_both h (request.AskBack socket messages bits) κ among same = as_kept κ _ among _ same refl refl refl refl
      refl refl
  asked_both h (request.Interrupt socket) κ among same = as_kept κ _ among _ same refl refl refl refl refl refl
  asked_both h (request.Echo peer octet) κ among same = as_kept κ _ among _ same refl refl refl refl refl refl

  -- the socket of a request that changes a life, what was handed over in it or its fate
  abbrev pub AsksOf : Request → ℕ → Type 0
  AsksOf (request.Grant socket messages bits) k = socket ≡ k
  AsksOf (request.Send socket bits) k = socket ≡ k
  AsksOf (request.Close socket) k = socket ≡ k
  AsksOf r k = ⊥

  pub asked_aside : (h : Host) (r : Request) (κ among : Kept)
      → ((k : ℕ) → AsksOf r k → NoneOf (lives_at h k) among.book.lives) → SameBook κ among
      → SameBook (asked h r κ) among
  asked_aside h (request.Grant socket messages bits) κ among none same = aside_lives (lives_at h socket)
      (granted messages bits) κ _ among (λ x. (refl, refl)) (none socket refl) same refl refl refl
  asked_aside h (request.Send socket bits) κ among none same =
      let here : NoneOf (lives_at h socket) (lives_among strange κ.book.lives) = subst (NoneOf (lives_at h socket))
      (sym same.lives) (none socket refl) in
      record {
        lives = same.lives;
        handed = beside_handed strange (lives_at h socket) bits κ.book.lives κ.handed
            ∙ handed_none (lives_at h socket) bits (lives_among strange κ.book.lives)
            (beside_among strange κ.book.lives κ.handed) here ∙ same.handed;
        fates = same.fates;
        handed_each = handed_length (lives_at h socket) bits κ.book.lives κ.handed ∙ same.handed_each;
        fate_each = same.fate_each;
      }
  asked_aside h (request.Close socket) κ among none same =
      let here : NoneOf (lives_at h socket) (lives_among strange κ.book.lives) = subst (NoneOf (lives_at h socket))
      (sym same.lives) (none socket refl) in
      record {
        lives = same.lives;
        handed = same.handed;
        fates = aside_fates (lives_at h socket) closing κ.book.lives κ.fates here ∙ same.fates;
        handed_each = same.handed_each;
        fate_each = fates_length (lives_at h socket) closing κ.book.lives κ.fates ∙ same.fate_each;
      }
  asked_aside h (request.Contact peer) κ among none same = as_kept κ _ among among same refl refl refl refl refl refl
  asked_aside h (request.Listen socket size) κ among none same = as_kept κ _ among among same refl refl refl refl
      refl refl
  asked_aside h (request.OpenSend peer own foreign size) κ among none same = as_kept κ _ among among same refl refl
      refl refl refl refl
  asked_aside h (request.OpenReceive peer own foreign) κ among none same = as_kept κ _ among among same refl refl
      refl refl refl refl
  asked_aside h (request.AskBack socket messages bits) κ among none same = as_kept κ _ among among same refl refl
      refl refl refl refl
  asked_aside h (request.Interrupt socket) κ among none same = as_kept κ _ among among same refl refl refl refl
      refl refl
  asked_aside h (request.Echo peer octet) κ among none same = as_kept κ _ among among same refl refl refl refl refl
      refl

  -- ---- two books

  -- they have the same lives, with what was handed over in these and their fates
  pub record Alike (k κ : Kept) : Type 0 where
    pub among : Kept
    pub one : SameBook k among
    pub other : SameBook κ among

  told_so : (h : Host) (n : Notice) (k κ : Kept) → strange h ≡ false → OpensAmong strange n → Alike k κ
      → Alike (book_told h n k) (book_told h n κ)
  told_so h n k κ off opens a = record { among = book_told h n a.among; one = told_both h n k a.among off opens a.one; other = told_both h n κ a.among off opens a.other }

  told_alike : (h : Host) (n : Notice) (k κ : Kept) → strange h ≡ false → Alike k κ
      → Alike (book_told h n k) (book_told h n κ)
  told_alike h (notice.Opened socket peer foreign own partner) k κ off a = by (strange peer) refl where
    n : Notice
    n = notice.Opened socket peer foreign own partner

    outside : (b : Bool) → (not b && false) ≡ false
    outside true = refl
    outside false = refl

    by : (b : Bool) → strange peer ≡ b
        → Alike (book_told h (notice.Opened socket peer foreign own partner) k) (book_told h (notice.Opened socket peer foreign own partner) κ)
    by false plain = record { among = book_told h n a.among; one = told_both h n k a.among off plain a.one; other = told_both h n κ a.among off plain a.other }
    by true on =
        let away : is_among strange (new_life h socket peer foreign own partner) ≡ false = ap (λ (b : Bool). not (strange h) && not b) on ∙ outside (strange h) in
        record { among = a.among; one = opened_aside h socket peer foreign own partner k a.among away a.one; other = opened_aside h socket peer foreign own partner κ a.among away a.other }
  told_alike h (notice.Ended socket peer foreign) k κ off a = told_so h (notice.Ended socket peer foreign) k κ off tt a
  told_alike h (notice.PairReset peer) k κ off a = told_so h (notice.PairReset peer) k κ off tt a
  told_alike h (notice.Sent socket bits) k κ off a = told_so h (notice.Sent socket bits) k κ off tt a
  told_alike h (notice.Arrived socket bits) k κ off a = told_so h (notice.Arrived socket bits) k κ off tt a
  told_alike h (notice.Returned socket messages bits) k κ off a = told_so h (notice.Returned socket messages bits) k κ off tt a
  told_alike h (notice.Ready peer) k κ off a = told_so h (notice.Ready peer) k κ off tt a
  told_alike h (notice.ContactFailed peer) k κ off a = told_so h (notice.ContactFailed peer) k κ off tt a
  told_alike h (notice.Interrupt socket) k κ off a = told_so h (notice.Interrupt socket) k κ off tt a
  told_alike h (notice.Echoed peer octet) k κ off a = told_so h (notice.Echoed peer octet) k κ off tt a
  told_alike h (notice.RemoteError peer code detail) k κ off a = told_so h (notice.RemoteError peer code detail) k κ off tt a

  all_alike : (h : Host) (ns : List Notice) (k κ : Kept) → strange h ≡ false → Alike k κ
      → Alike (all_told h ns k) (all_told h ns κ)
  all_alike h [] k κ off a = a
  all_alike h (n ∷ ns) k κ off a = all_alike h ns (book_told h n k) (book_told h n κ) off (told_alike h n k κ off a)

  by_alike : (y : Moment) (k κ : Kept) → Alike k κ → Alike (kept_by y k) (kept_by y κ)
  by_alike (Crossed c) k κ a = record { among = crossed c a.among; one = crossed_both c k a.among a.one; other = crossed_both c κ a.among a.other }
  by_alike (Asked h r) k κ a = record { among = asked h r a.among; one = asked_both h r k a.among a.one; other = asked_both h r κ a.among a.other }

  by_aside : (y : Moment) (κ among : Kept) → strange (host_in y) ≡ true → SameBook κ among
      → SameBook (kept_by y κ) among
  by_aside (Crossed c) κ among on same = crossed_aside c κ among on same
  by_aside (Asked h r) κ among on same = asked_aside h r κ among (λ k asks. at_none h k κ among on same) same

  only_aside : (y : Moment) (κ among : Kept) → strange (host_in y) ≡ true → SameBook κ among
      → SameBook (crossed_only y κ) among
  only_aside (Crossed c) κ among on same = crossed_aside c κ among on same
  only_aside (Asked h r) κ among on same = same

  -- what each host would report, and the book of a network, in which strangers report nothing
  alike : (ms : List Moment) → Alike (kept_in ms) (mixed_kept strange ms)
  alike [] = record { among = opening_kept; one = none_yet; other = none_yet } where
    none_yet : SameBook opening_kept opening_kept
    none_yet = record { lives = refl; handed = refl; fates = refl; handed_each = refl; fate_each = refl }
  alike (y ∷ ms) = by (strange (host_in y)) refl (alike ms) where
    by : (b : Bool) → strange (host_in y) ≡ b → Alike (kept_in ms) (mixed_kept strange ms)
        → Alike (kept_in (y ∷ ms)) (if b then crossed_only y (mixed_kept strange ms) else all_told (host_in y) (notices_by y ms) (kept_by y (mixed_kept strange ms)))
    by true on a = record {
      among = a.among;
      one = all_aside (host_in y) (notices_by y ms) (kept_by y (kept_in ms)) a.among on (by_aside y (kept_in ms) a.among on a.one);
      other = only_aside y (mixed_kept strange ms) a.among on a.other;
    }
    by false off a = all_alike (host_in y) (notices_by y ms) (kept_by y (kept_in ms)) (kept_by y (mixed_kept strange ms)) off (by_alike y (kept_in ms) (mixed_kept strange ms) a)

  pub same_lives : (ms : List Moment)
      → lives_among strange (kept_in ms).book.lives ≡ lives_among strange (mixed_kept strange ms).book.lives
  same_lives ms = (alike ms).one.lives ∙ sym (alike ms).other.lives

  pub same_handed : (ms : List Moment)
      → beside_among strange (kept_in ms).book.lives (kept_in ms).handed ≡ beside_among strange (mixed_kept strange ms).book.lives (mixed_kept strange ms).handed
  same_handed ms = (alike ms).one.handed ∙ sym (alike ms).other.handed

  pub same_fates : (ms : List Moment)
      → beside_among strange (kept_in ms).book.lives (kept_in ms).fates ≡ beside_among strange (mixed_kept strange ms).book.lives (mixed_kept strange ms).fates
  same_fates ms = (alike ms).one.fates ∙ sym (alike ms).other.fates
