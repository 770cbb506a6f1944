-- The lives of a book at two sockets: notices begin them, and nothing renames them.
use Rattle.world_keeps_pairing.proofs.Common.{same_host-true, sym, ◌≡◌, ℕ, ◌==◌, Bool, true, false, ◌&&◌, if◌then◌else◌, List, [], ◌∷◌, ◌++◌, refl, ap, ◌∙◌, Host, same_host, Crossing, is_ready, NcpState, pair_with, Request, Moment, Crossed, Asked, Network}
use Rattle.host_keeps_pairing.specs.Openings.{with_openings, with_opening}
use Rattle.net_sim.specs.Book.{Kept, all_told, changed_when, life_ended, carried, granted, returned, lives_asked, lives_at, lives_between, lives_crossed, lives_on, lives_told, lives_with, new_life, book_told, where_it}
use Rattle.net_sim.specs.Told.{host_in, notices_by, kept_by}
use Rattle.world_keeps_pairing.specs.Lives.{with_life, with_lives}
use Rattle.interface.specs.declared.crossing.Crossing.TheVariants as crossing
use Rattle.host_pairs.specs.About.{AreAbout, IsAbout}
use Rattle.host_pairs.specs.declared.notice.Notice.{Notice}
use Rattle.host_pairs.specs.declared.notice.Notice.TheVariants as notice
use Rattle.sockets.specs.Requests.{served_notices}
use Rattle.sockets.specs.declared.request.Request.TheVariants as request
use Rattle.pairing_law.specs.Sides.{Life}
use Rattle.promise.specs.declared.life.Life as book
use Rattle.net_sim.specs.Mixed.{crossed_only, mixed_kept}

if_same : (b : Bool) (told : List Life) → told ≡ (if b then told else told)
if_same true told = refl
if_same false told = refl

if_both : (a b : Bool) (x : Life) (told : List Life) → (if a && b then x ∷ told else told) ≡ (if a then (if b then x ∷ told else told) else told)
if_both true b x told = refl
if_both false b x told = refl

module _ (origin : ℕ → ℕ) (h p : Host) (own foreign : ℕ) where
  -- the lives at these two sockets
  abbrev pub Here : List book.Life → List Life
  Here written = with_lives origin h p own foreign written []

  lives_append : (xs : List book.Life) (x : book.Life) (told : List Life) → with_lives origin h p own foreign (xs ++ x ∷ []) told ≡ with_life origin h p own foreign x (with_lives origin h p own foreign xs told)
  lives_append [] x told = refl
  lives_append (y ∷ xs) x told = lives_append xs x (with_life origin h p own foreign y told)

  -- ---- what changes a life leaves its name

  abbrev Keeps : (book.Life → book.Life) → Type 0
  Keeps change = (x : book.Life) (told : List Life) → with_life origin h p own foreign (change x) told ≡ with_life origin h p own foreign x told

  changed_if : (b : Bool) (change : book.Life → book.Life) → Keeps change → (x : book.Life) (told : List Life) → with_life origin h p own foreign (changed_when b change x) told ≡ with_life origin h p own foreign x told
  changed_if true change k x told = k x told
  changed_if false change k x told = refl

  where_same : (test : book.Life → Bool) (change : book.Life → book.Life) → Keeps change → (xs : List book.Life) (told : List Life) → with_lives origin h p own foreign (where_it test change xs) told ≡ with_lives origin h p own foreign xs told
  where_same test change k [] told = refl
  where_same test change k (x ∷ xs) told =
      ap (λ (ts : List Life). with_lives origin h p own foreign (where_it test change xs) ts) (changed_if _ change k x told)
      ∙ where_same test change k xs (with_life origin h p own foreign x told)

  -- ---- a notice

  -- what a notice of this host reports of the peer
  abbrev pub of_peer : Notice → List Life → List Life
  of_peer (notice.Opened socket peer other asked partner) told =
      if same_host p peer && (socket == own && other == foreign) then record { own = asked; partner = origin partner } ∷ told else told
  of_peer n told = told

  abbrev pub all_of_peer : List Notice → List Life → List Life
  all_of_peer [] told = told
  all_of_peer (n ∷ ns) told = all_of_peer ns (of_peer n told)

  notice_lives : (g : Host) (n : Notice) (xs : List book.Life) → Here (lives_told g n xs) ≡ (if same_host h g then of_peer n (Here xs) else Here xs)
  notice_lives g (notice.Opened socket peer other asked partner) xs =
      lives_append xs _ []
      ∙ if_both _ _ _ (Here xs)
  notice_lives g (notice.Ended socket peer other) xs = where_same _ life_ended (λ x told. refl) xs [] ∙ if_same _ _
  notice_lives g (notice.PairReset peer) xs = where_same _ life_ended (λ x told. refl) xs [] ∙ if_same _ _
  notice_lives g (notice.Sent socket bits) xs = where_same _ _ (λ x told. refl) xs [] ∙ if_same _ _
  notice_lives g (notice.Arrived socket bits) xs = where_same _ _ (λ x told. refl) xs [] ∙ if_same _ _
  notice_lives g (notice.Returned socket messages bits) xs = where_same _ _ (λ x told. refl) xs [] ∙ if_same _ _
  notice_lives g n xs = if_same _ _

  told_on : (b : Bool) (n : Notice) (ns : List Notice) (new old : List Life) → new ≡ (if b then of_peer n old else old) → (if b then all_of_peer ns new else new) ≡ (if b then all_of_peer (n ∷ ns) old else old)
  told_on true n ns new old e = ap (all_of_peer ns) e
  told_on false n ns new old e = e

  told_lives : (g : Host) (ns : List Notice) (k : Kept) → Here (all_told g ns k).book.lives ≡ (if same_host h g then all_of_peer ns (Here k.book.lives) else Here k.book.lives)
  told_lives g [] k = if_same _ _
  told_lives g (n ∷ ns) k =
      told_lives g ns (book_told g n k) ∙ told_on _ n ns _ _ (notice_lives g n _)

  -- ---- a moment

  crossed_same : (c : Crossing) (xs : List book.Life) → Here (lives_crossed c xs) ≡ Here xs
  crossed_same (crossing.Down g) xs = where_same _ life_ended (λ x told. refl) xs []
  crossed_same c xs = refl

  asked_same : (g : Host) (r : Request) (xs : List book.Life) → Here (lives_asked g r xs) ≡ Here xs
  asked_same g (request.Grant socket messages bits) xs = where_same _ _ (λ x told. refl) xs []
  asked_same g r xs = refl

  by_same : (x : Moment) (k : Kept) → Here (kept_by x k).book.lives ≡ Here k.book.lives
  by_same (Crossed c) k = crossed_same c _
  by_same (Asked g r) k = asked_same g r _

  -- the lives at these two sockets after one moment more
  pub kept_step : (hosts : Network) → hosts.strange h ≡ false → (x : Moment) (moments : List Moment) → Here (mixed_kept hosts.strange (x ∷ moments)).book.lives
      ≡ (if same_host h (host_in x) then all_of_peer (notices_by x moments) (Here (mixed_kept hosts.strange moments).book.lives) else Here (mixed_kept hosts.strange moments).book.lives)
  kept_step hosts off x moments = by (hosts.strange (host_in x)) refl where
    κ : Kept
    κ = mixed_kept hosts.strange moments

    only : (y : Moment) → Here (crossed_only y (mixed_kept hosts.strange moments)).book.lives ≡ Here (mixed_kept hosts.strange moments).book.lives
    only (Crossed c) = crossed_same c (mixed_kept hosts.strange moments).book.lives
    only _ = refl

    away : (c : Bool) → same_host h (host_in x) ≡ c → hosts.strange (host_in x) ≡ true → c ≡ false
    away true e on = absurd (let no : true ≡ false = sym on ∙ ap hosts.strange (sym (same_host-true h _ e)) ∙ off in cc)
    away false e on = refl

    by : (b : Bool) → hosts.strange (host_in x) ≡ b
        → Here (if b then crossed_only x (mixed_kept hosts.strange moments) else all_told (host_in x) (notices_by x moments) (kept_by x (mixed_kept hosts.strange moments))).book.lives
        ≡ (if same_host h (host_in x) then all_of_peer (notices_by x moments) (Here (mixed_kept hosts.strange moments).book.lives) else Here (mixed_kept hosts.strange moments).book.lives)
    by true on = only x ∙ sym (ap (λ (c : Bool). if c then all_of_peer (notices_by x moments) (Here (mixed_kept hosts.strange moments).book.lives) else Here (mixed_kept hosts.strange moments).book.lives) (away _ refl on))
    by false apart =
        told_lives _ (notices_by x moments) _
        ∙ ap (λ (ts : List Life). if same_host h (host_in x) then all_of_peer (notices_by x moments) ts else ts) (by_same x _)

  -- ---- whom notices are about

  one_about : (q : Host) (n : Notice) (told : List Life) → IsAbout q n → same_host p q ≡ true → of_peer n told ≡ with_opening origin own foreign n told
  one_about q (notice.Opened socket peer other asked partner) told about same =
      ap (λ (b : Bool). if b && (socket == own && other == foreign) then record { own = asked; partner = origin partner } ∷ told else told) (ap (same_host p) about ∙ same)
  one_about q n told about same = refl

  one_other : (q : Host) (n : Notice) (told : List Life) → IsAbout q n → same_host p q ≡ false → of_peer n told ≡ told
  one_other q (notice.Opened socket peer other asked partner) told about away =
      ap (λ (b : Bool). if b && (socket == own && other == foreign) then record { own = asked; partner = origin partner } ∷ told else told) (ap (same_host p) about ∙ away)
  one_other q n told about away = refl

  -- those about this peer are what the program reported of the two sockets, and those about another none
  pub about_peer : (q : Host) (ns : List Notice) (told : List Life) → AreAbout q ns → same_host p q ≡ true → all_of_peer ns told ≡ with_openings origin own foreign ns told
  about_peer q [] told about same = refl
  about_peer q (n ∷ ns) told about same =
      ap (all_of_peer ns) (one_about q n told about.0 same) ∙ about_peer q ns (with_opening origin own foreign n told) about.1 same

  pub about_other : (q : Host) (ns : List Notice) (told : List Life) → AreAbout q ns → same_host p q ≡ false → all_of_peer ns told ≡ told
  about_other q [] told about away = refl
  about_other q (n ∷ ns) told about away = ap (all_of_peer ns) (one_other q n told about.0 away) ∙ about_other q ns told about.1 away

  -- notices that report no opening
  pub about_none : (q : Host) (ns : List Notice) (told : List Life) → AreAbout q ns → with_openings origin own foreign ns told ≡ told → all_of_peer ns told ≡ told
  about_none q ns told about none = by (same_host p q) refl where
    by : (b : Bool) → same_host p q ≡ b → all_of_peer ns told ≡ told
    by true e = about_peer q ns told about e ∙ none
    by false e = about_other q ns told about e

  contact_none : (peer : Host) (b : Bool) (told : List Life) → all_of_peer (if b then notice.PairReset peer ∷ [] else []) told ≡ told
  contact_none peer true told = refl
  contact_none peer false told = refl

  -- what a user asks for reports none
  pub asked_none : (s : NcpState) (r : Request) (told : List Life) → all_of_peer (served_notices s r) told ≡ told
  unfolding served_notices
  asked_none s (request.Contact peer) told = contact_none peer _ told
  asked_none s r told = refl
