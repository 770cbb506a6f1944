-- A moment at which a host that keeps its ends with its peer makes one call with it, or none: what the law and the program have of the calls is had from all moments.
use Rattle.world_keeps_streams.proofs.Common.{◌≡◌, inl, inr, ℕ, zero, suc, ◌==◌, Bool, true, false, List, [], ◌∷◌, ◌++◌, drop, refl, ap, sym, subst, ◌∙◌, Host, Entry, AreAllowed, IsHistory, IsTelling, ends_now, pair_with, changed_when, where_it, HaveAddresses, Moment, event_in, events_of, program, crossings_of, AreRefusing, keeps, mail_below, calls_by, own_calls, Happened, Network, AreOurs}
use Rattle.interface.specs.Mailboxes as mail
use Rattle.host_keeps_streams.specs.Histories as calls
use Rattle.promise.specs.declared.life.Life.{Life}
use Rattle.net_sim.specs.Told.{kept_in}
use Rattle.world_keeps_streams.proofs.Deeds.Effects.{Among}
use Rattle.world_keeps_streams.proofs.Deeds.Kinds.{deed_of}
use Rattle.world_keeps_streams.proofs.Deeds.Told.{After}
use Rattle.world_keeps_streams.proofs.Deeds.Ends.{Fits}
use Rattle.world_keeps_streams.proofs.Carried.Calls.{Carries, recent, since}
use Rattle.world_keeps_streams.proofs.Carried.Heard.{AllAllowed}
use Rattle.world_keeps_streams.proofs.Carried.Moments.{single_next}
use Rattle.world_keeps_streams.proofs.Carried.Still.{AreIn, still_next}
use Rattle.world_keeps_streams.proofs.Calls.Chain.{chain}
use Rattle.world_keeps_streams.proofs.Ours.{held}

-- ---- a change of lives that are of others

module _ (a b : Host) (test : Life → Bool) (change : Life → Life) where
  -- none of these two is changed
  abbrev pub IsOff : List Life → Type 0
  IsOff ls = (x : Life) → Among x ls → x.host ≡ a → x.peer ≡ b → test x ≡ false

  where_forth : (n : ℕ) (ls : List Life) → IsOff ls → AreIn a b (drop n ls) (drop n (where_it test change ls))
  where_forth zero [] off x host peer there = absurd there
  where_forth zero (y ∷ ys) off x host peer (inl is) =
      let same : changed_when (test y) change y ≡ y = ap (λ (v : Bool). changed_when v change y) (off y (inl refl) (ap (λ (z : Life). z.host) is ∙ host) (ap (λ (z : Life). z.peer) is ∙ peer)) in
      inl (same ∙ is)
  where_forth zero (y ∷ ys) off x host peer (inr there) = inr (where_forth zero ys (λ z i. off z (inr i)) x host peer there)
  where_forth (suc n) [] off x host peer there = absurd there
  where_forth (suc n) (y ∷ ys) off x host peer there = where_forth n ys (λ z i. off z (inr i)) x host peer there

  module _ (kept : (x : Life) → ((change x).host ≡ x.host) × ((change x).peer ≡ x.peer)) where
    kept_when : (v : Bool) (x : Life) → ((changed_when v change x).host ≡ x.host) × ((changed_when v change x).peer ≡ x.peer)
    kept_when true x = kept x
    kept_when false x = (refl, refl)

    where_back : (n : ℕ) (ls : List Life) → IsOff ls → AreIn a b (drop n (where_it test change ls)) (drop n ls)
    where_back zero [] off x host peer there = absurd there
    where_back zero (y ∷ ys) off x host peer (inl is) =
        let its_host : y.host ≡ a = sym (kept_when (test y) y).0 ∙ ap (λ (z : Life). z.host) is ∙ host in
        let its_peer : y.peer ≡ b = sym (kept_when (test y) y).1 ∙ ap (λ (z : Life). z.peer) is ∙ peer in
        let same : changed_when (test y) change y ≡ y = ap (λ (v : Bool). changed_when v change y) (off y (inl refl) its_host its_peer) in
        inl (sym same ∙ is)
    where_back zero (y ∷ ys) off x host peer (inr there) = inr (where_back zero ys (λ z i. off z (inr i)) x host peer there)
    where_back (suc n) [] off x host peer there = absurd there
    where_back (suc n) (y ∷ ys) off x host peer there = where_back n ys (λ z i. off z (inr i)) x host peer there

-- ---- one call, or none

module _ (number : ℕ → ℕ → ℕ → ℕ) (tells : IsTelling number) (hosts : Network) (addresses : HaveAddresses hosts.all) (a b : Host) (ours : AreOurs hosts a b)
    (allowed : (ms : List Moment) → mail.IsRun hosts.all (crossings_of ms) → Happened hosts ms → (link : ℕ) → (link == 0) ≡ false → AreAllowed number b link (own_calls a b ms)) where
  module _ (x : Moment) (ms : List Moment) (run : mail.IsRun hosts.all (crossings_of (x ∷ ms)))
      (time : Happened hosts (x ∷ ms)) (on : keeps a b (event_in x) (events_of ms) ≡ true) where
    below : mail.IsRun hosts.all (crossings_of ms)
    below = mail_below hosts.all x ms run

    own : (cs : List calls.Moment) → calls_by a b x ms ≡ cs → own_calls a b (x ∷ ms) ≡ cs ++ own_calls a b ms
    own cs is = rw on (ap (λ (ys : List calls.Moment). ys ++ own_calls a b ms) is)

    chained : (cs : List calls.Moment) → calls_by a b x ms ≡ cs → IsHistory b (cs ++ own_calls a b ms) × (ends_now b (cs ++ own_calls a b ms) ≡ (pair_with b (program a (x ∷ ms)).peers).entries)
    chained cs is = subst (λ (ys : List calls.Moment). IsHistory b ys × (ends_now b ys ≡ (pair_with b (program a (x ∷ ms)).peers).entries)) (own cs is) (chain hosts addresses (x ∷ ms) run time a b ours)

    pub call_kept : (m : calls.Moment) → calls_by a b x ms ≡ m ∷ [] → m.pair.entries ≡ (pair_with b (program a ms).peers).entries → Fits m.call m.pair
        → (kept_in (x ∷ ms)).book.lives ≡ After a b (deed_of m.call m.pair) (kept_in ms).book.lives → Carries number a b ms → Carries number a b (x ∷ ms)
    call_kept m is pair fits told c =
        single_next number tells hosts a b ours x ms addresses run time below time.1 on m is pair (chained (m ∷ []) is).1 (chained (m ∷ []) is).0 may
        (subst (λ (es : List Entry). AreRefusing es) (sym pair) ((held a 0 hosts addresses ours.0 ms below time.1).steady.refusing b)) fits told c where
          may : AllAllowed number tells a b (m ∷ own_calls a b ms)
          may link other = subst (λ (ys : List calls.Moment). AreAllowed number b link ys) (own (m ∷ []) is) (allowed (x ∷ ms) run time link other)

    pub nothing_kept : calls_by a b x ms ≡ [] → AreIn a b (recent a b ms) (drop (since a b ms) (kept_in (x ∷ ms)).book.lives) → AreIn a b (drop (since a b ms) (kept_in (x ∷ ms)).book.lives) (recent a b ms)
        → Carries number a b ms → Carries number a b (x ∷ ms)
    nothing_kept is forth back c = still_next number a b x ms on is (sym (chained [] is).1 ∙ (chain hosts addresses ms below time.1 a b ours).1) forth back c

    -- where the book's lives are as they were
    pub unchanged_kept : calls_by a b x ms ≡ [] → (kept_in (x ∷ ms)).book.lives ≡ (kept_in ms).book.lives → Carries number a b ms → Carries number a b (x ∷ ms)
    unchanged_kept is same c =
        nothing_kept is (subst (λ (ls : List Life). AreIn a b (recent a b ms) (drop (since a b ms) ls)) (sym same) (λ y host peer there. there))
        (subst (λ (ls : List Life). AreIn a b (drop (since a b ms) ls) (recent a b ms)) (sym same) (λ y host peer there. there)) c

    -- where some lives of others are changed
    pub others_kept : calls_by a b x ms ≡ [] → (test : Life → Bool) (change : Life → Life) → ((y : Life) → ((change y).host ≡ y.host) × ((change y).peer ≡ y.peer)) → IsOff a b test change (kept_in ms).book.lives
        → (kept_in (x ∷ ms)).book.lives ≡ where_it test change (kept_in ms).book.lives → Carries number a b ms → Carries number a b (x ∷ ms)
    others_kept is test change kept off same c =
        nothing_kept is (subst (λ (ls : List Life). AreIn a b (recent a b ms) (drop (since a b ms) ls)) (sym same) (where_forth a b test change (since a b ms) (kept_in ms).book.lives off))
        (subst (λ (ls : List Life). AreIn a b (drop (since a b ms) ls) (recent a b ms)) (sym same) (where_back a b test change kept (since a b ms) (kept_in ms).book.lives off)) c
