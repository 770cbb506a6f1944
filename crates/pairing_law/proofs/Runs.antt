-- What is heard, where a host leaves and where both meet; and so through every list of events.
use Rattle.std.proofs.Common.{◌≡◌, ◌≢◌, ℕ, ◌<◌, ◌≤◌, Bool, true, false, List, [], ◌∷◌, Option, Some, None, refl, ap, sym, subst, ◌∙◌, inl, inr, if◌then◌else◌, arith}
use Rattle.std.proofs.lemmas.Option.{same_Some}
use Rattle.pairing_law.specs.Marks.{Mark, Ask, Close, IsOlder}
use Rattle.pairing_law.specs.Ends.{End, nothing, MayGo, gone, fits, mark_taken}
use Rattle.pairing_law.specs.Sides.{Life, Side, opening_side, lives_opened, lives_gone, lives_taken, Move, Say, Hear, Leave, above, says, hears, leaves, moved, IsLater, May, Event, One, Two, Meet, meets, both, IsRun}
use Rattle.pairing_law.specs.Partners.{SafePartners}
use Rattle.pairing_law.proofs.Words.{below_later}
use Rattle.pairing_law.proofs.Balance.{Balanced, balanced_nothing, balanced_hears, next_fits, fits_ask, none_some}
use Rattle.pairing_law.proofs.Lives.{every_in, none_owns, none_took, IsNew, Stood, Stands, own_below, partner_below, partner_before, one_new, other_new, Lived, lived_on, lived_more}
use Rattle.pairing_law.proofs.Joint.{Half, Joined, turned, gone_used, above_less, stood_heard, there_on, joined_said, says_in}
use Rattle.interface.proofs.lemmas.{unlike}

-- ---- a word that goes out where the host doesn't stay

abbrev alone_in : Mark → Side → Side
alone_in m a = record { end = gone m a.end; stays = a.stays; said = a.said; heard = a.heard; lives = a.lives; next = above m a.next }

none_opens : (m : Mark) (e : End) (lives : List Life) → e.partner ≡ None → lives_gone m e lives ≡ lives
none_opens (Ask p) e lives none = ap (λ (o : Option ℕ). lives_opened (Some p) o lives) none
none_opens Close e lives none = refl

says_alone : (m : Mark) (a : Side) → a.stays ≡ false → a.end.partner ≡ None → says m a ≡ alone_in m a
says_alone m a alone none =
    ap (λ (v : Bool). record { end = gone m a.end; stays = a.stays; said = if v then m ∷ a.said else a.said; heard = a.heard; lives = lives_gone m a.end a.lives; next = above m a.next }) alone
    ∙ ap (λ (l : List Life). record { end = gone m a.end; stays = a.stays; said = a.said; heard = a.heard; lives = l; next = above m a.next }) (none_opens m a.end _ none)

gone_alone : (m : Mark) (e : End) → e.partner ≡ None → (gone m e).partner ≡ None
gone_alone (Ask p) e none = none
gone_alone Close e none = by e.taken where
  by : (v : Bool) → (if v then nothing else record e { gone = true }).partner ≡ None
  by true = refl
  by false = none

joined_alone : (m : Mark) (a b : Side) → Joined a b → a.stays ≡ false → MayGo m a.end → IsLater m a.next → Joined (alone_in m a) b
joined_alone m a b j alone may later =
    let h : Half j.floor j.other a b = j.here in
    let low : j.floor ≤ a.next = h.low in
    let less : a.next ≤ above m a.next = above_less m a.next later in
    record {
      floor = j.floor;
      other = j.other;
      here = record {
        kept = h.kept;
        balanced = h.balanced;
        same = λ e. absurd (unlike a.stays e alone);
        alone = λ e. gone_alone m a.end (h.alone alone);
        older = h.older;
        grows = h.grows;
        from = h.from;
        below = below_later a.next _ a.said less h.below;
        low = omega (arith, low, less);
        lived = lived_on _ _ _ _ a.said _ a.said _ a.end _ _ _ (λ x s.
            let used : ((gone m a.end).asked ≡ Some x.own → (gone m a.end).partner ≢ None) × ((gone m a.end).partner ≡ Some x.partner → (gone m a.end).asked ≢ None)
            = gone_used m a.end a.next x later (own_below _ _ a.next a.said a.heard x h.low h.below s.stood) s.own_used s.partner_used in
            record { stood = s.stood; own_used = used.0; partner_used = used.1 }) h.lived;
      };
      there = there_on _ _ a _ b j.there j.there.older h.lived.back h.lived.both;
    }

joined_says : (m : Mark) (a b : Side) → Joined a b → May (Say m) a b → Joined (says m a) b
joined_says m a b j may = by a.stays refl where
  by : (v : Bool) → a.stays ≡ v → Joined (says m a) b
  by true stay = subst (λ (x : Side). Joined x b) (sym (says_in m a stay)) (joined_said m a b j stay may.0 may.1)
  by false alone = subst (λ (x : Side). Joined x b) (sym (says_alone m a alone (j.here.alone alone))) (joined_alone m a b j alone may.0 may.1)

-- ---- a word that is heard

abbrev heard_in : Mark → Side → Side
heard_in m a = record { end = mark_taken m a.end; stays = a.stays; said = a.said; heard = m ∷ a.heard; lives = lives_taken m a.end a.lives; next = a.next }

hears_in : (m : Mark) (a : Side) → fits m a.end ≡ true → hears m a ≡ heard_in m a
hears_in m a fit = ap (λ (v : Bool). record { end = if v then mark_taken m a.end else a.end; stays = a.stays; said = a.said; heard = m ∷ a.heard; lives = if v then lives_taken m a.end a.lives else a.lives; next = a.next }) fit

-- all that a host takes of its peer is in order
pub joined_fits : (m : Mark) (a b : Side) → Joined a b → May (Hear m) a b → fits m a.end ≡ true
joined_fits m a b j may =
    next_fits m b.said _ a.said _ _ a.end j.there.balanced (subst (λ (e : End). Balanced a.said a.heard e) (j.here.same may.0) j.here.balanced) j.there.grows may.1 j.there.older

taken_used : (m : Mark) (e : End) (x : Life) → ((p : ℕ) → m ≡ Ask p → x.partner < p) → (e.asked ≡ Some x.own → e.partner ≢ None) → (e.partner ≡ Some x.partner → e.asked ≢ None)
    → ((mark_taken m e).asked ≡ Some x.own → (mark_taken m e).partner ≢ None) × ((mark_taken m e).partner ≡ Some x.partner → (mark_taken m e).asked ≢ None)
taken_used (Ask p) e x less own partner = (λ same none. absurd (cc), λ same. absurd (let h : p ≡ x.partner = same_Some p x.partner same in let l : x.partner < p = less p refl in omega (arith, h, l)))
taken_used Close e x less own partner = by e.gone where
  by : (v : Bool) → ((if v then nothing else record e { taken = true }).asked ≡ Some x.own → (if v then nothing else record e { taken = true }).partner ≢ None)
      × ((if v then nothing else record e { taken = true }).partner ≡ Some x.partner → (if v then nothing else record e { taken = true }).asked ≢ None)
  by true = (λ same. absurd (cc), λ same. absurd (cc))
  by false = (own, partner)

heard_stands : (floor other : ℕ) (m : Mark) (a b : Side) → Half other floor b a → IsOlder (m ∷ a.heard) b.said → (x : Life) → Stands floor other a.said a.heard a.end x → Stands floor other a.said (m ∷ a.heard) (mark_taken m a.end) x
heard_stands floor other m a b g next x s =
    let used : ((mark_taken m a.end).asked ≡ Some x.own → (mark_taken m a.end).partner ≢ None) × ((mark_taken m a.end).partner ≡ Some x.partner → (mark_taken m a.end).asked ≢ None)
    = taken_used m a.end x (λ p same. partner_before floor other p a.said a.heard b.said x g.from g.grows (subst (λ (n : Mark). IsOlder (n ∷ a.heard) b.said) same next) s.stood) s.own_used s.partner_used in
    record { stood = stood_heard floor other m a.said _ x s.stood; own_used = used.0; partner_used = used.1 }

-- an end that opens by its partner's request
heard_opens : (floor other p : ℕ) (a b : Side) (h : Half floor other a b) (g : Half other floor b a) → a.stays ≡ true → fits (Ask p) a.end ≡ true → IsOlder (Ask p ∷ a.heard) b.said
    → (o : Option ℕ) → a.end.asked ≡ o → Lived floor other a.said (Ask p ∷ a.heard) (record a.end { partner = Some p }) (lives_opened o (Some p) a.lives) b.lives
heard_opens floor other p a b h g stay fit next o there = by o there where
  old : Lived floor other a.said (Ask p ∷ a.heard) (record a.end { partner = Some p }) a.lives b.lives
  old = lived_on floor other floor other a.said _ a.said _ a.end _ _ _ (heard_stands floor other _ a b g next) h.lived

  now : Balanced a.said (Ask p ∷ a.heard) (record a.end { partner = Some p })
  now = balanced_hears (Ask p) a.said _ a.end fit (subst (λ (e : End). Balanced a.said a.heard e) (h.same stay) h.balanced)

  by : (o : Option ℕ) → a.end.asked ≡ o → Lived floor other a.said (Ask p ∷ a.heard) (record a.end { partner = Some p }) (lives_opened o (Some p) a.lives) b.lives
  by None there = old
  by (Some r) there =
      let new : IsNew a.said (Ask p ∷ a.heard) (record { own = r; partner = p }) = (now.now, now.asked_at r there, now.partner_at p refl) in
      lived_more floor other a.said _ _ _ _ _ old
      (record { stood = inr new; own_used = λ same none. absurd (cc); partner_used = λ same none. none_some a.end.asked r none there })
      (none_owns _ r _ (λ x s same. s.own_used (there ∙ ap (λ (i : ℕ). Some i) (sym same)) (fits_ask p a.end fit).0) h.lived.stands)
      (none_took _ p _ (λ x s same. let l : x.partner < p = partner_before floor other p a.said _ b.said x g.from g.grows next s.stood in omega (arith, l, same)) h.lived.stands)
      (λ y i.
      let stood : Stood other floor b.said b.heard y = (every_in _ y _ g.lived.stands i).stood in (
        one_new floor other a.said _ b.said _ _ now next g.older g.grows g.from _ y new stood,
        other_new floor other a.said _ b.said _ g.kept g.balanced next g.older h.grows h.from _ y new stood,
      ))

heard_lives : (floor other : ℕ) (m : Mark) (a b : Side) (h : Half floor other a b) (g : Half other floor b a) → a.stays ≡ true → fits m a.end ≡ true → IsOlder (m ∷ a.heard) b.said
    → Lived floor other a.said (m ∷ a.heard) (mark_taken m a.end) (lives_taken m a.end a.lives) b.lives
heard_lives floor other (Ask p) a b h g stay fit next = heard_opens floor other p a b h g stay fit next _ refl
heard_lives floor other Close a b h g stay fit next =
    lived_on floor other floor other a.said _ a.said _ a.end _ _ _ (heard_stands floor other Close a b g next) h.lived

joined_heard : (m : Mark) (a b : Side) → Joined a b → May (Hear m) a b → Joined (heard_in m a) b
joined_heard m a b j may =
    let fit : fits m a.end ≡ true = joined_fits m a b j may in
    let lived : Lived j.floor j.other a.said (m ∷ a.heard) (mark_taken m a.end) (lives_taken m a.end a.lives) b.lives = heard_lives _ _ m a b j.here j.there may.0 fit may.1 in
    record {
      floor = j.floor;
      other = j.other;
      here = record {
        kept = mark_taken m a.end;
        balanced = balanced_hears m a.said _ a.end fit (subst (λ (e : End). Balanced a.said a.heard e) (j.here.same may.0) j.here.balanced);
        same = λ e. refl;
        alone = λ e. absurd (unlike a.stays may.0 e);
        older = may.1;
        grows = j.here.grows;
        from = j.here.from;
        below = j.here.below;
        low = j.here.low;
        lived = lived;
      };
      there = there_on _ _ a _ b j.there j.there.older lived.back lived.both;
    }

-- ---- a host that leaves

joined_leaves : (a b : Side) → Joined a b → Joined (leaves a) b
joined_leaves a b j = record {
  floor = j.floor;
  other = j.other;
  here = record {
    kept = j.here.kept;
    balanced = j.here.balanced;
    same = λ e. absurd (cc);
    alone = λ e. refl;
    older = j.here.older;
    grows = j.here.grows;
    from = j.here.from;
    below = j.here.below;
    low = j.here.low;
    lived = lived_on _ _ _ _ a.said _ a.said _ a.end nothing _ _ (λ x s. record { stood = s.stood; own_used = λ same. absurd (cc); partner_used = λ same. absurd (cc) }) j.here.lived;
  };
  there = there_on _ _ a _ b j.there j.there.older j.here.lived.back j.here.lived.both;
}

joined_moved : (move : Move) (a b : Side) → Joined a b → May move a b → Joined (moved move a) b
joined_moved (Say m) a b j may = joined_says m a b j may
joined_moved (Hear m) a b j may = subst (λ (x : Side). Joined x b) (sym (hears_in m a (joined_fits m a b j may))) (joined_heard m a b j may)
joined_moved Leave a b j may = joined_leaves a b j

-- ---- where both meet

half_meets : (floor other : ℕ) (a b : Side) → Half floor other a b → Half other floor b a → a.end ≡ nothing → Half a.next b.next (meets a) (meets b)
half_meets floor other a b h g fresh = record {
  kept = nothing;
  balanced = balanced_nothing;
  same = λ e. sym fresh;
  alone = λ e. absurd (cc);
  older = ([], refl);
  grows = tt;
  from = tt;
  below = tt;
  low = omega arith;
  lived = lived_on floor other a.next b.next a.said _ [] [] a.end a.end _ _ (λ x s. record {
    stood = inl (own_below floor other a.next a.said a.heard x h.low h.below s.stood, partner_below floor other b.next a.said _ b.said x g.low g.below h.older s.stood);
    own_used = s.own_used;
    partner_used = s.partner_used;
  }) h.lived;
}

joined_meets : (a b : Side) → Joined a b → a.end ≡ nothing → b.end ≡ nothing → Joined (meets a) (meets b)
joined_meets a b j here there = record {
  floor = a.next;
  other = b.next;
  here = half_meets _ _ a b j.here j.there here;
  there = half_meets _ _ b a j.there j.here there;
}

-- ---- through all events

half_opening : Half 0 0 opening_side opening_side
half_opening = record {
  kept = nothing;
  balanced = balanced_nothing;
  same = λ e. absurd (cc);
  alone = λ e. refl;
  older = ([], refl);
  grows = tt;
  from = tt;
  below = tt;
  low = omega arith;
  lived = record { stands = tt; own_once = tt; partner_once = tt; both = λ x y i. absurd i; back = λ x y i. absurd i };
}

pub joined_run : (events : List Event) → IsRun events → Joined (both events).one (both events).two
joined_run [] r = record { floor = 0; other = 0; here = half_opening; there = half_opening }
joined_run (One move ∷ events) r = joined_moved move _ _ (joined_run events r.1) r.0
joined_run (Two move ∷ events) r = turned _ _ (joined_moved move _ _ (turned _ _ (joined_run events r.1)) r.0)
joined_run (Meet ∷ events) r = joined_meets _ _ (joined_run events r.1) r.0.0 r.0.1

pub safe_run : (events : List Event) → IsRun events → SafePartners (both events)
safe_run events r =
    let j : Joined (both events).one (both events).two = joined_run events r in
    record {
      own_once = (j.here.lived.own_once, j.there.lived.own_once);
      partner_once = (j.here.lived.partner_once, j.there.lived.partner_once);
      both_ways = (j.here.lived.both, j.here.lived.back);
    }
