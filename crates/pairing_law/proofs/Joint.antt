-- What both hosts keep, through all that happens.
use Rattle.std.proofs.Common.{◌≡◌, ◌≢◌, ℕ, ◌<◌, ◌≤◌, Bool, true, false, List, ◌∷◌, Option, Some, None, refl, ap, sym, subst, ◌∙◌, inl, inr, if◌then◌else◌, arith}
use Rattle.std.proofs.lemmas.Option.{same_Some}
use Rattle.pairing_law.specs.Marks.{Mark, Ask, Close, IsOlder}
use Rattle.pairing_law.specs.Ends.{End, nothing, MayGo, gone}
use Rattle.pairing_law.specs.Sides.{Life, Side, lives_opened, lives_gone, above, says, IsLater, both}
use Rattle.pairing_law.specs.Partners.{AreBoth}
use Rattle.pairing_law.proofs.Words.{Below, From, Grows, below_later}
use Rattle.pairing_law.proofs.Balance.{Balanced, balanced_says, none_some}
use Rattle.pairing_law.proofs.Lives.{every_in, none_owns, none_took, IsNew, Stood, Stands, own_below, one_new, other_new, Lived, lived_on, lived_more}
use Rattle.interface.proofs.lemmas.{unlike}

-- what a host keeps, with what its peer said and opened. All that went out before `floor`, and before `other` of the peer, is
-- older than the stay
pub record Half (floor other : ℕ) (a b : Side) : Type 0 where
  -- the end that fits its words: while it stays, its own
  pub kept : End
  pub balanced : Balanced a.said a.heard kept
  pub same : a.stays ≡ true → kept ≡ a.end
  pub alone : a.stays ≡ false → a.end.partner ≡ None
  pub older : IsOlder a.heard b.said
  pub grows : Grows a.said
  pub from : From floor a.said
  pub below : Below a.next a.said
  pub low : floor ≤ a.next
  pub lived : Lived floor other a.said a.heard a.end a.lives b.lives

pub record Joined (a b : Side) : Type 0 where
  pub floor : ℕ
  pub other : ℕ
  pub here : Half floor other a b
  pub there : Half other floor b a

pub turned : (a b : Side) → Joined a b → Joined b a
turned a b j = record { floor = j.other; other = j.floor; here = j.there; there = j.here }

-- ---- a word that goes out

-- an end that continues, or is over, used its requests
pub gone_used : (m : Mark) (e : End) (next : ℕ) (x : Life) → IsLater m next → x.own < next → (e.asked ≡ Some x.own → e.partner ≢ None) → (e.partner ≡ Some x.partner → e.asked ≢ None)
    → ((gone m e).asked ≡ Some x.own → (gone m e).partner ≢ None) × ((gone m e).partner ≡ Some x.partner → (gone m e).asked ≢ None)
gone_used (Ask p) e next x later less own partner = (λ same. absurd (let h : p ≡ x.own = same_Some p x.own same in let l : next ≤ p = later in omega (arith, h, l, less)), λ same none. absurd (cc))
gone_used Close e next x later less own partner = by e.taken where
  by : (v : Bool) → ((if v then nothing else record e { gone = true }).asked ≡ Some x.own → (if v then nothing else record e { gone = true }).partner ≢ None)
      × ((if v then nothing else record e { gone = true }).partner ≡ Some x.partner → (if v then nothing else record e { gone = true }).asked ≢ None)
  by true = (λ same. absurd (cc), λ same. absurd (cc))
  by false = (own, partner)

-- how the words of a host are after it said something
abbrev pub said_in : Mark → Side → Side
said_in m a = record { end = gone m a.end; stays = a.stays; said = m ∷ a.said; heard = a.heard; lives = lives_gone m a.end a.lives; next = above m a.next }

pub says_in : (m : Mark) (a : Side) → a.stays ≡ true → says m a ≡ said_in m a
says_in m a stay = ap (λ (v : Bool). record { end = gone m a.end; stays = a.stays; said = if v then m ∷ a.said else a.said; heard = a.heard; lives = lives_gone m a.end a.lives; next = above m a.next }) stay

grows_said : (m : Mark) (next : ℕ) (s : List Mark) → IsLater m next → Below next s → Grows s → Grows (m ∷ s)
grows_said (Ask p) next s later below g = (below_later next p s later below, g)
grows_said Close next s later below g = g

from_said : (m : Mark) (floor next : ℕ) (s : List Mark) → IsLater m next → floor ≤ next → From floor s → From floor (m ∷ s)
from_said (Ask p) floor next s later low f = (let l : next ≤ p = later in omega (arith, l, low), f)
from_said Close floor next s later low f = f

pub above_less : (m : Mark) (next : ℕ) → IsLater m next → next ≤ above m next
above_less (Ask p) next later = let l : next ≤ p = later in omega (arith, l)
above_less Close next later = omega arith

below_said : (m : Mark) (next : ℕ) (s : List Mark) → IsLater m next → Below next s → Below (above m next) (m ∷ s)
below_said (Ask p) next s later below = (omega arith, below_later next _ s (let l : next ≤ p = later in omega (arith, l)) below)
below_said Close next s later below = below

stood_said : (floor other : ℕ) (m : Mark) (s t : List Mark) (x : Life) → Stood floor other s t x → Stood floor other (m ∷ s) t x
stood_said floor other m s t x (inl old) = inl old
stood_said floor other (Ask p) s t x (inr new) = inr (new.0, inr new.1, new.2)
stood_said floor other Close s t x (inr new) = inr new

pub stood_heard : (floor other : ℕ) (m : Mark) (s t : List Mark) (x : Life) → Stood floor other s t x → Stood floor other s (m ∷ t) x
stood_heard floor other m s t x (inl old) = inl old
stood_heard floor other (Ask p) s t x (inr new) = inr (new.0, new.1, inr new.2)
stood_heard floor other Close s t x (inr new) = inr new

-- the lives that were, where more was said
said_stands : (floor other : ℕ) (m : Mark) (a : Side) → floor ≤ a.next → Below a.next a.said → IsLater m a.next → (x : Life) → Stands floor other a.said a.heard a.end x → Stands floor other (m ∷ a.said) a.heard (gone m a.end) x
said_stands floor other m a low below later x h =
    let used : ((gone m a.end).asked ≡ Some x.own → (gone m a.end).partner ≢ None) × ((gone m a.end).partner ≡ Some x.partner → (gone m a.end).asked ≢ None)
    = gone_used m a.end a.next x later (own_below floor other a.next a.said a.heard x low below h.stood) h.own_used h.partner_used in
    record { stood = stood_said floor other m a.said a.heard x h.stood; own_used = used.0; partner_used = used.1 }

-- an end that opens by its own request
said_opens : (floor other : ℕ) (p : ℕ) (a b : Side) (h : Half floor other a b) (g : Half other floor b a) → a.stays ≡ true → MayGo (Ask p) a.end → a.next ≤ p
    → (o : Option ℕ) → a.end.partner ≡ o → Lived floor other (Ask p ∷ a.said) a.heard (record a.end { asked = Some p }) (lives_opened (Some p) o a.lives) b.lives
said_opens floor other p a b h g stay may later o there =
    by o there where
      low : floor ≤ a.next
      low = h.low

      e' : End
      e' = record a.end { asked = Some p }

      old : Lived floor other (Ask p ∷ a.said) a.heard (record a.end { asked = Some p }) a.lives b.lives
      old = lived_on floor other floor other a.said _ _ _ a.end _ _ _ (said_stands floor other _ a h.low h.below later) h.lived

      now : Balanced (Ask p ∷ a.said) a.heard (record a.end { asked = Some p })
      now = balanced_says (Ask p) a.said _ a.end may (subst (λ (e : End). Balanced a.said a.heard e) (h.same stay) h.balanced)

      by : (o : Option ℕ) → a.end.partner ≡ o → Lived floor other (Ask p ∷ a.said) a.heard (record a.end { asked = Some p }) (lives_opened (Some p) o a.lives) b.lives
      by None there = old
      by (Some q) there =
          let new : IsNew (Ask p ∷ a.said) a.heard (record { own = p; partner = q }) = (now.now, now.asked_at p refl, now.partner_at q there) in
          lived_more floor other _ _ _ _ _ _ old
          (record { stood = inr new; own_used = λ same none. none_some a.end.partner q none there; partner_used = λ same none. absurd (cc) })
          (none_owns _ p _ (λ x s same. let l : x.own < a.next = own_below floor other a.next a.said a.heard x h.low h.below s.stood in omega (arith, l, later, same)) h.lived.stands)
          (none_took _ q _ (λ x s same. s.partner_used (there ∙ ap (λ (r : ℕ). Some r) (sym same)) may.0) h.lived.stands)
          (λ y i.
          let stood : Stood other floor b.said b.heard y = (every_in _ y _ g.lived.stands i).stood in
          let back : IsOlder b.heard (Ask p ∷ a.said) = (Ask p ∷ g.older.0, ap (λ (w : List Mark). Ask p ∷ w) g.older.1) in
          let grows : Grows (Ask p ∷ a.said) = grows_said (Ask p) a.next a.said later h.below h.grows in
          let from : From floor (Ask p ∷ a.said) = from_said (Ask p) floor a.next a.said later h.low h.from in (
            one_new floor other _ _ b.said _ _ now h.older back g.grows g.from _ y new stood,
            other_new floor other _ _ b.said _ g.kept g.balanced h.older back grows from _ y new stood,
          ))

said_lives : (floor other : ℕ) (m : Mark) (a b : Side) (h : Half floor other a b) (g : Half other floor b a) → a.stays ≡ true → MayGo m a.end → IsLater m a.next
    → Lived floor other (m ∷ a.said) a.heard (gone m a.end) (lives_gone m a.end a.lives) b.lives
said_lives floor other (Ask p) a b h g stay may later = said_opens floor other p a b h g stay may later _ refl
said_lives floor other Close a b h g stay may later =
    lived_on floor other floor other a.said _ _ _ a.end _ _ _ (said_stands floor other Close a h.low h.below later) h.lived

-- the peer's side of it
back_lived : (floor other : ℕ) (s t : List Mark) (e : End) (lives others more : List Life) → Lived floor other s t e lives others → AreBoth lives more → AreBoth more lives → Lived floor other s t e lives more
back_lived floor other s t e lives others more l both back = record { stands = l.stands; own_once = l.own_once; partner_once = l.partner_once; both = both; back = back }

-- a host's peer, where the host has said more, or opened more
pub there_on : (floor other : ℕ) (a a' b : Side) → Half other floor b a → IsOlder b.heard a'.said → AreBoth b.lives a'.lives → AreBoth a'.lives b.lives → Half other floor b a'
there_on floor other a a' b g older both back = record {
  kept = g.kept;
  balanced = g.balanced;
  same = g.same;
  alone = g.alone;
  older = older;
  grows = g.grows;
  from = g.from;
  below = g.below;
  low = g.low;
  lived = back_lived other floor b.said _ b.end _ _ _ g.lived both back;
}

pub joined_said : (m : Mark) (a b : Side) → Joined a b → a.stays ≡ true → MayGo m a.end → IsLater m a.next → Joined (said_in m a) b
joined_said m a b j stay may later =
    let lived : Lived j.floor j.other (m ∷ a.said) a.heard (gone m a.end) (lives_gone m a.end a.lives) b.lives = said_lives _ _ m a b j.here j.there stay may later in
    let low : j.floor ≤ a.next = j.here.low in
    let less : a.next ≤ above m a.next = above_less m a.next later in
    record {
      floor = j.floor;
      other = j.other;
      here = record {
        kept = gone m a.end;
        balanced = balanced_says m a.said _ a.end may (subst (λ (e : End). Balanced a.said a.heard e) (j.here.same stay) j.here.balanced);
        same = λ e. refl;
        alone = λ e. absurd (unlike a.stays stay e);
        older = j.here.older;
        grows = grows_said m a.next a.said later j.here.below j.here.grows;
        from = from_said m _ a.next a.said later j.here.low j.here.from;
        below = below_said m a.next a.said later j.here.below;
        low = omega (arith, low, less);
        lived = lived;
      };
      there = there_on _ _ a _ b j.there (m ∷ j.there.older.0, ap (λ (w : List Mark). m ∷ w) j.there.older.1) lived.back lived.both;
    }
