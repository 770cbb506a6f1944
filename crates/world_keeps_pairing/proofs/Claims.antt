-- Which link the last request of a receiver named, for each pair of sockets.
use Rattle.world_keeps_pairing.proofs.Common.{◌≡◌, ◌⊎◌, inl, inr, ℕ, ◌<◌, ◌≤◌, Bool, true, false, if◌then◌else◌, List, [], ◌∷◌, Option, Some, None, refl, ap, sym, subst, ◌∙◌, arith, End, nothing, fits, gone, mark_taken}
use Rattle.pairing_law.specs.Marks.{Mark, Ask, Close, Asks}
use Rattle.pairing_law.specs.Sides.{One, Two, Say}
use Rattle.pairing_law.specs.Links.{Sockets, same, Word, Receiver, Sender, Step, Says, Hears, Leaves, Meets, receiver, sender, events_at, with_event, stays, said_words, heard_words, IsAmong, AreSteps}
use Rattle.pairing_law.proofs.lemmas.{joined_fits, joined_run, run_at, same_is, same_self, turned, BothSeen, Joined, among_asks, at, below_asks, joined_at, seen}
use Rattle.std.proofs.lemmas.Option.{same_Some}
use Rattle.pairing_law.specs.Sides as sides
use Rattle.pairing_law.specs.Links as links

-- a request for a pair of sockets named a link
pub record Claim : Type 0 where
  pub sockets : Sockets
  pub link : ℕ

abbrev pub claimed : Mark → Sockets → ℕ → List Claim → List Claim
claimed (Ask p) s link claims = record { sockets = s; link = link } ∷ claims
claimed Close s link claims = claims

-- the last for these sockets
abbrev pub last_link : Sockets → List Claim → Option ℕ
last_link t [] = None
last_link t (c ∷ claims) = if same t c.sockets then Some c.link else last_link t claims

-- all that the receiver ever said, and all that the sender ever heard, the newest first
abbrev pub said_claims : List Step → List Claim
said_claims [] = []
said_claims (Says Receiver w ∷ xs) = claimed w.mark w.sockets w.link (said_claims xs)
said_claims (Says Sender w ∷ xs) = said_claims xs
said_claims (Hears who w ∷ xs) = said_claims xs
said_claims (Leaves who ∷ xs) = said_claims xs
said_claims (Meets ∷ xs) = said_claims xs

abbrev pub heard_claims : List Step → List Claim
heard_claims [] = []
heard_claims (Hears Sender w ∷ xs) = claimed w.mark w.sockets w.link (heard_claims xs)
heard_claims (Hears Receiver w ∷ xs) = heard_claims xs
heard_claims (Says who w ∷ xs) = heard_claims xs
heard_claims (Leaves who ∷ xs) = heard_claims xs
heard_claims (Meets ∷ xs) = heard_claims xs

abbrev word_of : Sockets → ℕ → ℕ → Word
word_of t link p = record { sockets = t; link = link; mark = Ask p }

-- ---- a request among all words went out below

among_below : (t : Sockets) (xs : List Step) → AreSteps xs → (link q : ℕ) → IsAmong (record { sockets = t; link = link; mark = Ask q }) (said_words Receiver xs) → q < (receiver t xs).next
among_below t xs r link q i =
    let a : (k : ℕ) × Asks k q (at t (said_words Receiver xs)) = among_asks t link q _ i in
    let h : BothSeen t xs = seen t xs in
    let j : Joined (receiver t xs) (sender t xs) = joined_at t xs r in
    below_asks a.0 _ q (receiver t xs).said j.here.below (subst (λ (z : List Mark). Asks a.0 q z) (sym h.receiver.said) a.1)

-- ---- what an end asked for, it claimed last

abbrev Named : Sockets → ℕ → ℕ → List Step → Type 0
Named t p link xs = ((receiver t xs).end.asked ≡ Some p) × IsAmong (record { sockets = t; link = link; mark = Ask p }) (said_words Receiver xs)

abbrev IsLast : Sockets → ℕ → List Step → Type 0
IsLast t link xs = last_link t (said_claims xs) ≡ Some link

in_if : (stay : Bool) (w v : Word) (words : List Word) → IsAmong v (if stay then w ∷ words else words) → (v ≡ w) ⊎ IsAmong v words
in_if true w v words i = i
in_if false w v words i = inr i

gone_asked : (m : Mark) (x : End) (p : ℕ) → ((q : ℕ) → m ≡ Ask q → ⊥) → (gone m x).asked ≡ Some p → x.asked ≡ Some p
gone_asked (Ask q) x p not_ask e = absurd (not_ask q refl)
gone_asked Close x p not_ask e = by x.taken e where
  by : (b : Bool) → (if b then nothing else record x { gone = true }).asked ≡ Some p → x.asked ≡ Some p
  by true f = absurd (let both : None ≡ Some p = f in cc)
  by false f = f

taken_asked : (m : Mark) (x : End) (p : ℕ) → (b : Bool) → (if b then mark_taken m x else x).asked ≡ Some p → x.asked ≡ Some p
taken_asked (Ask q) x p true e = e
taken_asked Close x p true e = by x.gone e where
  by : (c : Bool) → (if c then nothing else record x { taken = true }).asked ≡ Some p → x.asked ≡ Some p
  by true f = absurd (let both : None ≡ Some p = f in cc)
  by false f = f
taken_asked m x p false e = e

-- a host says a word
says_last : (t : Sockets) (w : Word) (xs : List Step) → AreSteps (Says Receiver w ∷ xs) → (p link : ℕ) → (Named t p link xs → IsLast t link xs) → (b : Bool) → same t w.sockets ≡ b → (m : Mark) → w.mark ≡ m
    → ((sides.both (with_event (links.when b (One (Say m))) (events_at t xs))).one.end.asked ≡ Some p) → IsAmong (word_of t link p) (if stays Receiver xs then w ∷ said_words Receiver xs else said_words Receiver xs)
    → last_link t (claimed m w.sockets w.link (said_claims xs)) ≡ Some link
says_last t w xs r p link k true e (Ask q) f asked among =
    let is : t ≡ w.sockets = same_is t _ e in
    let same_place : q ≡ p = same_Some q p asked in
    let found : last_link t (claimed (Ask q) w.sockets w.link (said_claims xs)) ≡ Some w.link = rw e refl in
    elim (in_if (stays Receiver xs) w _ _ among) [
      | inl i ↦ found ∙ ap (λ (v : Word). Some v.link) (sym i)
      | inr i ↦
          (let low : p < (receiver t xs).next = among_below t xs r.1 link p i in
          let later : (receiver t xs).next ≤ q = subst (λ (m : Mark). sides.IsLater m (receiver t xs).next) f (subst (λ (v : Sockets). sides.IsLater w.mark (receiver v xs).next) (sym is) r.0.0.1) in
          absurd (omega (arith, low, later, same_place)))
    ]
says_last t w xs r p link k true e Close f asked among =
    elim (in_if (stays Receiver xs) w _ _ among) [
      | inl i ↦ absurd (let both : Ask p ≡ Close = ap (λ (v : Word). v.mark) i ∙ f in cc)
      | inr i ↦ k (gone_asked Close (receiver t xs).end p (λ q is. (let both : Close ≡ Ask q = is in absurd (cc))) asked, i)
    ]
says_last t w xs r p link k false e m f asked among =
    let skip : last_link t (claimed m w.sockets w.link (said_claims xs)) ≡ last_link t (said_claims xs) = skipped m in
    elim (in_if (stays Receiver xs) w _ _ among) [
      | inl i ↦ absurd (let both : true ≡ false = sym (same_self t) ∙ ap (λ (v : Word). same t v.sockets) i ∙ e in cc)
      | inr i ↦ skip ∙ k (asked, i)
    ] where
      skipped : (n : Mark) → last_link t (claimed n w.sockets w.link (said_claims xs)) ≡ last_link t (said_claims xs)
      skipped (Ask q) = rw e refl
      skipped Close = refl

hears_asked : (b : Bool) (m : Mark) (es : List sides.Event) (p : ℕ) → (sides.both (with_event (links.when b (One (sides.Hear m))) es)).one.end.asked ≡ Some p → (sides.both es).one.end.asked ≡ Some p
hears_asked true m es p e = taken_asked m _ p _ e
hears_asked false m es p e = e

other_asked : (b : Bool) (move : sides.Move) (es : List sides.Event) (p : ℕ) → (sides.both (with_event (links.when b (Two move)) es)).one.end.asked ≡ Some p → (sides.both es).one.end.asked ≡ Some p
other_asked true move es p e = e
other_asked false move es p e = e

pub asked_last : (t : Sockets) (xs : List Step) → AreSteps xs → (p link : ℕ) → Named t p link xs → IsLast t link xs
asked_last t [] r p link n = absurd n.1
asked_last t (Says Receiver w ∷ xs) r p link n = says_last t w xs r p link (asked_last t xs r.1 p link) _ refl w.mark refl n.0 n.1
asked_last t (Says Sender w ∷ xs) r p link n = asked_last t xs r.1 p link (other_asked (same t w.sockets) (Say w.mark) (events_at t xs) p n.0, n.1)
asked_last t (Hears Receiver w ∷ xs) r p link n = asked_last t xs r.1 p link (hears_asked (same t w.sockets) w.mark (events_at t xs) p n.0, n.1)
asked_last t (Hears Sender w ∷ xs) r p link n = asked_last t xs r.1 p link (other_asked (same t w.sockets) (sides.Hear w.mark) (events_at t xs) p n.0, n.1)
asked_last t (Leaves Receiver ∷ xs) r p link n = absurd (let both : None ≡ Some p = n.0 in cc)
asked_last t (Leaves Sender ∷ xs) r p link n = asked_last t xs r.1 p link n
asked_last t (Meets ∷ xs) r p link n = absurd n.1

-- ---- the partner's request of an end is the last that was heard

abbrev Heard : Sockets → ℕ → ℕ → List Step → Type 0
Heard t p link xs = ((sender t xs).end.partner ≡ Some p) × (last_link t (heard_claims xs) ≡ Some link)

abbrev Among : Sockets → ℕ → ℕ → List Step → Type 0
Among t p link xs = IsAmong (record { sockets = t; link = link; mark = Ask p }) (heard_words Sender xs)

gone_partner : (m : Mark) (x : End) (p : ℕ) → (gone m x).partner ≡ Some p → x.partner ≡ Some p
gone_partner (Ask q) x p e = e
gone_partner Close x p e = by x.taken e where
  by : (b : Bool) → (if b then nothing else record x { gone = true }).partner ≡ Some p → x.partner ≡ Some p
  by true f = absurd (let both : None ≡ Some p = f in cc)
  by false f = f

close_partner : (x : End) (p : ℕ) (b : Bool) → (if b then mark_taken Close x else x).partner ≡ Some p → x.partner ≡ Some p
close_partner x p true e = by x.gone e where
  by : (c : Bool) → (if c then nothing else record x { taken = true }).partner ≡ Some p → x.partner ≡ Some p
  by true f = absurd (let both : None ≡ Some p = f in cc)
  by false f = f
close_partner x p false e = e

heard_among : (t : Sockets) (w : Word) (xs : List Step) → AreSteps (Hears Sender w ∷ xs) → (p link : ℕ) → (Heard t p link xs → Among t p link xs) → (b : Bool) → same t w.sockets ≡ b → (m : Mark) → w.mark ≡ m
    → (fits m (sender t xs).end ≡ true ⊎ (b ≡ false)) → ((sides.both (with_event (links.when b (Two (sides.Hear m))) (events_at t xs))).two.end.partner ≡ Some p) → last_link t (claimed m w.sockets w.link (heard_claims xs)) ≡ Some link
    → IsAmong (record { sockets = t; link = link; mark = Ask p }) (w ∷ heard_words Sender xs)
heard_among t w xs r p link k true e (Ask q) f (inl fit) partner last =
    let is : t ≡ w.sockets = same_is t _ e in
    let now : (if fits (Ask q) (sender t xs).end then mark_taken (Ask q) (sender t xs).end else (sender t xs).end).partner ≡ Some p = partner in
    let place : Some q ≡ Some p = ap (λ (c : Bool). (if c then mark_taken (Ask q) (sender t xs).end else (sender t xs).end).partner) (sym fit) ∙ now in
    let found : Some w.link ≡ Some link = ap (λ (c : Bool). if c then Some w.link else last_link t (heard_claims xs)) (sym e) ∙ last in
    inl (made t _ link w.link _ w.mark is (sym (same_Some w.link link found)) (ap (λ (n : ℕ). Ask n) (sym (same_Some q p place)) ∙ sym f)) where
      word : Sockets → ℕ → Mark → Word
      word s l m = record { sockets = s; link = l; mark = m }

      made : (s s' : Sockets) (l l' : ℕ) (m m' : Mark) → s ≡ s' → l ≡ l' → m ≡ m' → word s l m ≡ word s' l' m'
      made s s' l l' m m' e f g = rw (e, f, g) refl
heard_among t w xs r p link k true e (Ask q) f (inr off) partner last = absurd (let both : true ≡ false = off in cc)
heard_among t w xs r p link k true e Close f fit partner last = inr (k (close_partner (sender t xs).end p _ partner, last))
heard_among t w xs r p link k false e m f fit partner last = inr (k (partner, skipped m last)) where
  skipped : (n : Mark) → last_link t (claimed n w.sockets w.link (heard_claims xs)) ≡ Some link → last_link t (heard_claims xs) ≡ Some link
  skipped (Ask q) h = rw e at h
  skipped Close h = h

says_partner : (b : Bool) (m : Mark) (es : List sides.Event) (p : ℕ) → (sides.both (with_event (links.when b (Two (Say m))) es)).two.end.partner ≡ Some p → (sides.both es).two.end.partner ≡ Some p
says_partner true m es p e = gone_partner m _ p e
says_partner false m es p e = e

other_partner : (b : Bool) (move : sides.Move) (es : List sides.Event) (p : ℕ) → (sides.both (with_event (links.when b (One move)) es)).two.end.partner ≡ Some p → (sides.both es).two.end.partner ≡ Some p
other_partner true move es p e = e
other_partner false move es p e = e

fits_here : (t : Sockets) (w : Word) (xs : List Step) → AreSteps (Hears Sender w ∷ xs) → (b : Bool) → same t w.sockets ≡ b → (fits w.mark (sender t xs).end ≡ true) ⊎ (b ≡ false)
fits_here t w xs r true e =
    let run : sides.IsRun (with_event (links.when true (Two (sides.Hear w.mark))) (events_at t xs)) = subst (λ (b : Bool). sides.IsRun (with_event (links.when b (Two (sides.Hear w.mark))) (events_at t xs))) e (run_at t (Hears Sender w ∷ xs) r) in
    inl (joined_fits w.mark _ _ (turned _ _ (joined_run _ run.1)) run.0)
fits_here t w xs r false e = inr refl

pub partner_among : (t : Sockets) (xs : List Step) → AreSteps xs → (p link : ℕ) → Heard t p link xs → Among t p link xs
partner_among t [] r p link h = absurd (let both : None ≡ Some p = h.0 in cc)
partner_among t (Hears Sender w ∷ xs) r p link h = heard_among t w xs r p link (partner_among t xs r.1 p link) _ refl w.mark refl (fits_here t w xs r _ refl) h.0 h.1
partner_among t (Hears Receiver w ∷ xs) r p link h = partner_among t xs r.1 p link (other_partner (same t w.sockets) (sides.Hear w.mark) (events_at t xs) p h.0, h.1)
partner_among t (Says Sender w ∷ xs) r p link h = partner_among t xs r.1 p link (says_partner (same t w.sockets) w.mark (events_at t xs) p h.0, h.1)
partner_among t (Says Receiver w ∷ xs) r p link h = partner_among t xs r.1 p link (other_partner (same t w.sockets) (Say w.mark) (events_at t xs) p h.0, h.1)
partner_among t (Leaves Sender ∷ xs) r p link h = absurd (let both : None ≡ Some p = h.0 in cc)
partner_among t (Leaves Receiver ∷ xs) r p link h = partner_among t xs r.1 p link h
partner_among t (Meets ∷ xs) r p link h = absurd (let both : None ≡ Some p = ap (λ (x : End). x.partner) (sym (r.0 t).1) ∙ h.0 in cc)
