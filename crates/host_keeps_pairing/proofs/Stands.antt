-- What a mark that goes out, or is heard, does to the one end of two sockets.
use Rattle.host_keeps_pairing.proofs.Common.{◌≡◌, ℕ, ◌≤◌, Bool, true, false, not, ◌||◌, if◌then◌else◌, List, [], ◌∷◌, ◌++◌, Option, Some, None, is_some, refl, ap, sym, subst, ◌∙◌, ◌⊎◌, inl, inr, append-nil, End, nothing, gone, fits, mark_taken, Mark, Ask, Close, close_due, is_due, Closing, MayAllGo, Standing, is_past, came_from, end_of, Stand}
use Rattle.pairing_law.specs.Ends.{is_begun, MayGo}
use Rattle.pairing_law.specs.Sides.{above}
use Rattle.host_pairs.specs.Entries.{is_sent, has_cls}
use Rattle.host_pairs.specs.declared.entry.Closing.TheVariants as closing
use Rattle.host_pairs.proofs.lemmas.{both, not_is}
use Rattle.host_keeps_pairing.specs.Ends.{request_due, close_waits}

-- ---- the end of what is there

abbrev pub plain : (ℕ → ℕ) → Standing → End
plain origin s = record { asked = s.asked; partner = came_from origin s.partner; gone = is_sent s.closing; taken = s.partner_closed }

pub live_end : (origin : ℕ → ℕ) (s : Standing) → is_past s ≡ false → end_of origin s ≡ plain origin s
live_end origin s live = ap (λ (b : Bool). if b then nothing else plain origin s) live

-- ---- hearing a request

abbrev pub asked_by : ℕ → Standing → Standing
asked_by stamp s = record s { partner = Some stamp }

none_came : (origin : ℕ → ℕ) (o : Option ℕ) → not (is_some (came_from origin o)) ≡ true → is_some o ≡ false
none_came origin None e = refl
none_came origin (Some p) e = absurd (cc)

pub stand_asked : (origin : ℕ → ℕ) (place stamp : ℕ) (s : Standing) (words : List Mark) (x : End) → Stand true origin place (s ∷ []) words x → fits (Ask (origin stamp)) x ≡ true
    → (is_some s.partner ≡ false) × Stand true origin place (asked_by stamp s ∷ []) words (mark_taken (Ask (origin stamp)) x)
stand_asked origin place stamp s words x h fit =
    let live : is_past s ≡ false = h.0.live refl in
    let is : x ≡ plain origin s = h.2 ∙ live_end origin s live in
    let fit_plain : fits (Ask (origin stamp)) (plain origin s) ≡ true = subst (λ (y : End). fits (Ask (origin stamp)) y ≡ true) is fit in
    let parts : (not (is_some (came_from origin s.partner)) ≡ true) × (not s.partner_closed ≡ true) = both (not (is_some (came_from origin s.partner))) (not s.partner_closed) fit_plain in (
      none_came origin _ parts.0,
      (
        record { live = h.0.live; refused = λ m. (refl, (h.0.refused m).1); asked = h.0.asked; own = h.0.own },
        h.1,
        ap (mark_taken (Ask (origin stamp))) is ∙ sym (live_end origin (asked_by stamp s) live),
      ),
    )

-- ---- hearing a CLS

abbrev pub closed_by : Standing → Standing
closed_by s = record s { closing = close_due s.closing; partner_closed = true }

pub due_still : (c : Closing) → has_cls c ≡ true → has_cls (close_due c) ≡ true
due_still closing.No e = absurd (cc)
due_still c e = e

due_sent : (c : Closing) → is_sent (close_due c) ≡ is_sent c
due_sent closing.No = refl
due_sent c = refl

due_waits : (c : Closing) → close_waits (close_due c) ≡ close_waits c
due_waits closing.No = refl
due_waits c = refl

closed_end : (origin : ℕ → ℕ) (s : Standing) → (b : Bool) → is_sent s.closing ≡ b → is_sent (close_due s.closing) ≡ b → mark_taken Close (plain origin s) ≡ end_of origin (closed_by s)
closed_end origin s true e f = rw (e, f) refl
closed_end origin s false e f = rw (e, f) refl

pub stand_closed : (origin : ℕ → ℕ) (place : ℕ) (s : Standing) (words : List Mark) (x : End) → Stand true origin place (s ∷ []) words x → fits Close x ≡ true
    → (s.partner_closed ≡ false) × Stand false origin place (closed_by s ∷ []) words (mark_taken Close x)
stand_closed origin place s words x h fit =
    let is : x ≡ plain origin s = h.2 ∙ live_end origin s (h.0.live refl) in
    let fit_plain : fits Close (plain origin s) ≡ true = subst (λ (y : End). fits Close y ≡ true) is fit in
    let parts : (is_begun (plain origin s) ≡ true) × (not s.partner_closed ≡ true) = both (is_begun (plain origin s)) (not s.partner_closed) fit_plain in (
      not_is _ parts.1,
      (
        record { live = λ e. absurd (cc); refused = λ m. ((h.0.refused m).0, due_still _ (h.0.refused m).1); asked = λ e m. h.0.asked (sym (due_sent _) ∙ e) m; own = h.0.own },
        h.1 ∙ ap (λ (l : List Mark). request_due place s.mine s.asked ++ l) (sym (due_waits _)),
        ap (mark_taken Close) is ∙ closed_end origin s _ refl (due_sent _),
      ),
    )

-- ---- the own CLS is queued

pub stand_queued : (swept : Bool) (origin : ℕ → ℕ) (place : ℕ) (mine : Bool) (asked partner : Option ℕ) (c : Closing) (partner_closed : Bool) (words : List Mark) (x : End) → is_due c ≡ true
    → Stand swept origin place (record { mine = mine; asked = asked; partner = partner; closing = c; partner_closed = partner_closed } ∷ []) words x
    → Stand swept origin place (record { mine = mine; asked = asked; partner = partner; closing = closing.Queued; partner_closed = partner_closed } ∷ []) (words ++ Close ∷ []) x
stand_queued swept origin place mine asked partner closing.No partner_closed words x e h = absurd (cc)
stand_queued swept origin place mine asked partner closing.Due partner_closed words x e h = (
  record { live = λ e. refl; refused = λ m. ((h.0.refused m).0, refl); asked = λ e. absurd (cc); own = h.0.own },
  ap (λ (l : List Mark). l ++ Close ∷ []) (h.1 ∙ append-nil (request_due place mine asked)),
  h.2,
)
stand_queued swept origin place mine asked partner closing.Queued partner_closed words x e h = absurd (cc)
stand_queued swept origin place mine asked partner closing.Sent partner_closed words x e h = absurd (cc)

-- ---- an end whose CLS have both passed

past_due : (place : ℕ) (mine : Bool) (asked : Option ℕ) (c : Closing) → is_sent c ≡ true → (mine ≡ true → is_some asked ≡ true) → request_due place mine asked ++ close_waits c ≡ []
past_due place true None c e h = absurd (let r : false ≡ true = h refl in cc)
past_due place true (Some p) closing.No e h = absurd (cc)
past_due place true (Some p) closing.Due e h = absurd (cc)
past_due place true (Some p) closing.Queued e h = absurd (cc)
past_due place true (Some p) closing.Sent e h = refl
past_due place false asked closing.No e h = absurd (cc)
past_due place false asked closing.Due e h = absurd (cc)
past_due place false asked closing.Queued e h = absurd (cc)
past_due place false asked closing.Sent e h = refl

pub stand_past : (origin : ℕ → ℕ) (place : ℕ) (s : Standing) (words : List Mark) (x : End) → Stand false origin place (s ∷ []) words x → is_past s ≡ true → Stand true origin place [] words x
stand_past origin place s words x h past =
    let parts : (is_sent s.closing ≡ true) × (s.partner_closed ≡ true) = both (is_sent s.closing) s.partner_closed past in
    (h.1 ∙ past_due place s.mine _ _ parts.0 (h.0.asked parts.0), h.2 ∙ ap (λ (b : Bool). if b then nothing else plain origin s) past)

pub stand_live : (origin : ℕ → ℕ) (place : ℕ) (s : Standing) (words : List Mark) (x : End) → Stand false origin place (s ∷ []) words x → is_past s ≡ false → Stand true origin place (s ∷ []) words x
stand_live origin place s words x h live = (record { live = λ e. live; refused = h.0.refused; asked = h.0.asked; own = h.0.own }, h.1, h.2)

-- ---- what goes out

tail : List Mark → List Mark
tail [] = []
tail (m ∷ ms) = ms

head_or : Mark → List Mark → Mark
head_or d [] = d
head_or d (m ∷ ms) = m

same_head : (m n : Mark) (ms ns : List Mark) → m ∷ ms ≡ n ∷ ns → m ≡ n
unfolding head_or
same_head m n ms ns e = ap (head_or m) e

same_tail : (m n : Mark) (ms ns : List Mark) → m ∷ ms ≡ n ∷ ns → ms ≡ ns
unfolding tail
same_tail m n ms ns e = ap tail e

-- what waits first is its request, or its CLS
pub record IsRequest (mine : Bool) (asked : Option ℕ) (c : Closing) (place : ℕ) (m : Mark) (words : List Mark) : Type 0 where
  pub mark : m ≡ Ask place
  pub own : mine ≡ true
  pub unasked : asked ≡ None
  pub rest : words ≡ close_waits c

pub record IsClose (mine : Bool) (asked : Option ℕ) (c : Closing) (m : Mark) (words : List Mark) : Type 0 where
  pub mark : m ≡ Close
  pub queued : c ≡ closing.Queued
  pub own : mine ≡ true → is_some asked ≡ true
  pub rest : words ≡ []

one_close : (mine : Bool) (asked : Option ℕ) (c : Closing) (m : Mark) (words : List Mark) → (mine ≡ true → is_some asked ≡ true) → m ∷ words ≡ close_waits c → IsClose mine asked c m words
one_close mine asked closing.Queued m words h e = record { mark = same_head m Close words [] e; queued = refl; own = h; rest = same_tail m Close words [] e }
one_close mine asked c m words h e = absurd (cc)

pub heads : (place : ℕ) (mine : Bool) (asked : Option ℕ) (c : Closing) (m : Mark) (words : List Mark) → m ∷ words ≡ request_due place mine asked ++ close_waits c
    → IsRequest mine asked c place m words ⊎ IsClose mine asked c m words
heads place true None c m words e = inl (record { mark = same_head m _ words _ e; own = refl; unasked = refl; rest = same_tail m _ words _ e })
heads place true (Some p) c m words e = inr (one_close true _ c m words (λ r. refl) e)
heads place false asked c m words e = inr (one_close false asked c m words (λ r. absurd (cc)) e)

-- the own request has gone out
abbrev pub asks_at : ℕ → Standing → Standing
asks_at stamp s = record s { asked = Some stamp }

is_unsent : (s : Standing) → (is_sent s.closing ≡ true → s.mine ≡ true → is_some s.asked ≡ true) → s.mine ≡ true → s.asked ≡ None → (b : Bool) → is_sent s.closing ≡ b → b ≡ false
is_unsent s h own none true e = absurd (let r : is_some s.asked ≡ true = h e own in let q : false ≡ true = ap is_some (sym none) ∙ r in cc)
is_unsent s h own none false e = refl

pub stand_asks : (origin : ℕ → ℕ) (place stamp : ℕ) (s : Standing) (words : List Mark) (x : End) → Stand true origin place (s ∷ []) (Ask place ∷ words) x
    → Stand true origin place (asks_at stamp s ∷ []) words (gone (Ask stamp) x)
stand_asks origin place stamp s words x h = elim (heads place s.mine _ _ _ words h.1) [
  | inl r ↦ (
    record { live = h.0.live; refused = λ m. absurd (let q : true ≡ false = sym r.own ∙ m in cc); asked = λ e m. refl; own = λ e. r.own },
    r.rest ∙ ap (λ (l : List Mark). l ++ close_waits s.closing) (asked_due place s.mine stamp),
    ap (gone (Ask stamp)) (h.2 ∙ live_end origin s (h.0.live refl)) ∙ sym (live_end origin (asks_at stamp s) (h.0.live refl)),
  )
  | inr r ↦ absurd (let q : Ask place ≡ Close = r.mark in cc)
] where
  asked_due : (place : ℕ) (mine : Bool) (stamp : ℕ) → [] ≡ request_due place mine (Some stamp)
  asked_due place true stamp = refl
  asked_due place false stamp = refl

-- the own CLS has gone out
abbrev pub closes_now : Standing → Standing
closes_now s = record s { closing = closing.Sent }

none_due : (place : ℕ) (mine : Bool) (asked : Option ℕ) → (mine ≡ true → is_some asked ≡ true) → [] ≡ request_due place mine asked ++ []
none_due place true None h = absurd (let r : false ≡ true = h refl in cc)
none_due place true (Some p) h = refl
none_due place false asked h = refl

closes_end : (origin : ℕ → ℕ) (s : Standing) → gone Close (plain origin s) ≡ end_of origin (closes_now s)
closes_end origin s = refl

pub stand_closes : (origin : ℕ → ℕ) (place : ℕ) (s : Standing) (words : List Mark) (x : End) → Stand true origin place (s ∷ []) (Close ∷ words) x
    → Stand false origin place (closes_now s ∷ []) words (gone Close x)
stand_closes origin place s words x h = elim (heads place s.mine _ _ Close words h.1) [
  | inl r ↦ absurd (let q : Close ≡ Ask place = r.mark in cc)
  | inr r ↦ (
    record { live = λ e. absurd (cc); refused = λ m. ((h.0.refused m).0, refl); asked = λ e m. r.own m; own = h.0.own },
    r.rest ∙ none_due place s.mine _ r.own,
    ap (gone Close) (h.2 ∙ live_end origin s (h.0.live refl)) ∙ closes_end origin s,
  )
]

-- ---- what goes out may go

begun_by : (mine : Bool) (asked : Option ℕ) (partner : Option ℕ) (origin : ℕ → ℕ) → (mine ≡ true → is_some asked ≡ true) → (mine ≡ false → is_some partner ≡ true) → (is_some asked || is_some (came_from origin partner)) ≡ true
begun_by true None partner origin h k = absurd (let r : false ≡ true = h refl in cc)
begun_by true (Some p) partner origin h k = refl
begun_by false None None origin h k = absurd (let r : false ≡ true = k refl in cc)
begun_by false None (Some q) origin h k = refl
begun_by false (Some p) partner origin h k = refl

pub may_ask : (origin : ℕ → ℕ) (place : ℕ) (s : Standing) (words : List Mark) (x : End) → Stand true origin place (s ∷ []) (Ask place ∷ words) x → MayGo (Ask place) x
may_ask origin place s words x h = elim (heads place s.mine _ _ _ words h.1) [
  | inl r ↦
      (let is : x ≡ plain origin s = h.2 ∙ live_end origin s (h.0.live refl) in
      subst (λ (y : End). MayGo (Ask place) y) (sym is) (r.unasked, is_unsent s h.0.asked r.own r.unasked _ refl))
  | inr r ↦ absurd (let q : Ask place ≡ Close = r.mark in cc)
]

may_close : (origin : ℕ → ℕ) (place : ℕ) (s : Standing) (words : List Mark) (x : End) → Stand true origin place (s ∷ []) (Close ∷ words) x → MayGo Close x
may_close origin place s words x h = elim (heads place s.mine _ _ Close words h.1) [
  | inl r ↦ absurd (let q : Close ≡ Ask place = r.mark in cc)
  | inr r ↦
      (let is : x ≡ plain origin s = h.2 ∙ live_end origin s (h.0.live refl) in
      subst (λ (y : End). MayGo Close y) (sym is) (begun_by s.mine _ _ origin r.own (λ m. (h.0.refused m).0), ap is_sent r.queued))
]

none_left : (swept : Bool) (origin : ℕ → ℕ) (place : ℕ) (s : Standing) (words rest : List Mark) (x : End) (next : ℕ) → is_sent s.closing ≡ true → Stand swept origin place (s ∷ []) (words ++ rest) x → MayAllGo words x next
none_left swept origin place s [] rest x next sent h = tt
none_left swept origin place s (m ∷ words) rest x next sent h =
    absurd (let r : m ∷ (words ++ rest) ≡ [] = h.1 ∙ past_due place s.mine _ _ sent (h.0.asked sent) in cc)

pub may_all : (origin : ℕ → ℕ) (place : ℕ) (s : Standing) (words rest : List Mark) (x : End) (next : ℕ) → (s.asked ≡ None → s.mine ≡ true → next ≤ place)
    → Stand true origin place (s ∷ []) (words ++ rest) x → MayAllGo words x next
may_all origin place s [] rest x next below h = tt
may_all origin place s (Close ∷ words) rest x next below h =
    (may_close origin place s _ x h, tt, none_left false origin place _ words rest _ next refl (stand_closes origin place s _ x h))
may_all origin place s (Ask q ∷ words) rest x next below h = elim (heads place s.mine _ _ _ _ h.1) [
  | inl r ↦
      (let same : Ask q ≡ Ask place = r.mark in
      let there : Stand true origin place (s ∷ []) (Ask place ∷ (words ++ rest)) x = (h.0, ap (λ (m : Mark). m ∷ (words ++ rest)) (sym same) ∙ h.1, h.2) in
      let at_place : MayAllGo (Ask place ∷ words) x next = (
        may_ask origin place s _ x there,
        below r.unasked r.own,
        may_all origin place (asks_at place s) words rest (gone (Ask place) x) (above (Ask place) next) (λ none. absurd (cc)) (stand_asks origin place place s _ x there),
      ) in
      subst (λ (m : Mark). MayAllGo (m ∷ words) x next) (sym same) at_place)
  | inr r ↦ absurd (let e : Ask q ≡ Close = r.mark in cc)
]
