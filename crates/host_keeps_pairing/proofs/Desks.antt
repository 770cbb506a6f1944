-- What is done to the connections of a pair, at one pair of sockets: ends that are joined, changed, settled and swept, and
-- commands that are queued.
use Rattle.host_keeps_pairing.proofs.Common.{◌≡◌, ℕ, Bool, true, false, not, ◌==◌, if◌then◌else◌, List, [], ◌∷◌, ◌++◌, map, filter, Some, None, refl, ap, sym, subst, ◌∙◌, eqb-true, append-nil, Command, End, nothing, Mark, Close, changed, entry_joined, changed_at, closed_when, entry_at, is_at, is_due, is_over, must_close, DeskState, command_queued, settled, swept, Entry, mark_of, marks, Standing, standing, at, end_of, due, IsSound, Stand}
use Rattle.host_pairs.specs.Entries.{is_drained, cls_of}
use Rattle.host_pairs.proofs.lemmas.{both}
use Rattle.host_keeps_pairing.proofs.Lists.{IsQuiet, Is, Found, are, at_append, at_changed, at_one, at_quiet, first, found_at, marks_append, marks_more, marks_quiet, none_at}
use Rattle.host_keeps_pairing.proofs.Stands.{stand_live, stand_past, stand_queued}

-- ---- two sockets that are these

pub they_are : (a b own foreign : ℕ) → are a b own foreign ≡ true → (a ≡ own) × (b ≡ foreign)
they_are a b own foreign e = let h : ((a == own) ≡ true) × ((b == foreign) ≡ true) = both (a == own) (b == foreign) e in (eqb-true a own h.0, eqb-true b foreign h.1)

pub found_here : (a b own foreign : ℕ) (xs : List Entry) (e : Entry) → are a b own foreign ≡ true → entry_at a b xs ≡ Some e → Found own foreign xs e
found_here a b own foreign xs e t f =
    let s : (a ≡ own) × (b ≡ foreign) = they_are a b own foreign t in
    found_at own foreign xs e (sym (ap (λ (n : ℕ). entry_at n b xs) s.0 ∙ ap (λ (n : ℕ). entry_at own n xs) s.1) ∙ f)

pub none_here : (a b own foreign : ℕ) (xs : List Entry) → are a b own foreign ≡ true → entry_at a b xs ≡ None → at own foreign xs ≡ []
none_here a b own foreign xs t f =
    let s : (a ≡ own) × (b ≡ foreign) = they_are a b own foreign t in
    none_at own foreign xs (sym (ap (λ (n : ℕ). entry_at n b xs) s.0 ∙ ap (λ (n : ℕ). entry_at own n xs) s.1) ∙ f)

-- ---- a desk

module _ (origin : ℕ → ℕ) (own foreign place : ℕ) where
  abbrev pub On : Bool → DeskState → End → Type 0
  On swept d x = Stand swept origin place (at own foreign d.entries) (marks place own foreign d.queue) x

  pub stand_same : (done : Bool) (old new : List Standing) (words next : List Mark) (x : End) → new ≡ old → next ≡ words → Stand done origin place old words x → Stand done origin place new next x
  stand_same done old new words next x e f h =
      subst (λ (ss : List Standing). Stand done origin place ss next x) (sym e) (subst (λ (ws : List Mark). Stand done origin place old ws x) (sym f) h)

  pub on_if : (done b : Bool) (d e : DeskState) (x : End) → On done d x → On done e x → On done (if b then d else e) x
  on_if done true d e x h k = h
  on_if done false d e x h k = k

  -- a command that says nothing of these sockets
  pub on_queued : (done : Bool) (c : Command) (d : DeskState) (x : End) → mark_of place own foreign c ≡ [] → On done d x → On done (command_queued c d) x
  on_queued done c d x none h = stand_same done _ _ _ _ x refl (marks_quiet place own foreign d.queue c none) h

  -- a change of what doesn't matter
  pub on_quiet : (done : Bool) (test : Entry → Bool) (change : Entry → Entry) (d : DeskState) (x : End) → IsQuiet change → On done d x → On done (changed test change d) x
  on_quiet done test change d x q h =
      stand_same done _ _ _ _ x (at_quiet own foreign test change _ q) refl h

  -- ---- the end of two sockets is changed

  -- elsewhere nothing changes
  pub change_away : (done : Bool) (a b : ℕ) (to : Standing → Standing) (change : Entry → Entry) (xs : List Entry) (words : List Mark) (x : End) → Is to change → are a b own foreign ≡ false
      → Stand done origin place (at own foreign xs) words x → Stand done origin place (at own foreign (changed_at a b change xs)) words x
  change_away done a b to change xs words x is t h =
      let e : at own foreign (changed_at a b change xs) ≡ at own foreign xs = at_changed a b own foreign to change xs is ∙ ap (λ (v : Bool). if v then first to (at own foreign xs) else at own foreign xs) t in
      stand_same done _ _ words words x e refl h

  -- here there is one end, and it is changed
  pub change_here : (done : Bool) (a b : ℕ) (to : Standing → Standing) (change : Entry → Entry) (xs : List Entry) (words next : List Mark) (x y : End) → Is to change → are a b own foreign ≡ true
      → Stand true origin place (at own foreign xs) words x
      → ((s : Standing) (rest : List Standing) → at own foreign xs ≡ s ∷ rest → Stand true origin place (s ∷ []) words x → Stand done origin place (to s ∷ []) next y)
      → (s : Standing) (rest : List Standing) → at own foreign xs ≡ s ∷ rest → Stand done origin place (at own foreign (changed_at a b change xs)) next y
  change_here done a b to change xs words next x y is t h work s [] same =
      let e : at own foreign (changed_at a b change xs) ≡ to s ∷ [] = at_changed a b own foreign to change xs is ∙ ap (λ (v : Bool). if v then first to (at own foreign xs) else at own foreign xs) t ∙ ap (λ (ss : List Standing). first to ss) same in
      let k : Stand true origin place (s ∷ []) words x = subst (λ (ss : List Standing). Stand true origin place ss words x) same h in
      stand_same done _ _ next next y e refl (work s [] same k)
  change_here done a b to change xs words next x y is t h work s (r ∷ rest) same = absurd (subst (λ (ss : List Standing). Stand true origin place ss words x) same h)

  -- ---- a new end

  pub on_joined : (a b : ℕ) (e : Entry) (c : Command) (d : DeskState) (x y : End) → is_at own foreign e ≡ are a b own foreign → mark_of place own foreign c ≡ (if are a b own foreign then due place (standing e) else [])
      → IsSound true (standing e) → entry_at a b d.entries ≡ None → (are a b own foreign ≡ true → x ≡ nothing → y ≡ end_of origin (standing e)) → (are a b own foreign ≡ false → y ≡ x)
      → On true d x → On true (command_queued c (entry_joined e d)) y
  on_joined a b e c d x y there mark sound none here away h = by (are a b own foreign) refl where
    words : marks place own foreign (d.queue ++ c ∷ []) ≡ marks place own foreign d.queue ++ (if are a b own foreign then due place (standing e) else [])
    words = marks_more place own foreign d.queue c ∙ ap (λ (l : List Mark). marks place own foreign d.queue ++ l) mark

    by : (t : Bool) → are a b own foreign ≡ t → On true (command_queued c (entry_joined e d)) y
    by true t =
        let empty : at own foreign d.entries ≡ [] = none_here a b own foreign _ t none in
        let was : (marks place own foreign d.queue ≡ []) × (x ≡ nothing) = subst (λ (ss : List Standing). Stand true origin place ss (marks place own foreign d.queue) x) empty h in
        let ends : at own foreign (d.entries ++ e ∷ []) ≡ standing e ∷ [] = at_append own foreign _ _ ∙ ap (λ (ss : List Standing). ss ++ at own foreign (e ∷ [])) empty ∙ at_one own foreign e [] true (there ∙ t) in
        let said : marks place own foreign (d.queue ++ c ∷ []) ≡ due place (standing e) =
        words ∙ ap (λ (l : List Mark). l ++ (if are a b own foreign then due place (standing e) else [])) was.0 ∙ ap (λ (v : Bool). if v then due place (standing e) else []) t in
        stand_same true (standing e ∷ []) (at own foreign (d.entries ++ e ∷ [])) _ _ y ends said (sound, refl, here t was.1)
    by false t =
        let ends : at own foreign (d.entries ++ e ∷ []) ≡ at own foreign d.entries =
        at_append own foreign _ _ ∙ ap (λ (ss : List Standing). at own foreign d.entries ++ ss) (at_one own foreign e [] false (there ∙ t)) ∙ append-nil (at own foreign d.entries) in
        let said : marks place own foreign (d.queue ++ c ∷ []) ≡ marks place own foreign d.queue =
        words ∙ ap (λ (v : Bool). marks place own foreign d.queue ++ (if v then due place (standing e) else [])) t ∙ append-nil (marks place own foreign d.queue) in
        stand_same true _ _ _ _ y ends said
        (subst (λ (z : End). Stand true origin place (at own foreign d.entries) (marks place own foreign d.queue) z) (sym (away t)) h)

  -- ---- ends that have to close queue their CLS

  abbrev closes : List ℕ → List Entry → List Mark
  closes busy [] = []
  closes busy (e ∷ es) = (if must_close busy e then Close ∷ [] else []) ++ closes busy es

  abbrev pub close_one : List ℕ → Entry → Entry
  close_one busy e = closed_when (must_close busy e) e

  closed_step : (busy : List ℕ) (e : Entry) (es : List Entry) → filter (is_at own foreign) (map (close_one busy) es) ≡ map (close_one busy) (filter (is_at own foreign) es) → (b : Bool) → is_at own foreign e ≡ b
      → filter (is_at own foreign) (map (close_one busy) (e ∷ es)) ≡ map (close_one busy) (filter (is_at own foreign) (e ∷ es))
  closed_step busy e es rest true f = rw f (ap (λ (xs : List Entry). close_one busy e ∷ xs) rest)
  closed_step busy e es rest false f = rw f rest

  pub closed_ends : (busy : List ℕ) (es : List Entry) → filter (is_at own foreign) (map (close_one busy) es) ≡ map (close_one busy) (filter (is_at own foreign) es)
  closed_ends busy [] = refl
  closed_ends busy (e ∷ es) = closed_step busy e es (closed_ends busy es) _ refl

  closing_step : (busy : List ℕ) (e : Entry) (es : List Entry) → marks place own foreign (map cls_of (filter (must_close busy) es)) ≡ closes busy (filter (is_at own foreign) es)
      → (b c : Bool) → is_at own foreign e ≡ b → must_close busy e ≡ c
      → marks place own foreign (map cls_of (filter (must_close busy) (e ∷ es))) ≡ closes busy (filter (is_at own foreign) (e ∷ es))
  closing_step busy e es rest true true f g = rw (f, g, f) (ap (λ (l : List Mark). Close ∷ l) rest)
  closing_step busy e es rest true false f g = rw (f, g) rest
  closing_step busy e es rest false true f g = rw (f, g, f) rest
  closing_step busy e es rest false false f g = rw (f, g) rest

  closing_marks : (busy : List ℕ) (es : List Entry) → marks place own foreign (map cls_of (filter (must_close busy) es)) ≡ closes busy (filter (is_at own foreign) es)
  closing_marks busy [] = refl
  closing_marks busy (e ∷ es) = closing_step busy e es (closing_marks busy es) _ _ refl refl

  one_settled : (done : Bool) (busy : List ℕ) (e : Entry) (words : List Mark) (x : End) → Stand done origin place (standing e ∷ []) words x → (b : Bool) → must_close busy e ≡ b
      → Stand done origin place (standing (closed_when b e) ∷ []) (words ++ ((if b then Close ∷ [] else []) ++ [])) x
  one_settled done busy e words x h true f =
      let parts : (is_due e.closing ≡ true) × (is_drained busy e ≡ true) = both (is_due e.closing) (is_drained busy e) f in
      stand_queued done origin place e.mine _ _ _ _ words x parts.0 h
  one_settled done busy e words x h false f =
      stand_same done (standing e ∷ []) _ words _ x refl (append-nil words) h

  all_settled : (done : Bool) (busy : List ℕ) (es : List Entry) (words : List Mark) (x : End) → Stand done origin place (map standing es) words x → Stand done origin place (map standing (map (close_one busy) es)) (words ++ closes busy es) x
  all_settled done busy [] words x h = (append-nil words ∙ h.0, h.1)
  all_settled done busy (e ∷ []) words x h = one_settled done busy e words x h _ refl
  all_settled done busy (e ∷ f ∷ es) words x h = absurd h

  pub on_settled : (done : Bool) (busy : List ℕ) (d : DeskState) (x : End) → On done d x → On done (settled busy d) x
  on_settled done busy d x h =
      stand_same done _ _
      _ _ x
      (ap (λ (es : List Entry). map standing es) (closed_ends busy _))
      (marks_append place own foreign d.queue (map cls_of (filter (must_close busy) d.entries)) ∙ ap (λ (l : List Mark). marks place own foreign d.queue ++ l) (closing_marks busy _))
      (all_settled done busy _ _ x h)

  -- ---- ends that are over go

  abbrev stays : Entry → Bool
  stays e = not (is_over e)

  swept_step : (e : Entry) (es : List Entry) → filter (is_at own foreign) (filter stays es) ≡ filter stays (filter (is_at own foreign) es) → (b c : Bool) → is_at own foreign e ≡ b → stays e ≡ c
      → filter (is_at own foreign) (filter stays (e ∷ es)) ≡ filter stays (filter (is_at own foreign) (e ∷ es))
  swept_step e es rest true true f g = rw (f, g, f) (ap (λ (xs : List Entry). e ∷ xs) rest)
  swept_step e es rest true false f g = rw (f, g) rest
  swept_step e es rest false true f g = rw (f, g, f) rest
  swept_step e es rest false false f g = rw (f, g) rest

  swept_ends : (es : List Entry) → filter (is_at own foreign) (filter stays es) ≡ filter stays (filter (is_at own foreign) es)
  swept_ends [] = refl
  swept_ends (e ∷ es) = swept_step e es (swept_ends es) _ _ refl refl

  one_swept : (e : Entry) (words : List Mark) (x : End) → Stand false origin place (standing e ∷ []) words x → (b : Bool) → is_over e ≡ b → Stand true origin place (map standing (filter stays (e ∷ []))) words x
  one_swept e words x h true f = rw f (stand_past origin place _ words x h f)
  one_swept e words x h false f = rw f (stand_live origin place _ words x h f)

  all_swept : (es : List Entry) (words : List Mark) (x : End) → Stand false origin place (map standing es) words x → Stand true origin place (map standing (filter stays es)) words x
  all_swept [] words x h = h
  all_swept (e ∷ []) words x h = one_swept e words x h _ refl
  all_swept (e ∷ f ∷ es) words x h = absurd h

  pub ends_swept : (es : List Entry) (words : List Mark) (x : End) → Stand false origin place (at own foreign es) words x → Stand true origin place (at own foreign (filter stays es)) words x
  ends_swept es words x h =
      stand_same true _ _ words words x (ap (λ (xs : List Entry). map standing xs) (swept_ends es)) refl
      (all_swept _ words x h)

  -- an end that isn't over is as well one that isn't swept
  pub loose : (ss : List Standing) (ws : List Mark) (x : End) → Stand true origin place ss ws x → Stand false origin place ss ws x
  loose [] ws x h = h
  loose (s ∷ []) ws x h = (record { live = λ e. absurd (cc); refused = h.0.refused; asked = h.0.asked; own = h.0.own }, h.1, h.2)
  loose (s ∷ t ∷ ss) ws x h = h
