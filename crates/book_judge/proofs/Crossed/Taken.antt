-- Whether a log with one crossing more keeps messages: that is seen by what crossed last on its flow.
use Rattle.book_judge.proofs.Common.{◌≡◌, ◌⊎◌, ℕ, ◌+◌, ◌<◌, ◌≤◌, Bool, true, false, ◌||◌, if◌then◌else◌, List, [], ◌∷◌, ◌++◌, length, take, get_or, reverse, Option, Some, refl, ap, sym, subst, ◌∙◌, inl, inr, arith, get-empty, take_all, slice_get_read, flow_cmp, same_flow, Flow, Crossing, HostMessage, EndsAt, before, Held}
use Rattle.interface.specs.Messages.{SafeMessages, SinceLastOut, TakenOnce, taken_in, went_out}
use Rattle.interface.proofs.lemmas.{same_flow-refl, same_flow-true, or_false}
use Rattle.std.specs.List.{slice_get}
use Rattle.std.specs.FinMap as map
use Rattle.interface.specs.declared.crossing.Answer.TheVariants as answer
use Rattle.interface.specs.declared.crossing.Crossing.TheVariants as crossing
use Rattle.book_judge.specs.Inside.{says, waits_with}
use Rattle.book_judge.specs.Inside.Taken.{finds, held_or, last_on, noted, was_taken}
use Rattle.book_judge.specs.declared.mail.Held.TheVariants as held
use Rattle.book_judge.proofs.Identities.Asked.{one_back}
use Rattle.book_judge.proofs.Crossed.TextsBy.{before_place}
use Rattle.book_judge.proofs.Crossed.Mailboxes.{get_set}
use Rattle.book_judge.proofs.Identities.Named.{same_flow_is}
use Rattle.book_judge.proofs.Crossed.SameText.{same_text-is, same_text-true}

-- ---- what crossed last on a flow

pub data Last : Type 0 where
  Nothing : Last
  Sent : (text : List Bool) → Last
  Took : Last

abbrev pub last : Flow → List Crossing → Last
last f [] = Nothing
last f (crossing.Out m ∷ log) = if same_flow f m.flow then Sent m.text else last f log
last f (crossing.In m ∷ log) = if same_flow f m.flow then Took else last f log
last f (crossing.Answer kind g ∷ log) = last f log
last f (crossing.Down h ∷ log) = last f log
last f (crossing.Up h ∷ log) = last f log

-- since a message went out on a flow: it waits where none was taken, and else one was
since_out : (f : Flow) (m : HostMessage) (since older : List Crossing) → m.flow ≡ f → went_out f since ≡ false
    → ((taken_in f since ≡ []) × (last f (since ++ crossing.Out m ∷ older) ≡ Sent m.text)) ⊎ ((taken_in f since ≡ [] → ⊥) × (last f (since ++ crossing.Out m ∷ older) ≡ Took))
since_out f m [] older e n = inl (refl, ap (λ (b : Bool). if b then Sent m.text else last f older) (same_flow_is f m.flow e))
since_out f m (crossing.Out x ∷ since) older e n =
    let t = or_false (same_flow f x.flow) (went_out f since) n in
    let skip = ap (λ (b : Bool). if b then Sent x.text else last f (since ++ crossing.Out m ∷ older)) t.0 in
    elim (since_out f m since older e t.1) [
      | inl s ↦ inl (s.0, skip ∙ s.1)
      | inr s ↦ inr (s.0, skip ∙ s.1)
    ]
since_out f m (crossing.In x ∷ since) older e n = by (same_flow f x.flow) (since_out f m since older e n) where
  by : (b : Bool)
      → ((taken_in f since ≡ []) × (last f (since ++ crossing.Out m ∷ older) ≡ Sent m.text)) ⊎ ((taken_in f since ≡ [] → ⊥) × (last f (since ++ crossing.Out m ∷ older) ≡ Took))
      → (((if b then x.text ∷ taken_in f since else taken_in f since) ≡ []) × ((if b then Took else last f (since ++ crossing.Out m ∷ older)) ≡ Sent m.text))
      ⊎ (((if b then x.text ∷ taken_in f since else taken_in f since) ≡ [] → ⊥) × ((if b then Took else last f (since ++ crossing.Out m ∷ older)) ≡ Took))
  by true s = inr (λ h. absurd (cc), refl)
  by false s = s
since_out f m (crossing.Answer kind g ∷ since) older e n = since_out f m since older e n
since_out f m (crossing.Down g ∷ since) older e n = since_out f m since older e n
since_out f m (crossing.Up g ∷ since) older e n = since_out f m since older e n

-- where none went out and none was taken, nothing crossed
none_out : (f : Flow) (log : List Crossing) → went_out f log ≡ false → taken_in f log ≡ [] → last f log ≡ Nothing
none_out f [] n t = refl
none_out f (crossing.Out m ∷ log) n t =
    let s = or_false (same_flow f m.flow) (went_out f log) n in
    ap (λ (b : Bool). if b then Sent m.text else last f log) s.0 ∙ none_out f log s.1 t
none_out f (crossing.In m ∷ log) n t = by (same_flow f m.flow) t (none_out f log n) where
  by : (b : Bool) → (if b then m.text ∷ taken_in f log else taken_in f log) ≡ [] → (taken_in f log ≡ [] → last f log ≡ Nothing)
      → (if b then Took else last f log) ≡ Nothing
  by true h rest = absurd (cc)
  by false h rest = rest h
none_out f (crossing.Answer kind g ∷ log) n t = none_out f log n t
none_out f (crossing.Down g ∷ log) n t = none_out f log n t
none_out f (crossing.Up g ∷ log) n t = none_out f log n t

-- a flow's last message out, if there is one
further : (f : Flow) (c : Crossing) (log : List Crossing) → ((since : List Crossing) → went_out f since ≡ false → went_out f (c ∷ since) ≡ false)
    → (went_out f log ≡ false) ⊎ SinceLastOut f log → (went_out f (c ∷ log) ≡ false) ⊎ SinceLastOut f (c ∷ log)
further f c log keeps (inl none) = inl (keeps log none)
further f c log keeps (inr s) =
    inr (record { since = c ∷ s.since; message = s.message; before = s.before; parts = ap (λ (xs : List Crossing). c ∷ xs) s.parts; flow = s.flow; last = keeps s.since s.last })

newest : (f : Flow) (log : List Crossing) → (went_out f log ≡ false) ⊎ SinceLastOut f log
newest f [] = inl refl
newest f (crossing.Out m ∷ log) = by (same_flow f m.flow) refl (newest f log) where
  by : (b : Bool) → same_flow f m.flow ≡ b → (went_out f log ≡ false) ⊎ SinceLastOut f log
      → (went_out f (crossing.Out m ∷ log) ≡ false) ⊎ SinceLastOut f (crossing.Out m ∷ log)
  by true e rest = inr (record { since = []; message = m; before = log; parts = refl; flow = sym (same_flow-true f m.flow e); last = refl })
  by false e rest = further f (crossing.Out m) log (λ since n. ap (λ (b : Bool). b || went_out f since) e ∙ n) rest
newest f (crossing.In m ∷ log) = further f (crossing.In m) log (λ since n. n) (newest f log)
newest f (crossing.Answer kind g ∷ log) = further f (crossing.Answer kind g) log (λ since n. n) (newest f log)
newest f (crossing.Down h ∷ log) = further f (crossing.Down h) log (λ since n. n) (newest f log)
newest f (crossing.Up h ∷ log) = further f (crossing.Up h) log (λ since n. n) (newest f log)

-- ---- one crossing more

-- what a crossing has to find
abbrev Needs : Crossing → List Crossing → Type 0
Needs (crossing.In m) log = last m.flow log ≡ Sent m.text
Needs (crossing.Answer answer.Rfnm f) log = last f log ≡ Took
Needs c log = Unit {0}

tail_of : (c d : Crossing) (xs ys : List Crossing) → c ∷ xs ≡ d ∷ ys → (c ≡ d) × (xs ≡ ys)
tail_of c d xs ys e = (cc, cc)

sent_one : (t u : List Bool) → Sent t ≡ Sent u → t ≡ u
sent_one t u e = cc

one_taken : (f : Flow) (m o : HostMessage) (since older log : List Crossing) → log ≡ since ++ crossing.Out o ∷ older → o.flow ≡ f → went_out f since ≡ false
    → last m.flow log ≡ Sent m.text → (taken_in f since ≡ []) ⊎ (taken_in f since ≡ o.text ∷ [])
    → (taken_in f (crossing.In m ∷ since) ≡ []) ⊎ (taken_in f (crossing.In m ∷ since) ≡ o.text ∷ [])
one_taken f m o since older log e flow n found old = by (same_flow f m.flow) refl where
  by : (b : Bool) → same_flow f m.flow ≡ b → ((if b then m.text ∷ taken_in f since else taken_in f since) ≡ []) ⊎ ((if b then m.text ∷ taken_in f since else taken_in f since) ≡ o.text ∷ [])
  by false s = old
  by true s =
      let same : f ≡ m.flow = same_flow-true f m.flow s in
      let there : last f (since ++ crossing.Out o ∷ older) ≡ Sent m.text = ap (λ (zs : List Crossing). last f zs) (sym e) ∙ ap (λ (g : Flow). last g log) same ∙ found in
      elim (since_out f o since older flow n) [
        | inl t ↦ (let text : m.text ≡ o.text = sent_one m.text o.text (sym there ∙ t.1) in
            inr (ap (λ (zs : List (List Bool)). m.text ∷ zs) t.0 ∙ ap (λ (z : List Bool). z ∷ []) text))
        | inr t ↦ absurd (let bad : Sent m.text ≡ Took = sym there ∙ t.1 in cc)
      ]

none_taken : (f : Flow) (m : HostMessage) (log : List Crossing) → went_out f log ≡ false → taken_in f log ≡ [] → last m.flow log ≡ Sent m.text → taken_in f (crossing.In m ∷ log) ≡ []
none_taken f m log n t found = by (same_flow f m.flow) refl where
  by : (b : Bool) → same_flow f m.flow ≡ b → (if b then m.text ∷ taken_in f log else taken_in f log) ≡ []
  by false s = t
  by true s = absurd (let bad : Sent m.text ≡ Nothing = sym found ∙ ap (λ (g : Flow). last g log) (sym (same_flow-true f m.flow s)) ∙ none_out f log n t in cc)

took_once : (f : Flow) (log : List Crossing) → SafeMessages log → last f log ≡ Took → TakenOnce f log
took_once f log s found = elim (newest f log) [
  | inl n ↦ absurd (let bad : Took ≡ Nothing = sym found ∙ none_out f log n (s.none_before [] log f refl n) in cc)
  | inr t ↦
      (let P : Flow → Type 0 = λ g. went_out g t.since ≡ false in
      let Q : Flow → Type 0 = λ g. (taken_in g t.since ≡ []) ⊎ (taken_in g t.since ≡ t.message.text ∷ []) in
      let there : last f (t.since ++ crossing.Out t.message ∷ t.before) ≡ Took = ap (λ (zs : List Crossing). last f zs) (sym t.parts) ∙ found in
      let at = since_out f t.message t.since t.before t.flow t.last in
      elim (subst Q t.flow (s.once [] t.since t.before t.message t.parts (subst P (sym t.flow) t.last))) [
        | inr one ↦ record { out = t; once = one }
        | inl none ↦ elim at [
          | inl w ↦ absurd (let bad : Sent t.message.text ≡ Took = sym w.1 ∙ there in cc)
          | inr w ↦ absurd (w.0 none)
        ]
      ])
]

-- a log that keeps messages keeps them with a crossing that finds what it has to
grows : (c : Crossing) (log : List Crossing) → SafeMessages log → Needs c log → SafeMessages (c ∷ log)
grows c log s needs = record {
  answered = answered;
  once = once;
  none_before = none;
} where
  answered : (newer older : List Crossing) (f : Flow) → c ∷ log ≡ newer ++ crossing.Answer answer.Rfnm f ∷ older → TakenOnce f older
  answered [] older f e =
      let t = tail_of c (crossing.Answer answer.Rfnm f) log older e in
      let P : List Crossing → Type 0 = λ zs. TakenOnce f zs in
      let Q : Crossing → Type 0 = λ d. Needs d log in
      subst P t.1 (took_once f log s (subst Q t.0 needs))
  answered (d ∷ newer) older f e = s.answered newer older f (tail_of c d log (newer ++ crossing.Answer answer.Rfnm f ∷ older) e).1

  taken : (d : Crossing) (since older : List Crossing) (o : HostMessage) → Needs d log → log ≡ since ++ crossing.Out o ∷ older → went_out o.flow (d ∷ since) ≡ false
      → (taken_in o.flow (d ∷ since) ≡ []) ⊎ (taken_in o.flow (d ∷ since) ≡ o.text ∷ [])
  taken (crossing.Out x) since older o n e w = s.once [] since older o e (or_false (same_flow o.flow x.flow) (went_out o.flow since) w).1
  taken (crossing.In m) since older o n e w = one_taken o.flow m o since older log e refl w n (s.once [] since older o e w)
  taken (crossing.Answer kind g) since older o n e w = s.once [] since older o e w
  taken (crossing.Down g) since older o n e w = s.once [] since older o e w
  taken (crossing.Up g) since older o n e w = s.once [] since older o e w

  once : (newer since older : List Crossing) (o : HostMessage) → c ∷ log ≡ newer ++ (since ++ crossing.Out o ∷ older) → went_out o.flow since ≡ false
      → (taken_in o.flow since ≡ []) ⊎ (taken_in o.flow since ≡ o.text ∷ [])
  once [] [] older o e w = inl refl
  once [] (d ∷ since) older o e w =
      let t = tail_of c d log (since ++ crossing.Out o ∷ older) e in
      let Q : Crossing → Type 0 = λ x. Needs x log in
      taken d since older o (subst Q t.0 needs) t.1 w
  once (d ∷ newer) since older o e w = s.once newer since older o (tail_of c d log (newer ++ (since ++ crossing.Out o ∷ older)) e).1 w

  untaken : (d : Crossing) (f : Flow) → Needs d log → went_out f (d ∷ log) ≡ false → taken_in f (d ∷ log) ≡ []
  untaken (crossing.Out x) f n w = s.none_before [] log f refl (or_false (same_flow f x.flow) (went_out f log) w).1
  untaken (crossing.In m) f n w = none_taken f m log w (s.none_before [] log f refl w) n
  untaken (crossing.Answer kind g) f n w = s.none_before [] log f refl w
  untaken (crossing.Down g) f n w = s.none_before [] log f refl w
  untaken (crossing.Up g) f n w = s.none_before [] log f refl w

  none : (newer older : List Crossing) (f : Flow) → c ∷ log ≡ newer ++ older → went_out f older ≡ false → taken_in f older ≡ []
  none [] older f e w =
      let P : List Crossing → Type 0 = λ zs. went_out f zs ≡ false in
      let Q : List Crossing → Type 0 = λ zs. taken_in f zs ≡ [] in
      subst Q e (untaken c f needs (subst P (sym e) w))
  none (d ∷ newer) older f e w = s.none_before newer older f (tail_of c d log (newer ++ older) e).1 w

-- and with another one it doesn't
first_is : (t u : List Bool) (ts : List (List Bool)) → (t ∷ ts ≡ []) ⊎ (t ∷ ts ≡ u ∷ []) → (ts ≡ []) × (u ≡ t)
first_is t u ts (inl e) = absurd (cc)
first_is t u ts (inr e) = (cc, cc)

has_needs : (c : Crossing) (log : List Crossing) → SafeMessages (c ∷ log) → Needs c log
has_needs (crossing.In m) log s =
    let same : same_flow m.flow m.flow ≡ true = same_flow-refl m.flow in
    elim (newest m.flow log) [
      | inl n ↦ absurd (let e : taken_in m.flow (crossing.In m ∷ log) ≡ [] = s.none_before [] (crossing.In m ∷ log) m.flow refl n in
          let z : m.text ∷ taken_in m.flow log ≡ [] = rw same at e in cc)
      | inr t ↦
          (let P : Flow → Type 0 = λ g. went_out g t.since ≡ false in
          let Q : Flow → Type 0 = λ g. (taken_in g (crossing.In m ∷ t.since) ≡ []) ⊎ (taken_in g (crossing.In m ∷ t.since) ≡ t.message.text ∷ []) in
          let here = subst Q t.flow (s.once [] (crossing.In m ∷ t.since) t.before t.message (ap (λ (zs : List Crossing). crossing.In m ∷ zs) t.parts) (subst P (sym t.flow) t.last)) in
          let there : (m.text ∷ taken_in m.flow t.since ≡ []) ⊎ (m.text ∷ taken_in m.flow t.since ≡ t.message.text ∷ []) = rw same at here in
          let found = first_is m.text t.message.text (taken_in m.flow t.since) there in
          elim (since_out m.flow t.message t.since t.before t.flow t.last) [
            | inl w ↦ ap (λ (zs : List Crossing). last m.flow zs) t.parts ∙ w.1 ∙ ap (λ (z : List Bool). Sent z) found.1
            | inr w ↦ absurd (w.0 found.0)
          ])
    ]
has_needs (crossing.Answer answer.Rfnm f) log s =
    let t = s.answered [] log f refl in
    elim (since_out f t.out.message t.out.since t.out.before t.out.flow t.out.last) [
      | inl w ↦ absurd (let bad : t.out.message.text ∷ [] ≡ [] = sym t.once ∙ w.0 in cc)
      | inr w ↦ ap (λ (zs : List Crossing). last f zs) t.out.parts ∙ w.1
    ]
has_needs (crossing.Out m) log s = tt
has_needs (crossing.Answer answer.Incomplete f) log s = tt
has_needs (crossing.Answer answer.Dead f) log s = tt
has_needs (crossing.Answer answer.NotTaken f) log s = tt
has_needs (crossing.Down h) log s = tt
has_needs (crossing.Up h) log s = tt

-- ---- what is noted

-- what is noted of a flow is what crossed last on it; the log is the oldest first
abbrev pub IsNoted : List Crossing → Held → Last → Type 0
IsNoted log held.Empty l = l ≡ Nothing
IsNoted log (held.Waiting place) l = (m : HostMessage) × (slice_get log place ≡ Some (crossing.Out m)) × (l ≡ Sent m.text)
IsNoted log (held.Taken place) l = l ≡ Took

abbrev pub AreNoted : List Crossing → map.FinMap flow_cmp Held → List Crossing → Type 0
AreNoted log notes older = (f : Flow) → IsNoted log (last_on notes f) (last f older)

noted_more : (log : List Crossing) (notes : map.FinMap flow_cmp Held) (place : ℕ) (c : Crossing) (older : List Crossing) → slice_get log place ≡ Some c
    → AreNoted log notes older → AreNoted log (noted place c notes) (c ∷ older)
noted_more log notes place (crossing.Out m) older e a = λ f.
    (let P : Option Held → Type 0 = λ o. IsNoted log (held_or o) (last f (crossing.Out m ∷ older)) in
    subst P (sym (get_set notes m.flow (held.Waiting place) f)) (by f (same_flow f m.flow)))
  where
    by : (f : Flow) (b : Bool) → IsNoted log (held_or (if b then Some (held.Waiting place) else map.get notes f)) (if b then Sent m.text else last f older)
    by f true = (m, e, refl)
    by f false = a f
noted_more log notes place (crossing.In m) older e a = λ f.
    (let P : Option Held → Type 0 = λ o. IsNoted log (held_or o) (last f (crossing.In m ∷ older)) in
    subst P (sym (get_set notes m.flow (held.Taken place) f)) (by f (same_flow f m.flow)))
  where
    by : (f : Flow) (b : Bool) → IsNoted log (held_or (if b then Some (held.Taken place) else map.get notes f)) (if b then Took else last f older)
    by f true = refl
    by f false = a f
noted_more log notes place (crossing.Answer kind g) older e a = a
noted_more log notes place (crossing.Down h) older e a = a
noted_more log notes place (crossing.Up h) older e a = a

waits_is : (log : List Crossing) (m : HostMessage) (h : Held) (l : Last) → IsNoted log h l → waits_with h log m.text ≡ true → l ≡ Sent m.text
waits_is log m held.Empty l n e = absurd (cc)
waits_is log m (held.Waiting place) l (o, at, is) e =
    let here : says (Some (crossing.Out o)) m.text ≡ true = ap (λ (z : Option Crossing). says z m.text) (sym at) ∙ e in
    is ∙ ap (λ (z : List Bool). Sent z) (same_text-true o.text m.text here)
waits_is log m (held.Taken place) l n e = absurd (cc)

is_waits : (log : List Crossing) (m : HostMessage) (h : Held) (l : Last) → IsNoted log h l → l ≡ Sent m.text → waits_with h log m.text ≡ true
is_waits log m held.Empty l n e = absurd (let bad : Nothing ≡ Sent m.text = sym n ∙ e in cc)
is_waits log m (held.Waiting place) l (o, at, is) e =
    ap (λ (z : Option Crossing). says z m.text) at ∙ same_text-is o.text m.text (sent_one o.text m.text (sym is ∙ e))
is_waits log m (held.Taken place) l n e = absurd (let bad : Took ≡ Sent m.text = sym n ∙ e in cc)

taken_is : (log : List Crossing) (h : Held) (l : Last) → IsNoted log h l → was_taken h ≡ true → l ≡ Took
taken_is log held.Empty l n e = absurd (cc)
taken_is log (held.Waiting place) l n e = absurd (cc)
taken_is log (held.Taken place) l n e = n

is_taken : (log : List Crossing) (h : Held) (l : Last) → IsNoted log h l → l ≡ Took → was_taken h ≡ true
is_taken log held.Empty l n e = absurd (let bad : Nothing ≡ Took = sym n ∙ e in cc)
is_taken log (held.Waiting place) l (o, at, is) e = absurd (let bad : Sent o.text ≡ Took = sym is ∙ e in cc)
is_taken log (held.Taken place) l n e = refl

found_needs : (log : List Crossing) (notes : map.FinMap flow_cmp Held) (older : List Crossing) (c : Crossing) → AreNoted log notes older → finds notes log c ≡ true → Needs c older
found_needs log notes older (crossing.Out m) a e = tt
found_needs log notes older (crossing.In m) a e = waits_is log m (last_on notes m.flow) (last m.flow older) (a m.flow) e
found_needs log notes older (crossing.Answer answer.Rfnm f) a e = taken_is log (last_on notes f) (last f older) (a f) e
found_needs log notes older (crossing.Answer answer.Incomplete f) a e = tt
found_needs log notes older (crossing.Answer answer.Dead f) a e = tt
found_needs log notes older (crossing.Answer answer.NotTaken f) a e = tt
found_needs log notes older (crossing.Down h) a e = tt
found_needs log notes older (crossing.Up h) a e = tt

needs_found : (log : List Crossing) (notes : map.FinMap flow_cmp Held) (older : List Crossing) (c : Crossing) → AreNoted log notes older → Needs c older → finds notes log c ≡ true
needs_found log notes older (crossing.Out m) a n = refl
needs_found log notes older (crossing.In m) a n = is_waits log m (last_on notes m.flow) (last m.flow older) (a m.flow) n
needs_found log notes older (crossing.Answer answer.Rfnm f) a n = is_taken log (last_on notes f) (last f older) (a f) n
needs_found log notes older (crossing.Answer answer.Incomplete f) a n = refl
needs_found log notes older (crossing.Answer answer.Dead f) a n = refl
needs_found log notes older (crossing.Answer answer.NotTaken f) a n = refl
needs_found log notes older (crossing.Down h) a n = refl
needs_found log notes older (crossing.Up h) a n = refl

-- ---- the search

pub none_noted : (log : List Crossing) (notes : map.FinMap flow_cmp Held) → notes ≡ map.empty → AreNoted log notes [] × SafeMessages []
none_noted log notes e = (
  λ f. (let P : Option Held → Type 0 = λ o. IsNoted log (held_or o) Nothing in subst P (sym (ap (λ (m : map.FinMap flow_cmp Held). map.get m f) e ∙ get-empty flow_cmp f)) refl),
  record { answered = answered; once = once; none_before = none },
) where
  answered : (newer older : List Crossing) (f : Flow) → [] ≡ newer ++ crossing.Answer answer.Rfnm f ∷ older → TakenOnce f older
  answered [] older f e = absurd (cc)
  answered (c ∷ newer) older f e = absurd (cc)

  once : (newer since older : List Crossing) (m : HostMessage) → [] ≡ newer ++ (since ++ crossing.Out m ∷ older) → went_out m.flow since ≡ false
      → (taken_in m.flow since ≡ []) ⊎ (taken_in m.flow since ≡ m.text ∷ [])
  once [] [] older m e w = absurd (cc)
  once [] (d ∷ since) older m e w = absurd (cc)
  once (c ∷ newer) since older m e w = absurd (cc)

  none : (newer older : List Crossing) (f : Flow) → [] ≡ newer ++ older → went_out f older ≡ false → taken_in f older ≡ []
  none [] [] f e w = refl
  none [] (c ∷ older) f e w = absurd (cc)
  none (c ∷ newer) older f e w = absurd (cc)

pub noted_next : (log : List Crossing) (notes more : map.FinMap flow_cmp Held) (n : ℕ) (c : Crossing) → n < length log → c ≡ get_or log n c → finds notes log c ≡ true
    → more ≡ noted n c notes → AreNoted log notes (reverse (take n log)) × SafeMessages (reverse (take n log))
    → AreNoted log more (reverse (take (n + 1) log)) × SafeMessages (reverse (take (n + 1) log))
noted_next log notes more n c h at e is inv =
    let here : slice_get log n ≡ Some c = slice_get_read log (length log) n c refl h at in
    let next : reverse (take (n + 1) log) ≡ c ∷ reverse (take n log) = one_back log n c h at in
    let P : map.FinMap flow_cmp Held → List Crossing → Type 0 = λ m zs. AreNoted log m zs in (
      subst (λ (m : map.FinMap flow_cmp Held). P m (reverse (take (n + 1) log))) (sym is)
          (subst (λ (zs : List Crossing). P (noted n c notes) zs) (sym next) (noted_more log notes n c (reverse (take n log)) here inv.0)),
      subst SafeMessages (sym next) (grows c (reverse (take n log)) inv.1 (found_needs log notes (reverse (take n log)) c inv.0 e)),
    )

pub noted_stops : (log : List Crossing) (notes : map.FinMap flow_cmp Held) (n : ℕ) (c : Crossing) → n < length log → c ≡ get_or log n c → finds notes log c ≡ false
    → AreNoted log notes (reverse (take n log)) × SafeMessages (reverse (take n log)) → EndsAt (λ k. SafeMessages (before k (reverse log))) n
noted_stops log notes n c h at e inv =
    let next : reverse (take (n + 1) log) ≡ c ∷ reverse (take n log) = one_back log n c h at in (
      subst SafeMessages (sym (before_place log n (omega (arith, h)))) inv.1,
      λ s.
          (let all : SafeMessages (c ∷ reverse (take n log)) = subst SafeMessages (before_place log (n + 1) (omega (arith, h)) ∙ next) s in
          let found = needs_found log notes (reverse (take n log)) c inv.0 (has_needs c (reverse (take n log)) all) in
          cc),
    )

pub noted_all : (log : List Crossing) (notes : map.FinMap flow_cmp Held) (n : ℕ) → length log ≤ n → AreNoted log notes (reverse (take n log)) × SafeMessages (reverse (take n log))
    → SafeMessages (reverse log)
noted_all log notes n h inv = let P : List Crossing → Type 0 = λ zs. SafeMessages (reverse zs) in subst P (take_all n log h) inv.1
