-- An end that the law of pairing has, beside its life's stage: what is said and heard of its two sockets moves both
-- alike.
use Rattle.world_keeps_streams.proofs.Common.{◌≡◌, ◌⊎◌, inl, inr, ℕ, ◌+◌, ◌<◌, ◌≤◌, ◌==◌, not, Bool, true, false, if◌then◌else◌, List, [], ◌∷◌, Option, Some, None, is_some, refl, ap, sym, subst, ◌∙◌, eq-eqb, arith, eqb-true, both, not_is, Ask, Close, Mark, all_lives_gone, all_lives_taken, none_some}
use Rattle.pairing_law.specs.Ends.{End, fits, is_begun, mark_taken, gone, nothing}
use Rattle.host_keeps_pairing.specs.Words.{AllFit, MayAllGo, all_gone, all_taken}
use Rattle.promise.specs.Ends.{Asking, Going, Over, Stage, own_asked, partner_asked, Closed}
use Rattle.pairing_law.specs.Sides as law
use Rattle.pairing_law.specs.Sides.{lives_opened}
use Rattle.promise.specs.declared.life.Life.{Life}
use Rattle.world_keeps_streams.proofs.Ends.Marks.{AllHere, AskOnce, NoAsk, NoClose, is_asking, never, over_heard, over_said, own_early, own_early_begun, own_mark, own_marks, partner_early, partner_early_begun, partner_mark, partner_marks}

module _ (x : Life) (place : ℕ) where
  -- ---- an end that is there by its own request, and what is said of it

  pub record SaysOn (ms : List Mark) (e : End) : Type 0 where
    pub stage : own_marks x place ms (Going e.gone e.taken) ≡ Going (all_gone ms e).gone (all_gone ms e).taken
    pub asked : (all_gone ms e).asked ≡ e.asked
    pub partner : (all_gone ms e).partner ≡ e.partner
    pub quiet : e.taken ≡ true → ms ≡ []

  pub record SaysOver (ms : List Mark) (e : End) : Type 0 where
    pub stage : own_marks x place ms (Going e.gone e.taken) ≡ Over (Closed false) place
    pub taken : e.taken ≡ true
    pub left : (n : ℕ) → x.own_stamp < n → MayAllGo ms e n → (all_gone ms e).asked ≡ Some x.own_stamp → ⊥

  closed_says : (ms : List Mark) (e : End) (n : ℕ) → e.gone ≡ true → MayAllGo ms e n → ms ≡ []
  closed_says [] e n closed may = refl
  closed_says (Ask p ∷ ms) e n closed may = never (sym closed ∙ may.0.1)
  closed_says (Close ∷ ms) e n closed may = never (sym closed ∙ may.0.1)

  other_asked : (ms : List Mark) (e : End) (n : ℕ) → x.own_stamp < n → (e.asked ≡ Some x.own_stamp → ⊥)
      → MayAllGo ms e n → (all_gone ms e).asked ≡ Some x.own_stamp → ⊥
  other_asked [] e n less off may is = off is
  other_asked (Ask p ∷ ms) e n less off may is =
      other_asked ms (gone (Ask p) e) (p + 1) (let l : n ≤ p = may.1 in omega (arith, l, less))
      (λ same. (let s : Some p ≡ Some x.own_stamp = same in let t : p ≡ x.own_stamp = cc in let l : n ≤ p = may.1 in absurd (omega (arith, l, less, t)))) may.2 is
  other_asked (Close ∷ ms) e n less off may is = other_asked ms (gone Close e) n less (closed e.taken) may.2 is where
    closed : (v : Bool) → (if v then nothing else record e { gone = true }).asked ≡ Some x.own_stamp → ⊥
    closed true same = none_some x.own_stamp same
    closed false same = off same

  pub says_lock : (ms : List Mark) (e : End) (n a : ℕ) → e.asked ≡ Some a → MayAllGo ms e n
      → SaysOn ms e ⊎ SaysOver ms e
  says_lock [] e n a asked may = inl (record { stage = refl; asked = refl; partner = refl; quiet = λ t. refl })
  says_lock (Ask p ∷ ms) e n a asked may = none_some a (sym may.0.0 ∙ asked)
  says_lock (Close ∷ ms) e n a asked may = by e.taken refl where
    over : e.taken ≡ true → SaysOver (Close ∷ ms) e
    over t = record {
      stage = ap (λ (v : Bool). own_marks x place ms (if v then Over (Closed false) place else Going true false)) t ∙ over_said x place ms false;
      taken = t;
      left = λ m less goes is. other_asked ms (gone Close e) m less (λ same. none_some x.own_stamp (sym (ap (λ (v : Bool). (if v then nothing else record e { gone = true }).asked) t) ∙ same)) goes.2 is;
    }

    on : e.taken ≡ false → SaysOn (Close ∷ ms) e
    on t = record {
      stage =
          subst (λ (ns : List Mark). own_marks x place ns (own_mark x place Close (Going e.gone e.taken)) ≡ Going (all_gone ns (gone Close e)).gone (all_gone ns (gone Close e)).taken) (sym none)
          (subst (λ (v : Bool). (if v then Over (Closed false) place else Going true false) ≡ Going (if v then nothing else record e { gone = true }).gone (if v then nothing else record e { gone = true }).taken) (sym t)
          (ap (λ (w : Bool). Going true w) (sym t)));
      asked = ap (λ (ns : List Mark). (all_gone ns (gone Close e)).asked) none ∙ ap (λ (v : Bool). (if v then nothing else record e { gone = true }).asked) t;
      partner = ap (λ (ns : List Mark). (all_gone ns (gone Close e)).partner) none ∙ ap (λ (v : Bool). (if v then nothing else record e { gone = true }).partner) t;
      quiet = λ u. never (sym u ∙ t);
    } where
      none : ms ≡ []
      none = closed_says ms (gone Close e) n (ap (λ (v : Bool). (if v then nothing else record e { gone = true }).gone) t) may.2

    by : (v : Bool) → e.taken ≡ v → SaysOn (Close ∷ ms) e ⊎ SaysOver (Close ∷ ms) e
    by true t = inr (over t)
    by false t = inl (on t)

  -- ---- and what is heard of it

  pub record HearsOn (ms : List Mark) (e : End) : Type 0 where
    pub stage : partner_marks x place ms (Going e.gone e.taken) ≡ Going (all_taken ms e).gone (all_taken ms e).taken
    pub asked : (all_taken ms e).asked ≡ e.asked
    pub partner : (all_taken ms e).partner ≡ e.partner
    pub quiet : e.gone ≡ true → ms ≡ []

  pub record HearsOver (ms : List Mark) (e : End) : Type 0 where
    pub stage : partner_marks x place ms (Going e.gone e.taken) ≡ Over (Closed true) place
    pub gone : e.gone ≡ true
    pub left : (all_taken ms e).asked ≡ None

  -- in order are a request where there is none and no CLS came, and the first CLS
  fit_ask : (p : ℕ) (e : End) → fits (Ask p) e ≡ true → (is_some e.partner ≡ false) × (e.taken ≡ false)
  fit_ask p e fit = let k : (not (is_some e.partner) ≡ true) × (not e.taken ≡ true) = both _ _ fit in (not_is _ k.0, not_is e.taken k.1)

  fit_close : (e : End) → fits Close e ≡ true → e.taken ≡ false
  fit_close e fit = not_is e.taken (both _ _ fit).1

  closed_hears : (ms : List Mark) (e : End) → e.taken ≡ true → AllFit ms e → ms ≡ []
  closed_hears [] e closed fit = refl
  closed_hears (Ask p ∷ ms) e closed fit = never (sym closed ∙ (fit_ask p e fit.0).1)
  closed_hears (Close ∷ ms) e closed fit = never (sym closed ∙ fit_close e fit.0)

  pub unasked_hears : (ms : List Mark) (e : End) → e.asked ≡ None → (all_taken ms e).asked ≡ None
  unasked_hears [] e none = none
  unasked_hears (Ask p ∷ ms) e none = unasked_hears ms (mark_taken (Ask p) e) none
  unasked_hears (Close ∷ ms) e none = unasked_hears ms (mark_taken Close e) (closed e.gone) where
    closed : (v : Bool) → (if v then nothing else record e { taken = true }).asked ≡ None
    closed true = refl
    closed false = none

  pub hears_lock : (ms : List Mark) (e : End) → is_some e.partner ≡ true → AllFit ms e → HearsOn ms e ⊎ HearsOver ms e
  hears_lock [] e partner fit = inl (record { stage = refl; asked = refl; partner = refl; quiet = λ t. refl })
  hears_lock (Ask p ∷ ms) e partner fit = never (sym partner ∙ (fit_ask p e fit.0).0)
  hears_lock (Close ∷ ms) e partner fit = by e.gone refl where
    over : e.gone ≡ true → HearsOver (Close ∷ ms) e
    over t = record {
      stage = ap (λ (v : Bool). partner_marks x place ms (if v then Over (Closed true) place else Going false true)) t ∙ over_heard x place ms true;
      gone = t;
      left = unasked_hears ms (mark_taken Close e) (ap (λ (v : Bool). (if v then nothing else record e { taken = true }).asked) t);
    }

    on : e.gone ≡ false → HearsOn (Close ∷ ms) e
    on t = record {
      stage =
          subst (λ (ns : List Mark). partner_marks x place ns (partner_mark x place Close (Going e.gone e.taken)) ≡ Going (all_taken ns (mark_taken Close e)).gone (all_taken ns (mark_taken Close e)).taken) (sym none)
          (subst (λ (v : Bool). (if v then Over (Closed true) place else Going false true) ≡ Going (if v then nothing else record e { taken = true }).gone (if v then nothing else record e { taken = true }).taken) (sym t)
          (ap (λ (w : Bool). Going w true) (sym t)));
      asked = ap (λ (ns : List Mark). (all_taken ns (mark_taken Close e)).asked) none ∙ ap (λ (v : Bool). (if v then nothing else record e { taken = true }).asked) t;
      partner = ap (λ (ns : List Mark). (all_taken ns (mark_taken Close e)).partner) none ∙ ap (λ (v : Bool). (if v then nothing else record e { taken = true }).partner) t;
      quiet = λ u. never (sym u ∙ t);
    } where
      none : ms ≡ []
      none = closed_hears ms (mark_taken Close e) (ap (λ (v : Bool). (if v then nothing else record e { taken = true }).taken) t) fit.1

    by : (v : Bool) → e.gone ≡ v → HearsOn (Close ∷ ms) e ⊎ HearsOver (Close ∷ ms) e
    by true t = inr (over t)
    by false t = inl (on t)

  -- ---- a life that begins

  pub begin_says : (ms : List Mark) (e : End) (n a : ℕ) → AllHere place ms → x.own_stamp ≡ place → e.taken ≡ false
      → e.asked ≡ None → MayAllGo ms e n → (all_gone ms e).asked ≡ Some a
      → own_marks x place ms (Asking false true) ≡ Going (all_gone ms e).gone (all_gone ms e).taken
  begin_says [] e n a here own clear none may is = none_some a (sym none ∙ is)
  begin_says (Ask p ∷ ms) e n a here own clear none may is = elim (says_lock ms (gone (Ask p) e) (p + 1) p refl may.2) [
    | inl on ↦ ap (λ (s : Stage). own_marks x place ms s) (begun (place == x.own_stamp) (eq-eqb place x.own_stamp (sym own))) ∙ on.stage
    | inr over ↦ never (sym over.taken ∙ clear)
  ] where
    begun : (v : Bool) → v ≡ true
        → (if v then own_asked (Asking false true) else Asking false true) ≡ Going e.gone e.taken
    begun true t = ap (λ (w : Bool). Going false w) (sym clear) ∙ ap (λ (w : Bool). Going w e.taken) (sym may.0.1)
    begun false t = never (sym t)
  begin_says (Close ∷ ms) e n a here own clear none may is =
      none_some a (sym none ∙ sym (ap (λ (v : Bool). (if v then nothing else record e { gone = true }).asked) clear) ∙ sym (ap (λ (ns : List Mark). (all_gone ns (gone Close e)).asked) rest) ∙ is) where
        rest : ms ≡ []
        rest = closed_says ms (gone Close e) n (ap (λ (v : Bool). (if v then nothing else record e { gone = true }).gone) clear) may.2

  pub begin_hears : (ms : List Mark) (e : End) (b : ℕ) → AllHere place ms → x.partner_stamp ≡ place → e.gone ≡ false
      → e.partner ≡ None → AllFit ms e → (all_taken ms e).partner ≡ Some b
      → partner_marks x place ms (Asking true false) ≡ Going (all_taken ms e).gone (all_taken ms e).taken
  begin_hears [] e b here partner clear none fit is = none_some b (sym none ∙ is)
  begin_hears (Ask p ∷ ms) e b here partner clear none fit is = elim (hears_lock ms (mark_taken (Ask p) e) refl fit.1) [
    | inl on ↦ ap (λ (s : Stage). partner_marks x place ms s) (begun (place == x.partner_stamp) (eq-eqb place x.partner_stamp (sym partner))) ∙ on.stage
    | inr over ↦ never (sym over.gone ∙ clear)
  ] where
    begun : (v : Bool) → v ≡ true
        → (if v then partner_asked (Asking true false) else Asking true false) ≡ Going e.gone e.taken
    begun true t = ap (λ (w : Bool). Going false w) (sym (fit_ask p e fit.0).1) ∙ ap (λ (w : Bool). Going w e.taken) (sym clear)
    begun false t = never (sym t)
  begin_hears (Close ∷ ms) e b here partner clear none fit is =
      none_some b (sym none ∙ sym (ap (λ (v : Bool). (if v then nothing else record e { taken = true }).partner) clear) ∙ sym (ap (λ (ns : List Mark). (all_taken ns (mark_taken Close e)).partner) rest) ∙ is) where
        rest : ms ≡ []
        rest = closed_hears ms (mark_taken Close e) (ap (λ (v : Bool). (if v then nothing else record e { taken = true }).taken) clear) fit.1

  pub begin_says_early : (ms : List Mark) (e : End) (n a : ℕ) → x.own_stamp ≡ place → e.taken ≡ false → e.asked ≡ None
      → MayAllGo ms e n → (all_gone ms e).asked ≡ Some a → own_early x place ms (Asking false true) ≡ false
  begin_says_early [] e n a own clear none may is = refl
  begin_says_early (Ask p ∷ ms) e n a own clear none may is =
      own_early_begun x place ms (if place == x.own_stamp then own_asked (Asking false true) else Asking false true)
      (begun (place == x.own_stamp) (eq-eqb place x.own_stamp (sym own))) where
        begun : (v : Bool) → v ≡ true
            → is_asking (if v then own_asked (Asking false true) else Asking false true) ≡ false
        begun true t = refl
        begun false t = never (sym t)
  begin_says_early (Close ∷ ms) e n a own clear none may is =
      none_some a (sym none ∙ sym (ap (λ (v : Bool). (if v then nothing else record e { gone = true }).asked) clear)
      ∙ sym (ap (λ (ns : List Mark). (all_gone ns (gone Close e)).asked) rest) ∙ is) where
        rest : ms ≡ []
        rest =
            closed_says ms (gone Close e) n
            (ap (λ (v : Bool). (if v then nothing else record e { gone = true }).gone) clear) may.2

  pub begin_hears_early : (ms : List Mark) (e : End) (b : ℕ) → x.partner_stamp ≡ place → e.gone ≡ false
      → e.partner ≡ None → AllFit ms e → (all_taken ms e).partner ≡ Some b
      → partner_early x place ms (Asking true false) ≡ false
  begin_hears_early [] e b partner clear none fit is = refl
  begin_hears_early (Ask p ∷ ms) e b partner clear none fit is =
      partner_early_begun x place ms (if place == x.partner_stamp then partner_asked (Asking true false) else Asking true false)
      (begun (place == x.partner_stamp) (eq-eqb place x.partner_stamp (sym partner))) where
        begun : (v : Bool) → v ≡ true → is_asking (if v then partner_asked
            (Asking true false) else Asking true false) ≡ false
        begun true t = refl
        begun false t = never (sym t)
  begin_hears_early (Close ∷ ms) e b partner clear none fit is =
      none_some b (sym none ∙ sym (ap (λ (v : Bool). (if v then nothing else record e { taken = true }).partner) clear)
      ∙ sym (ap (λ (ns : List Mark). (all_taken ns (mark_taken Close e)).partner) rest) ∙ is) where
        rest : ms ≡ []
        rest =
            closed_hears ms (mark_taken Close e)
            (ap (λ (v : Bool). (if v then nothing else record e { taken = true }).taken) clear) fit.1

  -- what is asked for here is named by this place
  pub asks_here : (ms : List Mark) (e : End) (a : ℕ) → AllHere place ms → e.asked ≡ None
      → (all_gone ms e).asked ≡ Some a → a ≡ place
  asks_here ms e a here none is = by ms e here (inl none) is where
    by : (ms : List Mark) (e : End) → AllHere place ms → (e.asked ≡ None) ⊎ (e.asked ≡ Some place)
        → (all_gone ms e).asked ≡ Some a → a ≡ place
    by [] e here (inl none) is = none_some a (sym none ∙ is)
    by [] e here (inr some) is = let same : Some place ≡ Some a = sym some ∙ is in cc
    by (Ask p ∷ ms) e here o is = by ms (gone (Ask p) e) here.1 (inr (ap (λ (q : ℕ). Some q) here.0)) is
    by (Close ∷ ms) e here o is = by ms (gone Close e) here (closed e.taken) is where
      closed : (v : Bool)
          → ((if v then nothing else record e { gone = true }).asked ≡ None) ⊎ ((if v then nothing else record e { gone = true }).asked ≡ Some place)
      closed true = inl refl
      closed false = o

  pub hears_here : (ms : List Mark) (e : End) (b : ℕ) → AllHere place ms → e.partner ≡ None
      → (all_taken ms e).partner ≡ Some b → b ≡ place
  hears_here ms e b here none is = by ms e here (inl none) is where
    by : (ms : List Mark) (e : End) → AllHere place ms → (e.partner ≡ None) ⊎ (e.partner ≡ Some place)
        → (all_taken ms e).partner ≡ Some b → b ≡ place
    by [] e here (inl none) is = none_some b (sym none ∙ is)
    by [] e here (inr some) is = let same : Some place ≡ Some b = sym some ∙ is in cc
    by (Ask p ∷ ms) e here o is = by ms (mark_taken (Ask p) e) here.1 (inr (ap (λ (q : ℕ). Some q) here.0)) is
    by (Close ∷ ms) e here o is = by ms (mark_taken Close e) here (closed e.gone) is where
      closed : (v : Bool)
          → ((if v then nothing else record e { taken = true }).partner ≡ None) ⊎ ((if v then nothing else record e { taken = true }).partner ≡ Some place)
      closed true = inl refl
      closed false = o

  -- what is asked for is of here, or was there
  pub said_from : (ms : List Mark) (e : End) (a : ℕ) → AllHere place ms → (all_gone ms e).asked ≡ Some a
      → (a ≡ place) ⊎ (e.asked ≡ Some a)
  said_from [] e a here is = inr is
  said_from (Ask p ∷ ms) e a here is = elim (said_from ms (gone (Ask p) e) a here.1 is) [
    | inl at ↦ inl at
    | inr same ↦ inl (let t : p ≡ a = (let u : Some p ≡ Some a = same in cc) in sym t ∙ here.0)
  ]
  said_from (Close ∷ ms) e a here is = elim (said_from ms (gone Close e) a here is) [
    | inl at ↦ inl at
    | inr same ↦ inr (closed e.taken same)
  ] where
    closed : (v : Bool) → (if v then nothing else record e { gone = true }).asked ≡ Some a → e.asked ≡ Some a
    closed true same = none_some a same
    closed false same = same

  -- ---- while one of them has, no CLS comes

  -- its own request is there, and nothing more is said of it
  pub said_none : (ms : List Mark) (e : End) (n : ℕ) → x.own_stamp < n → e.asked ≡ Some x.own_stamp → MayAllGo ms e n
      → (all_gone ms e).asked ≡ Some x.own_stamp → (all_gone ms e).gone ≡ false → ms ≡ []
  said_none [] e n less has may is on = refl
  said_none (Ask p ∷ ms) e n less has may is on = none_some x.own_stamp (sym may.0.0 ∙ has)
  said_none (Close ∷ ms) e n less has may is on = by e.taken refl where
    by : (v : Bool) → e.taken ≡ v → Close ∷ ms ≡ []
    by true t =
        absurd (other_asked ms (gone Close e) n less (λ same. none_some x.own_stamp
        (sym (ap (λ (v : Bool). (if v then nothing else record e { gone = true }).asked) t) ∙ same)) may.2 is)
    by false t =
        let shut : (if e.taken then nothing else record e { gone = true }).gone ≡ true =
        ap (λ (v : Bool). (if v then nothing else record e { gone = true }).gone) t in
        let rest : ms ≡ [] = closed_says ms (gone Close e) n shut may.2 in
        never (sym shut ∙ sym (ap (λ (ns : List Mark). (all_gone ns (gone Close e)).gone) rest) ∙ on)

  -- its own request goes out here
  pub own_first : (ms : List Mark) (e : End) (n : ℕ) → AllHere place ms → place ≡ x.own_stamp → MayAllGo ms e n
      → (e.asked ≡ Some x.own_stamp → ⊥) → (all_gone ms e).asked ≡ Some x.own_stamp → (all_gone ms e).gone ≡ false
      → (own_marks x place ms (Asking false false) ≡ Asking true false) × (own_early x place ms (Asking false false) ≡ false)
  own_first [] e n here at may off is on = absurd (off is)
  own_first (Ask p ∷ ms) e n here at may off is on = (
    ap (λ (ns : List Mark). own_marks x place ns (own_mark x place (Ask p) (Asking false false))) rest
        ∙ begun (place == x.own_stamp) (eq-eqb place x.own_stamp at),
    ap (λ (ns : List Mark). own_early x place ns (own_mark x place (Ask p) (Asking false false))) rest,
  ) where
    rest : ms ≡ []
    rest =
        said_none ms (gone (Ask p) e) (p + 1) (let q : p ≡ place = here.0 in omega (arith, q, at))
        (ap (λ (q : ℕ). Some q) (here.0 ∙ at)) may.2 is on

    begun : (v : Bool) → v ≡ true →
        (if v then own_asked (Asking false false) else Asking false false) ≡ Asking true false
    begun true t = refl
    begun false t = never (sym t)
  own_first (Close ∷ ms) e n here at may off is on =
      own_first ms (gone Close e) n here at may.2 (closed e.taken) is on where
        closed : (v : Bool) → (if v then nothing else record e { gone = true }).asked ≡ Some x.own_stamp → ⊥
        closed true same = none_some x.own_stamp same
        closed false same = off same

  unpartnered_says : (ms : List Mark) (e : End) → e.partner ≡ None → (all_gone ms e).partner ≡ None
  unpartnered_says [] e none = none
  unpartnered_says (Ask p ∷ ms) e none = unpartnered_says ms (gone (Ask p) e) none
  unpartnered_says (Close ∷ ms) e none = unpartnered_says ms (gone Close e) (closed e.taken) where
    closed : (v : Bool) → (if v then nothing else record e { gone = true }).partner ≡ None
    closed true = refl
    closed false = none

  -- the partner's is there, and no CLS is said
  pub said_open : (ms : List Mark) (e : End) (n b : ℕ) → MayAllGo ms e n → (all_gone ms e).partner ≡ Some b
      → (all_gone ms e).gone ≡ false → NoClose ms
  said_open [] e n b may is on = tt
  said_open (Ask p ∷ ms) e n b may is on = said_open ms (gone (Ask p) e) (p + 1) b may.2 is on
  said_open (Close ∷ ms) e n b may is on = by e.taken refl where
    by : (v : Bool) → e.taken ≡ v → ⊥
    by true t =
        none_some b (sym (unpartnered_says ms (gone Close e) (ap (λ (v : Bool).
        (if v then nothing else record e { gone = true }).partner) t)) ∙ is)
    by false t =
        let shut : (if e.taken then nothing else record e { gone = true }).gone ≡ true =
        ap (λ (v : Bool). (if v then nothing else record e { gone = true }).gone) t in
        let rest : ms ≡ [] = closed_says ms (gone Close e) n shut may.2 in
        never (sym shut ∙ sym (ap (λ (ns : List Mark). (all_gone ns (gone Close e)).gone) rest) ∙ on)

  pub said_gone : (ms : List Mark) (e : End) → NoClose ms → (all_gone ms e).gone ≡ e.gone
  said_gone [] e none = refl
  said_gone (Ask p ∷ ms) e none = said_gone ms (gone (Ask p) e) none
  said_gone (Close ∷ ms) e none = absurd none

  pub said_taken : (ms : List Mark) (e : End) → NoClose ms → (all_gone ms e).taken ≡ e.taken
  said_taken [] e none = refl
  said_taken (Ask p ∷ ms) e none = said_taken ms (gone (Ask p) e) none
  said_taken (Close ∷ ms) e none = absurd none

  pub partner_unclosed : (ms : List Mark) → NoClose ms → (x.own_stamp ≡ place → ⊥)
      → own_early x place ms (Asking false true) ≡ false
  partner_unclosed [] none off = refl
  partner_unclosed (Ask p ∷ ms) none off =
      ap (λ (s : Stage). own_early x place ms s) (by (place == x.own_stamp) refl) ∙ partner_unclosed ms none off where
        by : (v : Bool) → (place == x.own_stamp) ≡ v → (if v then own_asked
            (Asking false true) else Asking false true) ≡ Asking false true
        by true e = absurd (off (sym (eqb-true place x.own_stamp e)))
        by false e = refl
  partner_unclosed (Close ∷ ms) none off = absurd none

  -- its own request is there, and no CLS is heard
  pub heard_open : (ms : List Mark) (e : End) (a : ℕ) → AllFit ms e → (all_taken ms e).asked ≡ Some a
      → (all_taken ms e).taken ≡ false → NoClose ms
  heard_open [] e a fit is on = tt
  heard_open (Ask p ∷ ms) e a fit is on = heard_open ms (mark_taken (Ask p) e) a fit.1 is on
  heard_open (Close ∷ ms) e a fit is on = by e.gone refl where
    by : (v : Bool) → e.gone ≡ v → ⊥
    by true t =
        none_some a (sym (unasked_hears ms (mark_taken Close e) (ap (λ (v : Bool).
        (if v then nothing else record e { taken = true }).asked) t)) ∙ is)
    by false t =
        let shut : (if e.gone then nothing else record e { taken = true }).taken ≡ true =
        ap (λ (v : Bool). (if v then nothing else record e { taken = true }).taken) t in
        let rest : ms ≡ [] = closed_hears ms (mark_taken Close e) shut fit.1 in
        never (sym shut ∙ sym (ap (λ (ns : List Mark). (all_taken ns (mark_taken Close e)).taken) rest) ∙ on)

  pub heard_gone : (ms : List Mark) (e : End) → NoClose ms → (all_taken ms e).gone ≡ e.gone
  heard_gone [] e none = refl
  heard_gone (Ask p ∷ ms) e none = heard_gone ms (mark_taken (Ask p) e) none
  heard_gone (Close ∷ ms) e none = absurd none

  pub heard_taken : (ms : List Mark) (e : End) → NoClose ms → (all_taken ms e).taken ≡ e.taken
  heard_taken [] e none = refl
  heard_taken (Ask p ∷ ms) e none = heard_taken ms (mark_taken (Ask p) e) none
  heard_taken (Close ∷ ms) e none = absurd none

  pub own_unclosed : (ms : List Mark) → NoClose ms → (x.partner_stamp ≡ place → ⊥)
      → partner_early x place ms (Asking true false) ≡ false
  own_unclosed [] none off = refl
  own_unclosed (Ask p ∷ ms) none off =
      ap (λ (s : Stage). partner_early x place ms s) (by (place == x.partner_stamp) refl) ∙ own_unclosed ms none off where
        by : (v : Bool) → (place == x.partner_stamp) ≡ v → (if v then partner_asked
            (Asking true false) else Asking true false) ≡ Asking true false
        by true e = absurd (off (sym (eqb-true place x.partner_stamp e)))
        by false e = refl
  own_unclosed (Close ∷ ms) none off = absurd none

  unpartnered_hears : (ms : List Mark) (e : End) → NoAsk ms → e.partner ≡ None → (all_taken ms e).partner ≡ None
  unpartnered_hears [] e once none = none
  unpartnered_hears (Ask p ∷ ms) e once none = absurd once
  unpartnered_hears (Close ∷ ms) e once none = unpartnered_hears ms (mark_taken Close e) once (closed e.gone) where
    closed : (v : Bool) → (if v then nothing else record e { taken = true }).partner ≡ None
    closed true = refl
    closed false = none

  -- nothing more is heard after the partner's request
  heard_none : (ms : List Mark) (e : End) (b : ℕ) → NoAsk ms → AllFit ms e → (all_taken ms e).partner ≡ Some b
      → (all_taken ms e).taken ≡ false → ms ≡ []
  heard_none [] e b once fit is on = refl
  heard_none (Ask p ∷ ms) e b once fit is on = absurd once
  heard_none (Close ∷ ms) e b once fit is on = by e.gone refl where
    by : (v : Bool) → e.gone ≡ v → Close ∷ ms ≡ []
    by true t =
        none_some b (sym (unpartnered_hears ms (mark_taken Close e) once
        (ap (λ (v : Bool). (if v then nothing else record e { taken = true }).partner) t)) ∙ is)
    by false t =
        let shut : (if e.gone then nothing else record e { taken = true }).taken ≡ true =
        ap (λ (v : Bool). (if v then nothing else record e { taken = true }).taken) t in
        let rest : ms ≡ [] = closed_hears ms (mark_taken Close e) shut fit.1 in
        never (sym shut ∙ sym (ap (λ (ns : List Mark). (all_taken ns (mark_taken Close e)).taken) rest) ∙ on)

  -- the partner's request comes here
  pub partner_first : (ms : List Mark) (e : End) → place ≡ x.partner_stamp → AskOnce ms → AllFit ms e
      → (e.partner ≡ Some x.partner_stamp → ⊥) → (all_taken ms e).partner ≡ Some x.partner_stamp
      → (all_taken ms e).taken ≡ false
      → (partner_marks x place ms (Asking false false) ≡ Asking false true) × (partner_early x place ms (Asking false false) ≡ false)
  partner_first [] e at once fit off is on = absurd (off is)
  partner_first (Ask p ∷ ms) e at once fit off is on = (
    ap (λ (ns : List Mark). partner_marks x place ns (partner_mark x place (Ask p) (Asking false false))) rest
        ∙ begun _ (eq-eqb place x.partner_stamp at),
    ap (λ (ns : List Mark). partner_early x place ns (partner_mark x place (Ask p) (Asking false false))) rest,
  ) where
    rest : ms ≡ []
    rest = heard_none ms _ x.partner_stamp once fit.1 is on

    begun : (v : Bool) → v ≡ true →
        (if v then partner_asked (Asking false false) else Asking false false) ≡ Asking false true
    begun true t = refl
    begun false t = never (sym t)
  partner_first (Close ∷ ms) e at once fit off is on =
      partner_first ms (mark_taken Close e) at once fit.1 (closed e.gone) is on where
        closed : (v : Bool) → (if v then nothing else record e { taken = true }).partner ≡ Some x.partner_stamp → ⊥
        closed true same = none_some x.partner_stamp same
        closed false same = off same

  -- it is there, and nothing more is heard of it
  pub heard_still : (ms : List Mark) (e : End) → AllHere place ms → (x.partner_stamp ≡ place → ⊥)
      → e.partner ≡ Some x.partner_stamp → AllFit ms e → (all_taken ms e).partner ≡ Some x.partner_stamp
      → (all_taken ms e).taken ≡ false → ms ≡ []
  heard_still [] e here off has fit is on = refl
  heard_still (Ask p ∷ ms) e here off has fit is on = never (sym (ap is_some has) ∙ (fit_ask p e fit.0).0)
  heard_still (Close ∷ ms) e here off has fit is on = by e.gone refl where
    by : (v : Bool) → e.gone ≡ v → Close ∷ ms ≡ []
    by true t =
        absurd (off (hears_here ms (mark_taken Close e) x.partner_stamp here
        (ap (λ (v : Bool). (if v then nothing else record e { taken = true }).partner) t) is))
    by false t =
        let shut : (if e.gone then nothing else record e { taken = true }).taken ≡ true =
        ap (λ (v : Bool). (if v then nothing else record e { taken = true }).taken) t in
        let rest : ms ≡ [] = closed_hears ms (mark_taken Close e) shut fit.1 in
        never (sym shut ∙ sym (ap (λ (ns : List Mark). (all_taken ns (mark_taken Close e)).taken) rest) ∙ on)

  -- what is heard is of here, or was there
  pub heard_from : (ms : List Mark) (e : End) (b : ℕ) → AllHere place ms → (all_taken ms e).partner ≡ Some b
      → (b ≡ place) ⊎ (e.partner ≡ Some b)
  heard_from [] e b here is = inr is
  heard_from (Ask p ∷ ms) e b here is = elim (heard_from ms (mark_taken (Ask p) e) b here.1 is) [
    | inl at ↦ inl at
    | inr same ↦ inl (let t : p ≡ b = (let u : Some p ≡ Some b = same in cc) in sym t ∙ here.0)
  ]
  heard_from (Close ∷ ms) e b here is = elim (heard_from ms (mark_taken Close e) b here is) [
    | inl at ↦ inl at
    | inr same ↦ inr (closed e.gone same)
  ] where
    closed : (v : Bool) → (if v then nothing else record e { taken = true }).partner ≡ Some b → e.partner ≡ Some b
    closed true same = none_some b same
    closed false same = same

  -- what the other host's side of it is stays as it was
  pub asked_heard : (ms : List Mark) (e : End) (a : ℕ) → (all_taken ms e).asked ≡ Some a → e.asked ≡ Some a
  asked_heard [] e a is = is
  asked_heard (Ask p ∷ ms) e a is = asked_heard ms (mark_taken (Ask p) e) a is
  asked_heard (Close ∷ ms) e a is = closed e.gone (asked_heard ms (mark_taken Close e) a is) where
    closed : (v : Bool) → (if v then nothing else record e { taken = true }).asked ≡ Some a → e.asked ≡ Some a
    closed true same = none_some a same
    closed false same = same

  pub partner_said : (ms : List Mark) (e : End) (b : ℕ) → (all_gone ms e).partner ≡ Some b → e.partner ≡ Some b
  partner_said [] e b is = is
  partner_said (Ask p ∷ ms) e b is = partner_said ms (gone (Ask p) e) b is
  partner_said (Close ∷ ms) e b is = closed e.taken (partner_said ms (gone Close e) b is) where
    closed : (v : Bool) → (if v then nothing else record e { gone = true }).partner ≡ Some b → e.partner ≡ Some b
    closed true same = none_some b same
    closed false same = same

  pub own_stays : (ms : List Mark) → (x.partner_stamp ≡ place → ⊥)
      → partner_marks x place ms (Asking true false) ≡ Asking true false
  own_stays [] off = refl
  own_stays (Ask p ∷ ms) off = ap (λ (s : Stage). partner_marks x place ms s) (by (place == x.partner_stamp) refl) ∙ own_stays ms off where
    by : (v : Bool) → (place == x.partner_stamp) ≡ v
        → (if v then partner_asked (Asking true false) else Asking true false) ≡ Asking true false
    by true e = absurd (off (sym (eqb-true place x.partner_stamp e)))
    by false e = refl
  own_stays (Close ∷ ms) off = own_stays ms off

  pub partner_stays : (ms : List Mark) → (x.own_stamp ≡ place → ⊥)
      → own_marks x place ms (Asking false true) ≡ Asking false true
  partner_stays [] off = refl
  partner_stays (Ask p ∷ ms) off = ap (λ (s : Stage). own_marks x place ms s) (by (place == x.own_stamp) refl) ∙ partner_stays ms off where
    by : (v : Bool) → (place == x.own_stamp) ≡ v
        → (if v then own_asked (Asking false true) else Asking false true) ≡ Asking false true
    by true e = absurd (off (sym (eqb-true place x.own_stamp e)))
    by false e = refl
  partner_stays (Close ∷ ms) off = partner_stays ms off

  -- ---- no opening is reported without a request of the other side

  pub none_says : (ms : List Mark) (e : End) (n : ℕ) → (is_some e.asked ≡ true) ⊎ (e.partner ≡ None) → MayAllGo ms e n
      → all_lives_gone ms e [] ≡ []
  none_says [] e n o may = refl
  none_says (Ask p ∷ ms) e n (inl some) may = never (sym some ∙ ap is_some may.0.0)
  none_says (Ask p ∷ ms) e n (inr none) may =
      ap (λ (ls : List law.Life). all_lives_gone ms (gone (Ask p) e) ls) (ap (λ (o : Option ℕ). lives_opened (Some p) o []) none) ∙ none_says ms (gone (Ask p) e) (p + 1) (inr none) may.2
  none_says (Close ∷ ms) e n o may = none_says ms (gone Close e) n (closed e.taken o) may.2 where
    closed : (v : Bool) → (is_some e.asked ≡ true) ⊎ (e.partner ≡ None)
        → (is_some (if v then nothing else record e { gone = true }).asked ≡ true) ⊎ ((if v then nothing else record e { gone = true }).partner ≡ None)
    closed true o = inr refl
    closed false o = o

  pub none_hears : (ms : List Mark) (e : End) → (e.asked ≡ None) ⊎ (is_some e.partner ≡ true) → AllFit ms e
      → all_lives_taken ms e [] ≡ []
  none_hears [] e o fit = refl
  none_hears (Ask p ∷ ms) e (inr some) fit = never (sym some ∙ (fit_ask p e fit.0).0)
  none_hears (Ask p ∷ ms) e (inl none) fit =
      ap (λ (ls : List law.Life). all_lives_taken ms (mark_taken (Ask p) e) ls) (ap (λ (o : Option ℕ). lives_opened o (Some p) []) none) ∙ none_hears ms (mark_taken (Ask p) e) (inl none) fit.1
  none_hears (Close ∷ ms) e o fit = none_hears ms (mark_taken Close e) (closed e.gone o) fit.1 where
    closed : (v : Bool) → (e.asked ≡ None) ⊎ (is_some e.partner ≡ true)
        → ((if v then nothing else record e { taken = true }).asked ≡ None) ⊎ (is_some (if v then nothing else record e { taken = true }).partner ≡ true)
    closed true o = inl refl
    closed false o = o
