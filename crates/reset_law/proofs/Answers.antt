-- An answer that a host is given keeps the invariant.
use Rattle.reset_law.proofs.Common.{is_some, Answer, Phase, Closed, Want, Gone, Heard, Ready, Box, Empty, Waiting, Taken, Fits, at_link}
use Rattle.std.proofs.Common.{◌≡◌, ◌≢◌, ◌⊎◌, ℕ, Bool, true, false, Option, Some, None, refl, ap, sym, subst, ◌∙◌, inl, inr, if◌then◌else◌}
use Rattle.interface.specs.declared.crossing.Answer.TheVariants as answer
use Rattle.ncp_control.specs.Phases.{rfnm_phase, failed_phase}
use Rattle.reset_law.specs.Pairs.{Kind, Rst, Rrp, Plain, Pair, IsFreePair, pair_answered}
use Rattle.reset_law.specs.Monitor.{Monitor, OnItsWay, Received, monitor_told, monitor_failed}
use Rattle.reset_law.specs.Invariant.{kind_in, is_signal, Outstanding, InGone, InHeard, InReady, Shape, Sound}
use Rattle.reset_law.proofs.Links.{at, boxed_at}

-- ---- what is outstanding

-- an answer is given to a message that is outstanding
fits_some : (k : Answer) (x : Box) → Fits k x → is_some (kind_in x) ≡ true
fits_some k (Waiting place m) fits = refl
fits_some k (Taken place m) fits = refl
fits_some answer.Rfnm Empty fits = absurd fits
fits_some answer.Dead Empty fits = absurd fits
fits_some answer.Incomplete Empty fits = absurd fits
fits_some answer.NotTaken Empty fits = absurd fits

cleared : (l : ℕ) (p : Pair) (m n : Monitor) (boxes : ℕ → Box) (ph : Phase) (begun : Bool) → n.owed ≡ m.owed → (p.begun ≡ false → begun ≡ false) → Outstanding p m boxes
    → Outstanding (record { phase = ph; owed = p.owed; begun = begun; out = at_link p.out l None }) n (at_link boxes l Empty)
cleared l p m n boxes ph begun owed silent o =
    let old : (k : ℕ) (x : Kind) → at_link p.out l None k ≡ Some x → p.out k ≡ Some x = λ k x e. elim (at p.out l None k) [
      | inl t ↦ (let both : None ≡ Some x = sym t.1 ∙ e in absurd (cc))
      | inr t ↦ (sym t.1 ∙ e)
    ] in
    let signal : (k : ℕ) → is_signal (at_link p.out l None k) ≡ true → is_signal (p.out k) ≡ true = λ k e. elim (at p.out l None k) [
      | inl t ↦ (let both : true ≡ false = sym e ∙ ap is_signal t.1 in absurd (cc))
      | inr t ↦ (ap is_signal (sym t.1) ∙ e)
    ] in
    record {
      boxed = boxed_at p.out boxes l Empty o.boxed;
      owes = owed ∙ o.owes;
      on_zero = λ k e. o.on_zero k (signal k e);
      alone = λ e k away. elim (at p.out l None k) [
        | inl t ↦ t.1
        | inr t ↦ (t.1 ∙ o.alone (signal 0 e) k away)
      ];
      owing = λ e. silent (o.owing e);
      replying = λ e. silent (o.replying (old 0 Rrp e));
    }

-- ---- by phases

same_either : (b : Bool) (ph : Phase) → (if b then ph else ph) ≡ ph
same_either true ph = refl
same_either false ph = refl

less_begun : (owed begun : Bool) → begun ≡ false → (if owed then begun else false) ≡ false
less_begun true begun e = e
less_begun false begun e = refl

-- the link is 0, or it isn't
is_zero : (l : ℕ) → (l ≡ 0) ⊎ (l ≢ 0)
is_zero l = elim (at (λ (j : ℕ). true) 0 false l) [
  | inl t ↦ inl t.0
  | inr t ↦ inr t.0
]

no_rst_cleared : (l : ℕ) (out : ℕ → Option Kind) → out 0 ≢ Some Rst → at_link out l None 0 ≢ Some Rst
no_rst_cleared l out other rst = elim (at out l None 0) [
  | inl t ↦ (let both : None ≡ Some Rst = sym t.1 ∙ rst in absurd (cc))
  | inr t ↦ other (sym t.1 ∙ rst)
]

no_plain_cleared : (l : ℕ) (out : ℕ → Option Kind) → ((k : ℕ) → out k ≢ Some Plain) → (k : ℕ) → at_link out l None k ≢ Some Plain
no_plain_cleared l out other k plain = elim (at out l None k) [
  | inl t ↦ (let both : None ≡ Some Plain = sym t.1 ∙ plain in absurd (cc))
  | inr t ↦ other k (sym t.1 ∙ plain)
]

free_cleared : (l : ℕ) (out : ℕ → Option Kind) → IsFreePair out → IsFreePair (at_link out l None)
free_cleared l out free k = elim (at out l None k) [
  | inl t ↦ t.1
  | inr t ↦ (t.1 ∙ free k)
]

-- where nothing else is outstanding beside link 0, nothing is after that
free_alone : (out : ℕ → Option Kind) → ((k : ℕ) → k ≢ 0 → out k ≡ None) → IsFreePair (at_link out 0 None)
free_alone out alone k = elim (at out 0 None k) [
  | inl t ↦ t.1
  | inr t ↦ (t.1 ∙ alone k t.0)
]

none_after_cleared : (l : ℕ) (after : ℕ → Bool) → ((k : ℕ) → after k ≡ false) → (k : ℕ) → at_link after l false k ≡ false
none_after_cleared l after none k = elim (at after l false k) [
  | inl t ↦ t.1
  | inr t ↦ (t.1 ∙ none k)
]

after_cleared : (l : ℕ) (after : ℕ → Bool) (out : ℕ → Option Kind) → ((k : ℕ) → after k ≡ is_some (out k)) → (k : ℕ) → at_link after l false k ≡ is_some (at_link out l None k)
after_cleared l after out same k = elim (at after l false k) [
  | inl t ↦ elim (at out l None k) [
    | inl u ↦ (t.1 ∙ ap is_some (sym u.1))
    | inr u ↦ absurd (u.0 t.0)
  ]
  | inr t ↦ elim (at out l None k) [
    | inl u ↦ absurd (t.0 u.0)
    | inr u ↦ (t.1 ∙ same k ∙ ap is_some (sym u.1))
  ]
]

-- nothing but link 0 has a message outstanding while an RST is
gone_on_zero : (l : ℕ) (out : ℕ → Option Kind) → out 0 ≡ Some Rst → (is_signal (out 0) ≡ true → (k : ℕ) → k ≢ 0 → out k ≡ None) → is_some (out l) ≡ true → l ≡ 0
gone_on_zero l out rst alone there = elim (is_zero l) [
  | inl zero ↦ zero
  | inr away ↦ (let none : out l ≡ None = alone (ap is_signal rst) l away in let both : true ≡ false = sym there ∙ ap is_some none in absurd (cc))
]

-- ---- RFNM

shape_rfnm_gone : (early : Bool) (m : Monitor) (begun : Bool) (out : ℕ → Option Kind) → (is_signal (out 0) ≡ true → (k : ℕ) → k ≢ 0 → out k ≡ None) → InGone early m begun out
    → Shape (rfnm_phase 0 (Gone early)) (monitor_told 0 answer.Rfnm m) begun (at_link out 0 None)
shape_rfnm_gone true m begun out alone s =
    let stage : m.stage ≡ OnItsWay = s.stage in
    record {
      pending = s.pending;
      silent = s.silent;
      none_after = none_after_cleared 0 m.after s.none_after;
      stage = inr (rw stage refl, s.early, free_alone out (alone (ap is_signal s.rst)));
    }
shape_rfnm_gone false m begun out alone s =
    let stage : m.stage ≡ OnItsWay = s.stage in
    let free : IsFreePair (at_link out 0 None) = free_alone out (alone (ap is_signal s.rst)) in
    record {
      pending = s.pending;
      silent = s.silent;
      stage = rw stage refl;
      on_time = s.early;
      after = λ k. (none_after_cleared 0 m.after s.none_after k ∙ ap is_some (sym (free k)));
      no_rst = λ rst. (let both : None ≡ Some Rst = sym (free 0) ∙ rst in absurd (cc));
      no_plain = λ k plain. (let both : None ≡ Some Plain = sym (free k) ∙ plain in absurd (cc));
    }

shape_rfnm : (ph : Phase) (l : ℕ) (m : Monitor) (begun : Bool) (out : ℕ → Option Kind) → (is_signal (out 0) ≡ true → (k : ℕ) → k ≢ 0 → out k ≡ None) → is_some (out l) ≡ true → Shape ph m begun out
    → Shape (rfnm_phase l ph) (monitor_told l answer.Rfnm m) begun (at_link out l None)
shape_rfnm Closed l m begun out alone there s =
    let S : Phase → Type 0 = λ ph. Shape ph (monitor_told l answer.Rfnm m) begun (at_link out l None) in
    subst S (sym (same_either _ Closed)) (record { idle = s.idle; silent = s.silent; no_rst = no_rst_cleared l out s.no_rst })
shape_rfnm Want l m begun out alone there s =
    let S : Phase → Type 0 = λ ph. Shape ph (monitor_told l answer.Rfnm m) begun (at_link out l None) in
    subst S (sym (same_either _ Want)) (record {
      pending = s.pending;
      silent = s.silent;
      none_after = none_after_cleared l m.after s.none_after;
      stage = elim s.stage [
        | inl unsent ↦ inl (rw unsent refl)
        | inr again ↦ inr ((let stage : m.stage ≡ Received = again.0 in rw stage refl), again.1, free_cleared l out again.2)
      ];
    })
shape_rfnm (Gone early) l m begun out alone there s =
    let zero : l ≡ 0 = gone_on_zero l out s.rst alone there in
    subst (λ (j : ℕ). Shape (rfnm_phase j (Gone early)) (monitor_told j answer.Rfnm m) begun (at_link out j None)) (sym zero) (shape_rfnm_gone early m begun out alone s)
shape_rfnm Heard l m begun out alone there s =
    let S : Phase → Type 0 = λ ph. Shape ph (monitor_told l answer.Rfnm m) begun (at_link out l None) in
    let stage : m.stage ≡ Received = s.stage in
    subst S (sym (same_either _ Heard)) (record {
      pending = s.pending;
      silent = s.silent;
      stage = rw stage refl;
      on_time = s.on_time;
      after = after_cleared l m.after out s.after;
      no_rst = no_rst_cleared l out s.no_rst;
      no_plain = no_plain_cleared l out s.no_plain;
    })
shape_rfnm Ready l m begun out alone there s =
    let S : Phase → Type 0 = λ ph. Shape ph (monitor_told l answer.Rfnm m) begun (at_link out l None) in
    subst S (sym (same_either _ Ready)) (record { idle = s.idle; point = s.point; clean = s.clean; no_rst = no_rst_cleared l out s.no_rst })

-- ---- failures

shape_failed_heard : (owed : Bool) (l : ℕ) (m : Monitor) (begun : Bool) (out : ℕ → Option Kind) → m.owed ≡ owed → is_some (out l) ≡ true → InHeard m begun out
    → Shape (failed_phase Heard owed) (monitor_failed l m) (if owed then begun else false) (at_link out l None)
shape_failed_heard true l m begun out owes there s =
    let pending : m.pending ≡ true = s.pending in
    let stage : m.stage ≡ Received = s.stage in
    let after : m.after l ≡ true = s.after l ∙ there in
    record {
      pending = rw (pending, stage, after, owes) refl;
      silent = s.silent;
      stage = s.stage;
      on_time = s.on_time;
      after = after_cleared l m.after out s.after;
      no_rst = no_rst_cleared l out s.no_rst;
      no_plain = no_plain_cleared l out s.no_plain;
    }
shape_failed_heard false l m begun out owes there s =
    let pending : m.pending ≡ true = s.pending in
    let stage : m.stage ≡ Received = s.stage in
    let after : m.after l ≡ true = s.after l ∙ there in
    record { idle = rw (pending, stage, after, owes) refl; silent = refl; no_rst = no_rst_cleared l out s.no_rst }

shape_failed_ready : (owed : Bool) (l : ℕ) (m : Monitor) (begun : Bool) (out : ℕ → Option Kind) → InReady m out
    → Shape (failed_phase Ready owed) (monitor_failed l m) (if owed then begun else false) (at_link out l None)
shape_failed_ready true l m begun out s =
    let idle : m.pending ≡ false = s.idle in
    record { idle = rw idle refl; point = s.point; clean = s.clean; no_rst = no_rst_cleared l out s.no_rst }
shape_failed_ready false l m begun out s =
    let idle : m.pending ≡ false = s.idle in
    record { idle = rw idle refl; silent = refl; no_rst = no_rst_cleared l out s.no_rst }

gone_ends : (m : Monitor) → m.stage ≡ OnItsWay → m.pending ≡ true → (monitor_failed 0 m).pending ≡ false
gone_ends m stage pending = rw (pending, stage) refl

shape_failed : (ph : Phase) (owed : Bool) (l : ℕ) (m : Monitor) (begun : Bool) (out : ℕ → Option Kind) → m.owed ≡ owed → (is_signal (out 0) ≡ true → (k : ℕ) → k ≢ 0 → out k ≡ None)
    → is_some (out l) ≡ true → Shape ph m begun out → Shape (failed_phase ph owed) (monitor_failed l m) (if owed then begun else false) (at_link out l None)
shape_failed Closed owed l m begun out owes alone there s =
    let idle : m.pending ≡ false = s.idle in
    record { idle = rw idle refl; silent = less_begun owed begun s.silent; no_rst = no_rst_cleared l out s.no_rst }
shape_failed Want owed l m begun out owes alone there s =
    let pending : m.pending ≡ true = s.pending in
    let after : m.after l ≡ false = s.none_after l in
    record {
      pending = elim s.stage [
        | inl unsent ↦ rw (pending, unsent, after) refl
        | inr again ↦ (let stage : m.stage ≡ Received = again.0 in rw (pending, stage, after) refl)
      ];
      silent = less_begun owed begun s.silent;
      none_after = none_after_cleared l m.after s.none_after;
      stage = elim s.stage [
        | inl unsent ↦ inl unsent
        | inr again ↦ inr (again.0, again.1, free_cleared l out again.2)
      ];
    }
shape_failed (Gone early) owed l m begun out owes alone there s =
    let zero : l ≡ 0 = gone_on_zero l out s.rst alone there in
    record {
      idle = subst (λ (j : ℕ). (monitor_failed j m).pending ≡ false) (sym zero) (gone_ends m s.stage s.pending);
      silent = less_begun owed begun s.silent;
      no_rst = λ rst. elim (at out l None 0) [
        | inl t ↦ (let both : None ≡ Some Rst = sym t.1 ∙ rst in absurd (cc))
        | inr t ↦ absurd (t.0 (sym zero))
      ];
    }
shape_failed Heard owed l m begun out owes alone there s = shape_failed_heard owed l m begun out owes there s
shape_failed Ready owed l m begun out owes alone there s = shape_failed_ready owed l m begun out s

-- ---- an answer

sound_failed : (l : ℕ) (p : Pair) (m : Monitor) (boxes : ℕ → Box) → is_some (p.out l) ≡ true → Sound p m boxes
    → Sound (record { phase = failed_phase p.phase p.owed; owed = p.owed; begun = if p.owed then p.begun else false; out = at_link p.out l None }) (monitor_failed l m) (at_link boxes l Empty)
sound_failed l p m boxes there s =
    let o : Outstanding p m boxes = s.outstanding in
    record {
      outstanding = cleared l p m _ boxes _ _ refl (less_begun p.owed p.begun) o;
      shape = shape_failed p.phase p.owed l m p.begun p.out o.owes o.alone there s.shape;
    }

pub sound_told : (l : ℕ) (k : Answer) (p : Pair) (m : Monitor) (boxes : ℕ → Box) → Fits k (boxes l) → Sound p m boxes → Sound (pair_answered l k p) (monitor_told l k m) (at_link boxes l Empty)
sound_told l k p m boxes fits s =
    let o : Outstanding p m boxes = s.outstanding in
    by k (ap is_some (o.boxed l) ∙ fits_some k _ fits)
  where
    by : (k : Answer) → is_some (p.out l) ≡ true → Sound (pair_answered l k p) (monitor_told l k m) (at_link boxes l Empty)
    by answer.Rfnm there =
        let o : Outstanding p m boxes = s.outstanding in
        record {
          outstanding = cleared l p m _ boxes _ p.begun refl (λ e. e) o;
          shape = shape_rfnm p.phase l m p.begun p.out o.alone there s.shape;
        }
    by answer.Dead there = sound_failed l p m boxes there s
    by answer.Incomplete there = sound_failed l p m boxes there s
    by answer.NotTaken there = sound_failed l p m boxes there s
