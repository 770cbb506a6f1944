-- What a host and one peer do keeps the invariant: contacts, messages that go out and messages that are taken.
use Rattle.reset_law.proofs.Common.{is_some, Phase, Box, Empty, Waiting, fetched, at_link}
use Rattle.std.proofs.Common.{◌≡◌, ◌≢◌, ◌⊎◌, ℕ, Bool, true, false, List, Option, Some, None, refl, ap, sym, subst, ◌∙◌, inl, inr}
use Rattle.ncp_control.specs.Phases.{reset_phase, reply_phase}
use Rattle.ncp_control.specs.declared.phase.Phase.TheVariants.{Closed, Want, Gone, Heard, Ready}
use Rattle.reset_law.specs.Events.{Reset, Reply, Other, Call}
use Rattle.reset_law.specs.Pairs.{Kind, Rst, Rrp, Plain, Pair, IsFreePair, MaySend, pair_sent, took, pair_moved, opening_pair}
use Rattle.reset_law.specs.Monitor.{Monitor, OnItsWay, Received, monitor_sent, monitor_took, monitored, opening_monitor}
use Rattle.reset_law.specs.Invariant.{is_signal, Outstanding, InWant, InReady, Shape, Sound}
use Rattle.reset_law.proofs.Links.{at, boxed_at, boxed_fetched, no_signal}

-- ---- the opening

pub sound_opening : Sound opening_pair opening_monitor (λ k. Empty)
sound_opening = record {
  outstanding = record {
    boxed = λ k. refl;
    owes = refl;
    on_zero = λ k signal. absurd (cc);
    alone = λ signal k away. refl;
    owing = λ owed. refl;
    replying = λ rrp. refl;
  };
  shape = record { idle = refl; silent = refl; no_rst = λ rst. absurd (cc) };
}

-- ---- a contact

pub sound_contact : (here : ℕ) (p : Pair) (m : Monitor) (boxes : ℕ → Box) → Sound p m boxes → Sound (pair_moved (Some Call) p) (monitored here (Some Call) m) boxes
sound_contact here p m boxes s =
    let o : Outstanding p m boxes = s.outstanding in
    record {
      outstanding = record { boxed = o.boxed; owes = o.owes; on_zero = o.on_zero; alone = o.alone; owing = λ owed. refl; replying = λ rrp. refl };
      shape = record { pending = refl; silent = refl; none_after = λ k. refl; stage = inl refl };
    }

-- ---- messages that go out

-- a signal goes out by itself, on link 0
signal_on_zero : (out : ℕ → Option Kind) (l : ℕ) (x : Option Kind) → l ≡ 0 → IsFreePair out → (k : ℕ) → is_signal (at_link out l x k) ≡ true → k ≡ 0
signal_on_zero out l x zero free k signal = elim (at out l x k) [
  | inl t ↦ (t.0 ∙ zero)
  | inr t ↦ absurd (no_signal _ (t.1 ∙ free k) signal)
]

signal_alone : (out : ℕ → Option Kind) (l : ℕ) (x : Option Kind) → l ≡ 0 → IsFreePair out → (k : ℕ) → k ≢ 0 → at_link out l x k ≡ None
signal_alone out l x zero free k away = elim (at out l x k) [
  | inl t ↦ absurd (away (t.0 ∙ zero))
  | inr t ↦ (t.1 ∙ free k)
]

at_itself : (out : ℕ → Option Kind) (l : ℕ) (x : Option Kind) → l ≡ 0 → at_link out l x 0 ≡ x
at_itself out l x zero = elim (at out l x 0) [
  | inl t ↦ t.1
  | inr t ↦ absurd (t.0 (sym zero))
]

pub sound_reset_sent : (here l : ℕ) (p : Pair) (m : Monitor) (boxes : ℕ → Box) → MaySend p l Reset → Sound p m boxes
    → Sound (pair_sent l Reset p) (monitor_sent l Reset m) (at_link boxes l (Waiting here Reset))
sound_reset_sent here l p m boxes may s =
    let o : Outstanding p m boxes = s.outstanding in
    let S : Phase → Type 0 = λ ph. Shape ph m p.begun p.out in
    let w : InWant m p.begun p.out = subst S may.1 s.shape in
    let rst : at_link p.out l _ 0 ≡ Some Rst = at_itself p.out l _ may.0 in
    record {
      outstanding = record {
        boxed = boxed_at p.out boxes l _ o.boxed;
        owes = o.owes;
        on_zero = signal_on_zero p.out l _ may.0 may.2;
        alone = λ signal. signal_alone p.out l (Some Rst) may.0 may.2;
        owing = o.owing;
        replying = λ rrp. w.silent;
      };
      shape = record { pending = w.pending; silent = w.silent; none_after = λ k. refl; stage = refl; early = refl; rst = rst };
    }

-- where an RRP goes out nothing is known of a pair that waits to reset
shape_reply_sent : (ph : Phase) (l : ℕ) (m : Monitor) (begun : Bool) (out : ℕ → Option Kind) → l ≡ 0 → ph ≢ Want → IsFreePair out → Shape ph m begun out
    → Shape ph (monitor_sent l Reply m) begun (at_link out l (Some Rrp))
shape_reply_sent Closed l m begun out zero want free s = record { idle = s.idle; silent = s.silent; no_rst = λ rst. let both : Some Rrp ≡ Some Rst = sym (at_itself out l _ zero) ∙ rst in absurd (cc) }
shape_reply_sent Want l m begun out zero want free s = absurd (want refl)
shape_reply_sent (Gone early) l m begun out zero want free s = let both : None ≡ Some Rst = sym (free 0) ∙ s.rst in absurd (cc)
shape_reply_sent Heard l m begun out zero want free s =
    let pending : m.pending ≡ true = s.pending in
    let stage : m.stage ≡ Received = s.stage in
    let after : (k : ℕ) → at_link m.after l true k ≡ is_some (at_link out l _ k) = λ k. elim (at m.after l true k) [
      | inl t ↦ elim (at out l (Some Rrp) k) [
        | inl u ↦ (t.1 ∙ ap is_some (sym u.1))
        | inr u ↦ absurd (u.0 t.0)
      ]
      | inr t ↦ elim (at out l (Some Rrp) k) [
        | inl u ↦ absurd (t.0 u.0)
        | inr u ↦ (t.1 ∙ s.after k ∙ ap is_some (sym u.1))
      ]
    ] in
    record {
      pending = s.pending;
      silent = s.silent;
      stage = s.stage;
      on_time = s.on_time;
      after = rw (pending, stage) after;
      no_rst = λ rst. let both : Some Rrp ≡ Some Rst = sym (at_itself out l _ zero) ∙ rst in absurd (cc);
      no_plain = λ k plain. elim (at out l (Some Rrp) k) [
        | inl u ↦ (let both : Some Rrp ≡ Some Plain = sym u.1 ∙ plain in absurd (cc))
        | inr u ↦ s.no_plain k (sym u.1 ∙ plain)
      ];
    }
shape_reply_sent Ready l m begun out zero want free s =
    record { idle = s.idle; point = s.point; clean = s.clean; no_rst = λ rst. let both : Some Rrp ≡ Some Rst = sym (at_itself out l _ zero) ∙ rst in absurd (cc) }

pub sound_reply_sent : (here l : ℕ) (p : Pair) (m : Monitor) (boxes : ℕ → Box) → MaySend p l Reply → Sound p m boxes
    → Sound (pair_sent l Reply p) (monitor_sent l Reply m) (at_link boxes l (Waiting here Reply))
sound_reply_sent here l p m boxes may s =
    let o : Outstanding p m boxes = s.outstanding in
    let free : IsFreePair p.out = may.3 in
    record {
      outstanding = record {
        boxed = boxed_at p.out boxes l _ o.boxed;
        owes = refl;
        on_zero = signal_on_zero p.out l _ may.0 free;
        alone = λ signal. signal_alone p.out l (Some Rrp) may.0 free;
        owing = λ owed. absurd (cc);
        replying = λ rrp. o.owing may.1;
      };
      shape = shape_reply_sent p.phase l m p.begun p.out may.0 may.2 free s.shape;
    }

-- any other message goes out only where no signal is outstanding
no_signal_beside : (l : ℕ) (p : Pair) (m : Monitor) (boxes : ℕ → Box) → Outstanding p m boxes → p.out 0 ≢ Some Rst → p.out l ≡ None → (l ≡ 0) ⊎ (p.begun ≡ true) → is_signal (p.out 0) ≡ true → ⊥
no_signal_beside l p m boxes o no_rst none start signal = elim start [
  | inl zero ↦ no_signal _ (subst (λ (k : ℕ). p.out k ≡ None) zero none) signal
  | inr begun ↦ by (p.out 0) refl signal begun
] where
  by : (x : Option Kind) → p.out 0 ≡ x → is_signal x ≡ true → p.begun ≡ true → ⊥
  by None e signal begun = absurd (cc)
  by (Some Rst) e signal begun = no_rst e
  by (Some Rrp) e signal begun = let both : false ≡ true = sym (o.replying e) ∙ begun in absurd (cc)
  by (Some Plain) e signal begun = absurd (cc)

pub sound_other_sent : (here l : ℕ) (text : List Bool) (p : Pair) (m : Monitor) (boxes : ℕ → Box) → MaySend p l (Other text) → Sound p m boxes
    → Sound (pair_sent l (Other text) p) (monitor_sent l (Other text) m) (at_link boxes l (Waiting here (Other text)))
sound_other_sent here l text p m boxes may s =
    let o : Outstanding p m boxes = s.outstanding in
    let S : Phase → Type 0 = λ ph. Shape ph m p.begun p.out in
    let r : InReady m p.out = subst S may.0 s.shape in
    let quiet : is_signal (p.out 0) ≡ true → ⊥ = no_signal_beside l p m boxes o r.no_rst may.2 may.3 in
    let old : (k : ℕ) → is_signal (at_link p.out l (Some Plain) k) ≡ true → is_signal (p.out 0) ≡ true = λ k signal. elim (at p.out l (Some Plain) k) [
      | inl t ↦ (let both : true ≡ false = sym signal ∙ ap is_signal t.1 in absurd (cc))
      | inr t ↦ (let kept : is_signal (p.out k) ≡ true = ap is_signal (sym t.1) ∙ signal in subst (λ (j : ℕ). is_signal (p.out j) ≡ true) (o.on_zero k kept) kept)
    ] in
    let idle : m.pending ≡ false = r.idle in
    record {
      outstanding = record {
        boxed = boxed_at p.out boxes l _ o.boxed;
        owes = o.owes;
        on_zero = λ k signal. absurd (quiet (old k signal));
        alone = λ signal k away. absurd (quiet (old 0 signal));
        owing = λ owed. let both : false ≡ true = sym may.1 ∙ owed in absurd (cc);
        replying = λ rrp. absurd (quiet (old 0 (ap is_signal rrp)));
      };
      shape = subst (λ (ph : Phase). Shape ph (monitor_sent l (Other text) m) true (at_link p.out l (Some Plain))) (sym may.0) (record {
        idle = r.idle;
        point = r.point;
        clean = r.clean;
        no_rst = λ rst. quiet (old 0 (ap is_signal rst));
      });
    }

-- ---- messages that are taken

shape_reset_taken : (ph : Phase) (here : ℕ) (m : Monitor) (begun : Bool) (out : ℕ → Option Kind) → Shape ph m begun out → Shape (reset_phase ph) (monitor_took here Reset m) false out
shape_reset_taken Closed here m begun out s = let idle : m.pending ≡ false = s.idle in record { idle = s.idle; point = here; clean = rw idle refl; no_rst = s.no_rst }
shape_reset_taken Want here m begun out s = record { pending = s.pending; silent = refl; none_after = s.none_after; stage = s.stage }
shape_reset_taken (Gone early) here m begun out s = record { pending = s.pending; silent = refl; none_after = s.none_after; stage = s.stage; early = s.early; rst = s.rst }
shape_reset_taken Heard here m begun out s =
    record { pending = s.pending; silent = refl; stage = s.stage; on_time = s.on_time; after = s.after; no_rst = s.no_rst; no_plain = s.no_plain }
shape_reset_taken Ready here m begun out s = let idle : m.pending ≡ false = s.idle in record { idle = s.idle; point = here; clean = rw idle refl; no_rst = s.no_rst }

pub sound_reset_taken : (here : ℕ) (p : Pair) (m : Monitor) (boxes : ℕ → Box) → Sound p m boxes → Sound (took Reset p) (monitor_took here Reset m) boxes
sound_reset_taken here p m boxes s =
    let o : Outstanding p m boxes = s.outstanding in
    record {
      outstanding = record { boxed = o.boxed; owes = refl; on_zero = o.on_zero; alone = o.alone; owing = λ owed. refl; replying = λ rrp. refl };
      shape = shape_reset_taken p.phase here m p.begun p.out s.shape;
    }

shape_reply_taken : (ph : Phase) (here : ℕ) (m : Monitor) (begun : Bool) (out : ℕ → Option Kind) → Shape ph m begun out → Shape (reply_phase ph) (monitor_took here Reply m) begun out
shape_reply_taken Closed here m begun out s = let idle : m.pending ≡ false = s.idle in record { idle = rw idle refl; silent = s.silent; no_rst = s.no_rst }
shape_reply_taken Want here m begun out s =
    let pending : m.pending ≡ true = s.pending in
    elim s.stage [
      | inl unsent ↦ rw (pending, unsent) (record { pending = refl; silent = s.silent; none_after = s.none_after; stage = inl refl })
      | inr again ↦
          (let stage : m.stage ≡ Received = again.0 in
          let early : m.early ≡ true = again.1 in
          rw (pending, stage, early) (record { pending = refl; silent = s.silent; none_after = s.none_after; stage = inr (refl, refl, again.2) }))
    ]
shape_reply_taken (Gone early) here m begun out s =
    let pending : m.pending ≡ true = s.pending in
    let stage : m.stage ≡ OnItsWay = s.stage in
    rw (pending, stage) (record { pending = refl; silent = s.silent; none_after = s.none_after; stage = refl; early = refl; rst = s.rst })
shape_reply_taken Heard here m begun out s =
    let pending : m.pending ≡ true = s.pending in
    let stage : m.stage ≡ Received = s.stage in
    let on_time : m.early ≡ false = s.on_time in
    rw (pending, stage, on_time) (record { idle = refl; point = here; clean = refl; no_rst = s.no_rst })
shape_reply_taken Ready here m begun out s = let idle : m.pending ≡ false = s.idle in record { idle = rw idle refl; point = s.point; clean = rw idle s.clean; no_rst = s.no_rst }

pub sound_reply_taken : (here : ℕ) (p : Pair) (m : Monitor) (boxes : ℕ → Box) → Sound p m boxes → Sound (took Reply p) (monitor_took here Reply m) boxes
sound_reply_taken here p m boxes s =
    let o : Outstanding p m boxes = s.outstanding in
    record {
      outstanding = record { boxed = o.boxed; owes = o.owes; on_zero = o.on_zero; alone = o.alone; owing = o.owing; replying = o.replying };
      shape = shape_reply_taken p.phase here m p.begun p.out s.shape;
    }

-- the peer takes a message of this host
pub sound_fetched : (l : ℕ) (p : Pair) (m : Monitor) (boxes : ℕ → Box) → Sound p m boxes → Sound p m (at_link boxes l (fetched (boxes l)))
sound_fetched l p m boxes s =
    let o : Outstanding p m boxes = s.outstanding in
    record {
      outstanding = record { boxed = boxed_fetched p.out boxes l o.boxed; owes = o.owes; on_zero = o.on_zero; alone = o.alone; owing = o.owing; replying = o.replying };
      shape = s.shape;
    }
