-- A life whose two requests crossed has the stamps of messages, and each life has a list of what was handed over.
use Rattle.command_line.proofs.Common.{Host, Crossing, Life, length-append, HostMessage, AreUnhanded, Contains}
use Rattle.std.proofs.Common.{◌≡◌, ℕ, ◌==◌, ◌++◌, Bool, true, false, List, [], ◌∷◌, refl, sym, ap, subst, ◌∙◌, arith, inl, inr, suc, ◌+◌, ◌-◌, drop, length}
use Rattle.interface.specs.Messages.{SafeMessages, taken_in, went_out}
use Rattle.std.proofs.Math.Seq.{drop-append-add}
use Rattle.std.proofs.lemmas.Bool.{eqb-true, false≢true}
use Rattle.std.specs.Prelude.{IsSome}
use Rattle.interface.proofs.lemmas.{same_flow-refl, same_flow-true}
use Rattle.interface.specs.Mailboxes.{same_flow}
use Rattle.interface.specs.declared.address.Flow.{Flow}
use Rattle.interface.specs.declared.crossing.Crossing.TheVariants as crossing
use Rattle.mixed_worlds.specs.Toward.{HasAsked}
use Rattle.net_sim.specs.Audit.{IsStamped, IsWellFormed, Passes}
use Rattle.promise.specs.Formed.{CrossedAt, coming, going, named_at, named_of, text_of}
use Rattle.promise.specs.Safe.{before, control_flow, last_out}

-- ---- what a request is in

-- a crossing in which a flow's text holds a request is its message: one that goes out, or one that comes in
gone : (f : Flow) (own foreign : ℕ) (c : Crossing) → IsSome (named_of own foreign (text_of false f c))
    → (m : HostMessage) × (m.flow ≡ f) × (going m ≡ c)
gone f own foreign (crossing.Out m) some = by (same_flow f m.flow) refl some where
  by : (b : Bool) → same_flow f m.flow ≡ b → IsSome (named_of own foreign (text_of false f (crossing.Out m)))
      → (n : HostMessage) × (n.flow ≡ f) × (going n ≡ crossing.Out m)
  by true e is = (m, sym (same_flow-true f m.flow e), refl)
  by false e is = absurd (false≢true (rw e at is))
gone f own foreign (crossing.In m) some = absurd (false≢true some)
gone f own foreign (crossing.Answer kind g) some = absurd (false≢true some)
gone f own foreign (crossing.Down h) some = absurd (false≢true some)
gone f own foreign (crossing.Up h) some = absurd (false≢true some)

come : (f : Flow) (own foreign : ℕ) (c : Crossing) → IsSome (named_of own foreign (text_of true f c))
    → (m : HostMessage) × (m.flow ≡ f) × (coming m ≡ c)
come f own foreign (crossing.In m) some = by (same_flow f m.flow) refl some where
  by : (b : Bool) → same_flow f m.flow ≡ b → IsSome (named_of own foreign (text_of true f (crossing.In m)))
      → (n : HostMessage) × (n.flow ≡ f) × (coming n ≡ crossing.In m)
  by true e is = (m, sym (same_flow-true f m.flow e), refl)
  by false e is = absurd (false≢true (rw e at is))
come f own foreign (crossing.Out m) some = absurd (false≢true some)
come f own foreign (crossing.Answer kind g) some = absurd (false≢true some)
come f own foreign (crossing.Down h) some = absurd (false≢true some)
come f own foreign (crossing.Up h) some = absurd (false≢true some)

goes_at : (from to : Host) (own foreign place : ℕ) (log : List Crossing)
    → IsSome (named_at false from to own foreign place log) → Passes going (control_flow from to) place log
goes_at from to own foreign place [] some = absurd (false≢true some)
goes_at from to own foreign place (c ∷ log) some = by (place == length log) refl some
    (goes_at from to own foreign place log)
  where
    by : (b : Bool) → (place == length log) ≡ b → IsSome (named_at false from to own foreign place (c ∷ log))
        → (IsSome (named_at false from to own foreign place log) → Passes going (control_flow from to) place log)
        → Passes going (control_flow from to) place (c ∷ log)
    by true e is rest =
        let m = gone (control_flow from to) own foreign c (rw e at is) in
        (m.0, m.1, inl (m.2, eqb-true place (length log) e))
    by false e is rest = let m = rest (rw e at is) in (m.0, m.1, inr m.2)

comes_at : (from to : Host) (own foreign place : ℕ) (log : List Crossing)
    → IsSome (named_at true from to own foreign place log) → Passes coming (control_flow from to) place log
comes_at from to own foreign place [] some = absurd (false≢true some)
comes_at from to own foreign place (c ∷ log) some = by (place == length log) refl some
    (comes_at from to own foreign place log)
  where
    by : (b : Bool) → (place == length log) ≡ b → IsSome (named_at true from to own foreign place (c ∷ log))
        → (IsSome (named_at true from to own foreign place log) → Passes coming (control_flow from to) place log)
        → Passes coming (control_flow from to) place (c ∷ log)
    by true e is rest =
        let m = come (control_flow from to) own foreign c (rw e at is) in
        (m.0, m.1, inl (m.2, eqb-true place (length log) e))
    by false e is rest = let m = rest (rw e at is) in (m.0, m.1, inr m.2)

-- ---- before a message comes in, one has gone out

-- what crossed at a place is after as many crossings
record Parted (place : ℕ) (c : Crossing) (log : List Crossing) : Type 0 where
  newer : List Crossing
  older : List Crossing
  parts : log ≡ newer ++ c ∷ older
  counted : place ≡ length older

parted : (place : ℕ) (c : Crossing) (log : List Crossing) → CrossedAt place c log → Parted place c log
parted place c [] at = absurd at
parted place c (d ∷ log) (inl h) =
    record { newer = []; older = log; parts = ap (λ (x : Crossing). x ∷ log) (sym h.0); counted = h.1 }
parted place c (d ∷ log) (inr h) =
    let p : Parted place c log = parted place c log h in
    record {
      newer = d ∷ p.newer;
      older = p.older;
      parts = ap (λ (cs : List Crossing). d ∷ cs) p.parts;
      counted = p.counted;
    }

older_before : (newer older : List Crossing) (c : Crossing) → before (length older) (newer ++ c ∷ older) ≡ older
older_before newer older c =
    let whole : length (newer ++ c ∷ older) ≡ length newer + suc (length older) = length-append newer (c ∷ older) in
    let count : length (newer ++ c ∷ older) - length older ≡ length newer + 1 = omega (arith, whole) in
    ap (λ (n : ℕ). drop n (newer ++ c ∷ older)) count ∙ drop-append-add newer (c ∷ older) 1

out_some : (f : Flow) (log : List Crossing) → went_out f log ≡ true → IsSome (last_out f log)
out_some f [] went = absurd (false≢true went)
out_some f (crossing.Out m ∷ log) went = by (same_flow f m.flow) refl went (out_some f log) where
  by : (b : Bool) → same_flow f m.flow ≡ b → went_out f (crossing.Out m ∷ log) ≡ true
      → (went_out f log ≡ true → IsSome (last_out f log)) → IsSome (last_out f (crossing.Out m ∷ log))
  by true e is rest = rw e refl
  by false e is rest = rw e (rest (rw e at is))
out_some f (crossing.In m ∷ log) went = out_some f log went
out_some f (crossing.Answer kind g ∷ log) went = out_some f log went
out_some f (crossing.Down h ∷ log) went = out_some f log went
out_some f (crossing.Up h ∷ log) went = out_some f log went

-- no message is taken before one of its flow goes out
was_out : (log newer older : List Crossing) (m : HostMessage) → SafeMessages log → log ≡ newer ++ coming m ∷ older
    → went_out m.flow older ≡ true
was_out log newer older m safe parts = by (went_out m.flow older) refl where
  by : (b : Bool) → went_out m.flow older ≡ b → b ≡ true
  by true e = refl
  by false e =
      let none : taken_in m.flow (coming m ∷ older) ≡ [] = safe.none_before newer (coming m ∷ older) m.flow parts e in
      let some : m.text ∷ taken_in m.flow older ≡ [] = rw (same_flow-refl m.flow) at none in
      absurd (cc)

asked_before : (f : Flow) (place : ℕ) (log : List Crossing) → SafeMessages log → Passes coming f place log
    → IsSome (last_out f (before place log))
asked_before f place log safe (m, flow, at) =
    let p : Parted place (coming m) log = parted place (coming m) log at in
    let went : went_out m.flow p.older ≡ true = was_out log p.newer p.older m safe p.parts in
    let some : IsSome (last_out f p.older) =
    subst (λ (g : Flow). IsSome (last_out g p.older)) flow (out_some m.flow p.older went) in
    let is : before place log ≡ p.older =
    ap (λ (n : ℕ). before n log) p.counted ∙ ap (before (length p.older)) p.parts
    ∙ older_before p.newer p.older (coming m) in
    subst (λ (cs : List Crossing). IsSome (last_out f cs)) (sym is) some

-- ---- well-formed

stamped : (log : List Crossing) (x : Life) → SafeMessages log → HasAsked log x → IsStamped log x
stamped log x safe asked =
    let came : Passes coming (control_flow x.peer x.host) x.partner_stamp log =
    comes_at x.peer x.host x.foreign x.socket x.partner_stamp log asked.partner in
    record {
      own = goes_at x.host x.peer x.socket x.foreign x.own_stamp log asked.own;
      partner = came;
      asked = asked_before (control_flow x.peer x.host) x.partner_stamp log safe came;
    }

as_many : (lives : List Life) (handed : List (List Bool)) → AreUnhanded lives handed → length lives ≡ length handed
as_many [] handed h = ap (λ (xs : List (List Bool)). length xs) (sym h)
as_many (x ∷ lives) [] h = absurd h
as_many (x ∷ lives) (text ∷ handed) h = ap suc (as_many lives handed h.1)

pub well_formed : (log : List Crossing) (lives : List Life) (handed : List (List Bool)) → SafeMessages log
    → AreUnhanded lives handed → ((x : Life) → Contains lives x → HasAsked log x) → IsWellFormed log lives handed
well_formed log lives handed safe lists asked =
    record { counts = as_many lives handed lists; stamped = λ x there. stamped log x safe (asked x there) }
