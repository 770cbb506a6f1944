-- Ends go where both CLS have passed, whether they settle before or after.
use Rattle.host_keeps_streams.proofs.Common.{◌≡◌, ℕ, Bool, not, ◌&&◌, if◌then◌else◌, List, [], ◌∷◌, map, filter, refl, ap, ◌∙◌, is_drained, is_due, is_receiving, is_sent, must_close, Closing, Entry, both, closes, named}
use Rattle.std.proofs.Common.{true, false}
use Rattle.stream_law.specs.Senders as senders
use Rattle.host_pairs.specs.declared.entry.Closing.TheVariants as closing
use Rattle.host_keeps_streams.proofs.Ending.{shut_one, stays}

pub over_stays : (busy : List ℕ) (e : Entry) → stays (shut_one busy e) ≡ stays e
over_stays busy e = by (must_close busy e) refl where
  kept : is_due e.closing ≡ true → is_sent e.closing ≡ false
  kept due = of e.closing refl due where
    of : (v : Closing) → e.closing ≡ v → is_due v ≡ true → is_sent v ≡ false
    of closing.No same t = absurd (cc)
    of closing.Due same t = refl
    of closing.Queued same t = absurd (cc)
    of closing.Sent same t = absurd (cc)

  by : (v : Bool) → must_close busy e ≡ v → stays (shut_one busy e) ≡ stays e
  by true t = (let due : is_sent e.closing ≡ false = kept (both_left t) in rw (t, due) refl) where
    both_left : must_close busy e ≡ true → is_due e.closing ≡ true
    both_left m = (both (is_due e.closing) (is_drained busy e) m).0
  by false t = rw t refl

swept_step : (busy : List ℕ) (y : Entry) (ys : List Entry) → filter stays (map (shut_one busy) ys) ≡ map (shut_one busy) (filter stays ys) → (b : Bool) → stays y ≡ b → filter stays (map (shut_one busy) (y ∷ ys)) ≡ map (shut_one busy) (filter stays (y ∷ ys))
swept_step busy y ys rest true t = let same : stays (shut_one busy y) ≡ true = over_stays busy y ∙ t in rw (t, same) (ap (λ (zs : List Entry). shut_one busy y ∷ zs) rest)
swept_step busy y ys rest false t = let same : stays (shut_one busy y) ≡ false = over_stays busy y ∙ t in rw (t, same) rest

pub swept_first : (busy : List ℕ) (es : List Entry) → filter stays (map (shut_one busy) es) ≡ map (shut_one busy) (filter stays es)
swept_first busy [] = refl
swept_first busy (y ∷ ys) = swept_step busy y ys (swept_first busy ys) (stays y) refl

-- an end that goes has closed before
over_done : (busy : List ℕ) (e : Entry) → stays e ≡ false → must_close busy e ≡ false
over_done busy e t = of e.closing refl where
  of : (v : Closing) → e.closing ≡ v → must_close busy e ≡ false
  of closing.No same = rw same refl
  of closing.Due same = absurd (let r : true ≡ false = rw same at t in cc)
  of closing.Queued same = rw same refl
  of closing.Sent same = rw same refl

closes_step : (name : ℕ → ℕ → ℕ) (busy : List ℕ) (y : Entry) (ys : List Entry) → closes name busy ys ≡ closes name busy (filter stays ys) → (b : Bool) → stays y ≡ b → closes name busy (y ∷ ys) ≡ closes name busy (filter stays (y ∷ ys))
closes_step name busy y ys rest true t =
    rw t (ap (λ (ms : List senders.Move). if must_close busy y && not (is_receiving y) then senders.Close (named name y) ∷ ms else ms) rest)
closes_step name busy y ys rest false t = let none : must_close busy y ≡ false = over_done busy y t in rw (t, none) rest

pub closes_swept : (name : ℕ → ℕ → ℕ) (busy : List ℕ) (es : List Entry) → closes name busy es ≡ closes name busy (filter stays es)
closes_swept name busy [] = refl
closes_swept name busy (y ∷ ys) = closes_step name busy y ys (closes_swept name busy ys) (stays y) refl
