-- Once a receiver has heard the sender's CLS, each message that was sent has come.
use Rattle.std.proofs.Common.{◌≡◌, ℕ, ◌+◌, ◌==◌, Bool, true, false, List, length, refl, ap, sym, ◌∙◌, arith}
use Rattle.std.proofs.lemmas.Bool.{eqb-true}
use Rattle.stream_law.specs.Streams.{Box, Empty, Event, IsRun, Stream, Taken, Waiting, stream}
use Rattle.stream_law.proofs.Amounts.{unlike}
use Rattle.stream_law.proofs.Keeps.{Inv, waiting_of, waits_for}
use Rattle.stream_law.proofs.Runs.{inv_run}

-- none waits of a connection that the sender has closed
none_waits : (x : Stream) → Inv x → (c : ℕ) → x.receiver.over c ≡ true → (b : Box) → x.box ≡ b → waiting_of c b ≡ 0
none_waits x h c over Empty e = refl
none_waits x h c over Taken e = refl
none_waits x h c over (Waiting k z bits) e = by (c == k) refl where
  by : (v : Bool) → (c == k) ≡ v → waiting_of c (Waiting k z bits) ≡ 0
  by false is = rw is refl
  by true is =
      let same : c ≡ k = eqb-true c k is in
      absurd (unlike _ (ap x.sender.closed (sym same) ∙ h.ends.passed c over) (waits_for x h k z bits e).2)

pub came_inv : (x : Stream) → Inv x → (c : ℕ) → x.receiver.over c ≡ true → length (x.sender.sent c) ≡ x.receiver.came c
came_inv x h c over =
    let all : length (x.sender.sent c) ≡ x.receiver.came c + waiting_of c x.box = h.arrivals.came c in
    let none : waiting_of c x.box ≡ 0 = none_waits x h c over x.box refl in
    omega (arith, all, none)

pub came_in : (events : List Event) (c : ℕ) → IsRun events → (stream events).receiver.over c ≡ true → length ((stream events).sender.sent c) ≡ (stream events).receiver.came c
came_in events c run over = came_inv _ (inv_run events run) c over
