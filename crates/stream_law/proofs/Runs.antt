-- Whatever may happen keeps all of it, and what follows for each connection.
use Rattle.std.proofs.Common.{◌≡◌, ℕ, ◌≤◌, Bool, true, false, ◌&&◌, List, [], ◌∷◌, ◌++◌, length, Option, Some, None, refl, sym, subst, ◌∙◌, arith}
use Rattle.ncp_control.specs.Allocation as counters
use Rattle.stream_law.specs.Words.{Word, Rts, Str, All, Gvb, Ret, Cls, covers, is_size}
use Rattle.stream_law.specs.Receivers as receivers
use Rattle.stream_law.specs.Receivers.{Receiver}
use Rattle.stream_law.specs.Senders as senders
use Rattle.stream_law.specs.Senders.{Sender}
use Rattle.stream_law.specs.Streams.{Stream, Box, Empty, Waiting, Taken, Event, Receives, Sends, happens, word_queued, behind, opening_stream, stream, MayHappen, IsRun}
use Rattle.stream_law.specs.Within.{message_bits, AreGranted, IsSafe, NothingLeft}
use Rattle.stream_law.proofs.Amounts.{some_is, for_here, Counter, Messages, Bits, number, number_nothing, total, total_front, total_messages, total_bits}
use Rattle.stream_law.proofs.Words.{none_returned}
use Rattle.stream_law.proofs.Keeps.{made, Account, Inv, all_over, closed_of, waits_of, acceptable}
use Rattle.stream_law.proofs.Receives as receives
use Rattle.stream_law.proofs.Sends as sends

pub inv_opening : Inv opening_stream
inv_opening = record {
  ends = record {
    known = λ c e. absurd (cc);
    own = λ c e. absurd (cc);
    passed = λ c e. absurd (cc);
    heard = λ c e. absurd (cc);
    half = λ c e f. absurd (cc);
  };
  down = refl;
  still = λ c e f. absurd (cc);
  up = tt;
  sizes = record { told = λ c z e. absurd (cc); sized = λ c e f. absurd (cc) };
  waiting = tt;
  arrivals = record {
    whole = λ c e f g. absurd (cc);
    firsts = λ c e f g. absurd (cc);
    settled = λ c e f. absurd (cc);
    fronts = λ c. ([], refl);
    unsent = λ c e. refl;
    came = λ c. refl;
  };
  account = λ u c. (let none : number u counters.nothing ≡ 0 = number_nothing u in omega (arith, none));
  grants = record {
    left = λ u c e. absurd (cc);
    unopened = λ u c e f. absurd (cc);
    ungranted = λ u c e. number_nothing u;
  };
}

-- what the receiver hears of what was said
heard : (r : Receiver) (s : Sender) (d rest : List Word) (b : Box) (w : Word) → Inv (made r s d (w ∷ rest) b) → Inv (made (receivers.hears w r) s d rest b)
heard r s d rest b (Str c z) h = receives.kept_str r s d rest b c z h
heard r s d rest b (Ret c m n) h = receives.kept_ret r s d rest b c m n h
heard r s d rest b (Cls c) h = receives.kept_cls r s d rest b c h
heard r s d rest b w h = absurd (h.up)

-- and what the sender does
heard_by_sender : (r : Receiver) (s : Sender) (rest u : List Word) (b : Box) (w : Word) → Inv (made r s (w ∷ rest) u b)
    → Inv (made r (senders.hears w s) rest (word_queued (senders.says (senders.Hear w) s) u) b)
heard_by_sender r s rest u b (Rts c) h = sends.kept_rts r s rest u b c h
heard_by_sender r s rest u b (All c m n) h = sends.kept_all r s rest u b c m n h
heard_by_sender r s rest u b (Gvb c m n) h = sends.kept_gvb r s rest u b c m n h
heard_by_sender r s rest u b (Cls c) h = sends.kept_cls r s rest u b c h
heard_by_sender r s rest u b w h = absurd (h.down)

pub kept : (e : Event) (x : Stream) → MayHappen e x → Inv x → Inv (happens e x)
kept (Receives (receivers.Ask c)) x m h = receives.kept_ask x.receiver x.sender x.to_sender x.to_receiver x.box h c m.0.0 m.0.1
kept (Receives (receivers.Open c)) x m h = receives.kept_open x.receiver x.sender x.to_sender x.to_receiver x.box h c m.0.0 m.0.1
kept (Receives (receivers.Grant c n b)) x m h = receives.kept_grant x.receiver x.sender x.to_sender x.to_receiver x.box h c n b m.0.0 m.0.1 m.0.2 m.0.3
kept (Receives (receivers.AskBack c n b)) x m h = receives.kept_ask_back x.receiver x.sender x.to_sender x.to_receiver x.box h c n b m.0.0 m.0.1
kept (Receives (receivers.Close c)) x m h = receives.kept_close x.receiver x.sender x.to_sender x.to_receiver x.box h c m.0.0 m.0.1
kept (Receives (receivers.Free c)) x m h = receives.kept_free x.receiver x.sender x.to_sender x.to_receiver x.box h c m.0.0 m.0.1 m.0.2
kept (Receives (receivers.Hear w)) x m h =
    subst (λ (u : List Word). Inv (made x.receiver x.sender x.to_sender u x.box) → Inv (made (receivers.hears w x.receiver) x.sender x.to_sender (behind u) x.box)) (sym m.1.1)
    (heard x.receiver x.sender x.to_sender m.1.0 x.box w) h
kept (Receives (receivers.Take z bits)) x m h =
    subst (λ (b : Box). Inv (made x.receiver x.sender x.to_sender x.to_receiver b) → Inv (made (receivers.moved (receivers.Take z bits) x.receiver) x.sender x.to_sender x.to_receiver Taken)) (sym m.1.1)
    (receives.kept_take x.receiver x.sender x.to_sender x.to_receiver m.1.0 z bits) h
kept (Sends (senders.Ask c z)) x m h = sends.kept_ask x.receiver x.sender x.to_sender x.to_receiver x.box h c z m.0
kept (Sends (senders.Open c)) x m h = sends.kept_open x.receiver x.sender x.to_sender x.to_receiver x.box h
kept (Sends (senders.Send c z bits)) x m h =
    subst (λ (b : Box). Inv (made x.receiver x.sender x.to_sender x.to_receiver b) → Inv (made x.receiver (senders.moved (senders.Send c z bits) x.sender) x.to_sender x.to_receiver (Waiting c z bits))) (sym m.1)
    (λ i. sends.kept_send x.receiver x.sender x.to_sender x.to_receiver i c z bits m.0.0 m.0.1 m.0.2 m.0.3) h
kept (Sends (senders.Close c)) x m h = sends.kept_close x.receiver x.sender x.to_sender x.to_receiver x.box h c m.0 m.1
kept (Sends (senders.Hear w)) x m h =
    subst (λ (d : List Word). Inv (made x.receiver x.sender d x.to_receiver x.box) → Inv (made x.receiver (senders.hears w x.sender) (behind d) (word_queued (senders.says (senders.Hear w) x.sender) x.to_receiver) x.box)) (sym m.1.1)
    (heard_by_sender x.receiver x.sender m.1.0 x.to_receiver x.box w) h
kept (Sends senders.Told) x m h =
    subst (λ (b : Box). Inv (made x.receiver x.sender x.to_sender x.to_receiver b) → Inv (made x.receiver x.sender x.to_sender x.to_receiver Empty)) (sym m.1)
    (sends.kept_told x.receiver x.sender x.to_sender x.to_receiver) h

pub inv_run : (events : List Event) → IsRun events → Inv (stream events)
inv_run [] run = inv_opening
inv_run (e ∷ events) run = kept e _ run.0 (inv_run events run.1)

-- ---- the law

granted_as : (x : Stream) → Inv x → (c : ℕ) (ms : List (List Bool)) → ((u : Counter) → total u ms ≤ total u (x.sender.sent c)) → AreGranted ms (x.receiver.returned c) (x.receiver.granted c)
granted_as x h c ms less =
    let a : Account Messages c x.receiver x.sender x.to_sender x.to_receiver = h.account Messages c in
    let b : Account Bits c x.receiver x.sender x.to_sender x.to_receiver = h.account Bits c in
    let k : total Messages ms ≤ total Messages (x.sender.sent c) = less Messages in
    let l : total Bits ms ≤ total Bits (x.sender.sent c) = less Bits in
    let m : total Messages ms ≡ length ms = total_messages ms in
    let n : total Bits ms ≡ message_bits ms = total_bits ms in
    record { in_messages = omega (arith, a, k, m); in_bits = omega (arith, b, l, n) }

pub safe_inv : (x : Stream) → Inv x → (c : ℕ) → IsSafe x c
safe_inv x h c = record {
  front = h.arrivals.fronts c;
  whole = h.arrivals.settled c;
  taken = granted_as x h c _ (λ u. total_front u _ _ (h.arrivals.fronts c));
  sent = granted_as x h c _ (λ u. omega arith);
}

pub safe_run : (events : List Event) (c : ℕ) → IsRun events → IsSafe (stream events) c
safe_run events c run = safe_inv _ (inv_run events run) c

pub fresh_run : (x : Stream) → Inv x → x.receiver.end ≡ None → NothingLeft x
fresh_run x h none = record {
  data_none = λ c z bits e. (let both : None ≡ Some c = sym none ∙ waits_of x h c z bits e in absurd (cc));
  returned_none = none_returned x.receiver.asked x.sender.closed x.sender.size x.receiver.over x.to_receiver (all_over x h none) h.up;
  sender_closed = closed_of x h none;
}

pub accepted_run : (x : Stream) → Inv x → (c z : ℕ) (bits : List Bool) → ((k : ℕ) × (x.box ≡ Waiting k z bits)) → x.receiver.end ≡ Some c → x.receiver.closed ≡ false → x.receiver.over c ≡ false
    → (receivers.takes z bits x.receiver.end x.receiver).taken c ≡ x.receiver.taken c ++ bits ∷ []
accepted_run x h c z bits there end closed over =
    subst (λ (o : Option ℕ). (receivers.takes z bits o x.receiver).taken c ≡ x.receiver.taken c ++ bits ∷ []) (sym end)
    (let good : (receivers.is_open c x.receiver && is_size z (x.receiver.size c) && covers x.receiver.allocation (length bits)) ≡ true = acceptable x h c z bits here closed over in
    rw good (for_here c _ x.receiver.taken)) where
      same : there.0 ≡ c
      same = same_end (sym (waits_of x h there.0 z bits there.1) ∙ end) where
        same_end : Some there.0 ≡ Some c → there.0 ≡ c
        same_end e = some_is there.0 c e

      here : x.box ≡ Waiting c z bits
      here = subst (λ (k : ℕ). x.box ≡ Waiting k z bits) same there.1

-- ---- owners

pub returned_run : (x : Stream) → Inv x → (c m n : ℕ) (rest : List Word) → x.to_receiver ≡ Ret c m n ∷ rest → x.receiver.end ≡ Some c
returned_run x h c m n rest e =
    subst (λ (u : List Word). Inv (made x.receiver x.sender x.to_sender u x.box) → x.receiver.end ≡ Some c) (sym e) (receives.returned_to x.receiver x.sender x.to_sender rest x.box c m n) h

pub granted_run : (x : Stream) → Inv x → (c m n : ℕ) (rest : List Word) → x.to_sender ≡ All c m n ∷ rest → x.sender.end ≡ Some c
granted_run x h c m n rest e =
    subst (λ (d : List Word). Inv (made x.receiver x.sender d x.to_receiver x.box) → x.sender.end ≡ Some c) (sym e) (sends.granted_to x.receiver x.sender rest x.to_receiver x.box c m n) h

pub asked_back_run : (x : Stream) → Inv x → (c m n : ℕ) (rest : List Word) → x.to_sender ≡ Gvb c m n ∷ rest → x.sender.end ≡ Some c
asked_back_run x h c m n rest e =
    subst (λ (d : List Word). Inv (made x.receiver x.sender d x.to_receiver x.box) → x.sender.end ≡ Some c) (sym e) (sends.asked_of x.receiver x.sender rest x.to_receiver x.box c m n) h
