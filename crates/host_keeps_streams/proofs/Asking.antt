-- What a user asks of an open end.
use Rattle.host_keeps_streams.proofs.Common.{◌≡◌, ℕ, ◌+◌, ◌≤◌, Bool, true, false, nat_lt, List, [], ◌∷◌, filter, find, Some, refl, ap, sym, subst, ◌∙◌, inl, inr, or_false, Allocation, Receiver, Sender, passes, with_more_bits, granted, changed_first, is_mine_on, is_open, receives_on, sends_on, Entry, IsReceiver, AreReceiver, HasReceiver, AreSender, HasSender}
use Rattle.std.proofs.lemmas.Bool.{ltb-false}
use Rattle.ncp_control.specs.Allocation as counters
use Rattle.stream_law.specs.Receivers as receivers
use Rattle.host_keeps_streams.proofs.Lists.{away}
use Rattle.host_keeps_streams.proofs.Receivers.{open_same, own_receiver}
use Rattle.host_keeps_streams.proofs.Senders.{own_sender}

-- what doesn't pass the counters fits in them
fits : (a : Allocation) (m n : ℕ) → passes a m n ≡ false → (a.messages + m ≤ 65535) × (a.bits + n ≤ 4294967295)
fits a m n e =
    let p : (nat_lt 65535 (a.messages + m) ≡ false) × (nat_lt 4294967295 (a.bits + n) ≡ false) = or_false (nat_lt 65535 (a.messages + m)) _ e in
    (ltb-false 65535 (a.messages + m) p.0, ltb-false 4294967295 (a.bits + n) p.1)

module _ (name : ℕ → ℕ → ℕ) (link socket : ℕ) (e : Entry) (es : List Entry) (own : find (is_mine_on socket) es ≡ Some e) where
  -- ---- a receiving end

  receiver_is : (change : Entry → Entry) (r : Receiver) → receives_on link e ≡ true → receives_on link (change e) ≡ true → HasReceiver name link es r
      → IsReceiver (name e.own e.foreign) e r × (filter (receives_on link) (changed_first (is_mine_on socket) change es) ≡ change e ∷ [])
  receiver_is change r on after h = own_receiver name link _ change e es r own on after h

  pub grant_may : (m n : ℕ) (r : Receiver) → receives_on link e ≡ true → is_open e ≡ true → passes e.allocation m n ≡ false → HasReceiver name link es r → receivers.May (receivers.Grant (name e.own e.foreign) m n) r
  grant_may m n r on opened little h =
      let i : IsReceiver (name e.own e.foreign) e r = (receiver_is (granted m n) r on on h).0 in
      let l : (r.allocation.messages + m ≤ 65535) × (r.allocation.bits + n ≤ 4294967295) = fits r.allocation m n (ap (λ (a : Allocation). passes a m n) i.allocation ∙ little) in
      (i.end, open_same _ e r i ∙ opened, l.0, l.1)

  pub grant_receives : (m n : ℕ) (r : Receiver) → receives_on link e ≡ true → HasReceiver name link es r
      → HasReceiver name link (changed_first (is_mine_on socket) (granted m n) es) (receivers.grants (name e.own e.foreign) m n r)
  grant_receives m n r on h =
      let k : IsReceiver (name e.own e.foreign) e r × (filter (receives_on link) (changed_first (is_mine_on socket) (granted m n) es) ≡ granted m n e ∷ []) = receiver_is _ r on on h in
      let i : IsReceiver (name e.own e.foreign) e r = k.0 in
      let more : counters.granted r.allocation m n ≡ counters.granted e.allocation m n = ap (λ (a : Allocation). counters.granted a m n) i.allocation in
      subst (λ (ys : List Entry). AreReceiver name ys (receivers.grants (name e.own e.foreign) m n r)) (sym k.1)
      (record { end = i.end; opened = i.opened; closed = i.closed; over = i.over; size = i.size; allocation = more; due = i.due; live = i.live })

  pub ask_back_may : (m n : ℕ) (r : Receiver) → receives_on link e ≡ true → is_open e ≡ true → HasReceiver name link es r → receivers.May (receivers.AskBack (name e.own e.foreign) m n) r
  ask_back_may m n r on opened h =
      let i : IsReceiver (name e.own e.foreign) e r = (receiver_is (granted m n) r on on h).0 in
      (i.end, open_same _ e r i ∙ opened)

  pub grant_elsewhere : (m n : ℕ) (r : Receiver) → receives_on link e ≡ false → HasReceiver name link es r → HasReceiver name link (changed_first (is_mine_on socket) (granted m n) es) r
  grant_elsewhere m n r off h = subst (λ (ys : List Entry). AreReceiver name ys r) (sym (away _ _ _ e es off off own)) h

  pub grant_apart : (m n : ℕ) (s : Sender) → sends_on link e ≡ false → HasSender name link es s → HasSender name link (changed_first (is_mine_on socket) (granted m n) es) s
  grant_apart m n s off h = subst (λ (ys : List Entry). AreSender name ys s) (sym (away _ _ _ e es off off own)) h

  -- ---- bits to be sent

  more_there : (bits : List Bool) (s : Sender) → sends_on link e ≡ true → HasSender name link es s → HasSender name link (changed_first (is_mine_on socket) (with_more_bits bits) es) s
  more_there bits s on h =
      let k : AreSender name (e ∷ []) s × (filter (sends_on link) (changed_first (is_mine_on socket) (with_more_bits bits) es) ≡ with_more_bits bits e ∷ []) = own_sender name link _ _ e es s own on on h in
      subst (λ (ys : List Entry). AreSender name ys s) (sym k.1) (elim k.0 [
        | inl is ↦ inl (record { end = is.end; opened = is.opened; shut = is.shut; closed = is.closed; size = is.size; allocation = is.allocation; live = is.live })
        | inr n ↦ inr (record { closed = n.closed; shut = n.shut; live = n.live; none = n.none })
      ])

  more_by : (bits : List Bool) (s : Sender) → HasSender name link es s → (v : Bool) → sends_on link e ≡ v → HasSender name link (changed_first (is_mine_on socket) (with_more_bits bits) es) s
  more_by bits s h true on = more_there bits s on h
  more_by bits s h false off = subst (λ (ys : List Entry). AreSender name ys s) (sym (away _ _ _ e es off off own)) h

  -- what waits to be sent is no matter of the law
  pub send_keeps : (bits : List Bool) (s : Sender) → HasSender name link es s → HasSender name link (changed_first (is_mine_on socket) (with_more_bits bits) es) s
  send_keeps bits s h = more_by bits s h _ refl
