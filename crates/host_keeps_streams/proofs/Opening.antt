-- Ends that open.
use Rattle.host_keeps_streams.proofs.Common.{◌≡◌, ℕ, Bool, false, ◌&&◌, ◌==◌, List, [], ◌∷◌, filter, Option, Some, None, is_some, refl, ap, sym, subst, ◌∙◌, inl, inr, append-nil, not, ◌++◌, find, list_any, filter-append, is_receive_socket, requested, PairState, Host, for, Receiver, Sender, at, for_here, asked_on_link, asked_with_size, rts_taken_by, str_taken_by, desk_taken, DeskState, sending_end, connection_links, free_link, receiving_end, changed_first, entry_at, has_cls, is_at, is_over, is_receiving, receives_on, sends_on, asked_at, command_gone, Entry, not_is, all_received, MayAllReceive, received_open, all_sent, MayAllSend, sent_open, IsReceiver, AreReceiver, HasReceiver, IsSender, AreSender, HasSender}
use Rattle.std.proofs.Common.{true, eq-eqb}
use Rattle.ncp_control.specs.Allocation as counters
use Rattle.ncp_control.specs.declared.command.Command.TheVariants as command
use Rattle.stream_law.specs.Words as words
use Rattle.stream_law.specs.Receivers as receivers
use Rattle.stream_law.specs.Senders as senders
use Rattle.stream_law.proofs.lemmas.{some_is}
use Rattle.host_keeps_streams.proofs.Lists.{joins, none_any}
use Rattle.host_keeps_streams.proofs.Receivers.{own_receiver}
use Rattle.interface.proofs.lemmas.{and_none}

module _ (name : ℕ → ℕ → ℕ) (link : ℕ) where
  -- ---- a receiving end whose RTS goes out

  asked_by : (stamp : ℕ) (e : Entry) (r : Receiver) → IsReceiver (name e.own e.foreign) e r → (v : Bool) → is_some e.partner ≡ v → (is_some e.partner ≡ true → is_some e.size ≡ true)
      → MayAllReceive (received_open v (name e.own e.foreign)) r × IsReceiver (name e.own e.foreign) (asked_at stamp e) (all_received (received_open v (name e.own e.foreign)) r)
  asked_by stamp e r i true t size = (
    ((i.end, ap is_some i.size ∙ size t), tt),
    record { end = i.end; opened = sym t; closed = i.closed; over = i.over; size = i.size; allocation = i.allocation; due = i.due; live = i.live },
  )
  asked_by stamp e r i false t size =
      let before : r.opened ≡ false = i.opened ∙ ap (λ (v : Bool). is_some e.asked && v) t ∙ and_none _ in
      (tt, record { end = i.end; opened = before ∙ sym t; closed = i.closed; over = i.over; size = i.size; allocation = i.allocation; due = i.due; live = i.live })

  pub rts_gone : (peer : Host) (stamp own foreign other : ℕ) (d : DeskState) (e : Entry) (r : Receiver) → entry_at own foreign d.entries ≡ Some e → receives_on link e ≡ true → (is_some e.partner ≡ true → is_some e.size ≡ true)
      → HasReceiver name link d.entries r
      → MayAllReceive (received_open (is_some e.partner) (name e.own e.foreign)) r
      × HasReceiver name link (command_gone peer stamp (command.Rts own foreign other) d).entries (all_received (received_open (is_some e.partner) (name e.own e.foreign)) r)
  rts_gone peer stamp own foreign other d e r found on size h =
      let k : IsReceiver (name e.own e.foreign) e r × (filter (receives_on link) (changed_first (is_at own foreign) (asked_at stamp) d.entries) ≡ asked_at stamp e ∷ [])
      = own_receiver name link _ _ e d.entries r found on on h in
      let done : MayAllReceive (received_open (is_some e.partner) (name e.own e.foreign)) r × IsReceiver (name e.own e.foreign) (asked_at stamp e) (all_received (received_open (is_some e.partner) (name e.own e.foreign)) r)
      = asked_by stamp e r k.0 (is_some e.partner) refl size in
      (done.0, subst (λ (xs : List Entry). AreReceiver name xs (all_received (received_open (is_some e.partner) (name e.own e.foreign)) r)) (sym k.1) done.1)

  -- ---- a receiving end whose STR is heard

  told_by : (stamp z : ℕ) (e : Entry) (r : Receiver) → IsReceiver (name e.own e.foreign) e r → is_some e.partner ≡ false → (v : Bool) → is_some e.asked ≡ v
      → MayAllReceive (receivers.Hear (words.Str (name e.own e.foreign) z) ∷ received_open v (name e.own e.foreign)) r
      × IsReceiver (name e.own e.foreign) (asked_with_size stamp z e) (all_received (receivers.Hear (words.Str (name e.own e.foreign) z) ∷ received_open v (name e.own e.foreign)) r)
  told_by stamp z e r i none true t =
      let size : for (name e.own e.foreign) (Some z) r.size (name e.own e.foreign) ≡ Some z = for_here _ (Some z) r.size in (
        (tt, ((i.end, ap is_some size), tt)),
        record { end = i.end; opened = ap (λ (v : Bool). v && true) (sym t); closed = i.closed; over = i.over; size = size; allocation = i.allocation; due = i.due; live = i.live },
      )
  told_by stamp z e r i none false t =
      let before : r.opened ≡ false = i.opened ∙ ap (λ (v : Bool). is_some e.asked && v) none ∙ and_none _ in (
        (tt, tt),
        record {
          end = i.end;
          opened = before ∙ ap (λ (v : Bool). v && true) (sym t);
          closed = i.closed;
          over = i.over;
          size = for_here _ (Some z) r.size;
          allocation = i.allocation;
          due = i.due;
          live = i.live;
        },
      )

  pub str_heard : (peer : Host) (busy : List ℕ) (stamp own foreign z : ℕ) (d : DeskState) (e : Entry) (r : Receiver) → entry_at own foreign d.entries ≡ Some e → receives_on link e ≡ true → is_some e.partner ≡ false
      → HasReceiver name link d.entries r
      → MayAllReceive (receivers.Hear (words.Str (name e.own e.foreign) z) ∷ received_open (is_some e.asked) (name e.own e.foreign)) r
      × HasReceiver name link (desk_taken peer busy stamp (command.Str foreign own z) d).entries (all_received (receivers.Hear (words.Str (name e.own e.foreign) z) ∷ received_open (is_some e.asked) (name e.own e.foreign)) r)
  str_heard peer busy stamp own foreign z d e r found on first h =
      let k : IsReceiver (name e.own e.foreign) e r × (filter (receives_on link) (changed_first (is_at own foreign) (asked_with_size stamp z) d.entries) ≡ asked_with_size stamp z e ∷ [])
      = own_receiver name link _ _ e d.entries r found on on h in
      let done : MayAllReceive (receivers.Hear (words.Str (name e.own e.foreign) z) ∷ received_open (is_some e.asked) (name e.own e.foreign)) r
      × IsReceiver (name e.own e.foreign) (asked_with_size stamp z e) (all_received (receivers.Hear (words.Str (name e.own e.foreign) z) ∷ received_open (is_some e.asked) (name e.own e.foreign)) r)
      = told_by stamp z e r k.0 first (is_some e.asked) refl in (
        done.0,
        subst (λ (o : Option Entry). HasReceiver name link (str_taken_by peer own foreign z stamp o d).entries (all_received (receivers.Hear (words.Str (name e.own e.foreign) z) ∷ received_open (is_some e.asked) (name e.own e.foreign)) r)) (sym found)
            (rw first (subst (λ (xs : List Entry). AreReceiver name xs (all_received (receivers.Hear (words.Str (name e.own e.foreign) z) ∷ received_open (is_some e.asked) (name e.own e.foreign)) r)) (sym k.1) done.1)),
      )

  -- ---- a sending end whose RTS is heard

  linked_by : (stamp : ℕ) (e : Entry) (s : Sender) → s.end ≡ None → s.size (name e.own e.foreign) ≡ e.size → s.closed (name e.own e.foreign) ≡ has_cls e.closing → is_some e.size ≡ true → e.allocation ≡ counters.nothing
      → e.partner_closed ≡ false → is_some e.partner ≡ false → (v : Bool) → is_some e.asked ≡ v
      → MayAllSend (sent_open v (name e.own e.foreign)) (senders.begins (name e.own e.foreign) None s)
      × IsSender (name e.own e.foreign) (asked_on_link stamp link e) (all_sent (sent_open v (name e.own e.foreign)) (senders.begins (name e.own e.foreign) None s))
  linked_by stamp e s none size closed told fresh open_end first true t = (
    ((refl, ap is_some size ∙ told), tt),
    record { end = refl; opened = ap (λ (v : Bool). v && true) (sym t); shut = sym open_end; closed = closed; size = size; allocation = sym fresh; live = live_by open_end },
  ) where
    live_by : e.partner_closed ≡ false → is_over (asked_on_link stamp link e) ≡ false
    live_by f = rw f (and_none _)
  linked_by stamp e s none size closed told fresh open_end first false t = (
    tt,
    record { end = refl; opened = ap (λ (v : Bool). v && true) (sym t); shut = sym open_end; closed = closed; size = size; allocation = sym fresh; live = live_by open_end },
  ) where
    live_by : e.partner_closed ≡ false → is_over (asked_on_link stamp link e) ≡ false
    live_by f = rw f (and_none _)

  pub rts_heard : (peer : Host) (busy : List ℕ) (stamp own foreign : ℕ) (d : DeskState) (e : Entry) (s : Sender) → entry_at own foreign d.entries ≡ Some e → is_receiving e ≡ false → list_any (sends_on link) d.entries ≡ false → s.end ≡ None
      → s.size (name e.own e.foreign) ≡ e.size → s.closed (name e.own e.foreign) ≡ has_cls e.closing → is_some e.size ≡ true → e.allocation ≡ counters.nothing → e.partner_closed ≡ false → is_some e.partner ≡ false
      → MayAllSend (senders.Hear (words.Rts (name e.own e.foreign)) ∷ sent_open (is_some e.asked) (name e.own e.foreign)) s
      × HasSender name link (desk_taken peer busy stamp (command.Rts foreign own link) d).entries (all_sent (senders.Hear (words.Rts (name e.own e.foreign)) ∷ sent_open (is_some e.asked) (name e.own e.foreign)) s)
  rts_heard peer busy stamp own foreign d e s found sends free none size closed told fresh open_end first =
      let on : sends_on link (asked_on_link stamp link e) ≡ true = (let there : (link == link) ≡ true = eq-eqb link link refl in rw (sends, there) refl) in
      let one : filter (sends_on link) (changed_first (is_at own foreign) (asked_on_link stamp link) d.entries) ≡ asked_on_link stamp link e ∷ []
      = joins _ _ _ e d.entries on found (none_any _ d.entries free) in
      let done : MayAllSend (sent_open (is_some e.asked) (name e.own e.foreign)) (senders.begins (name e.own e.foreign) None s)
      × IsSender (name e.own e.foreign) (asked_on_link stamp link e) (all_sent (sent_open (is_some e.asked) (name e.own e.foreign)) (senders.begins (name e.own e.foreign) None s))
      = linked_by stamp e s none size closed told fresh open_end first (is_some e.asked) refl in
      subst (λ (o : Option ℕ). MayAllSend (senders.Hear (words.Rts (name e.own e.foreign)) ∷ sent_open (is_some e.asked) (name e.own e.foreign)) s
      × HasSender name link (desk_taken peer busy stamp (command.Rts foreign own link) d).entries (all_sent (sent_open (is_some e.asked) (name e.own e.foreign)) (senders.begins (name e.own e.foreign) o s))
      → MayAllSend (senders.Hear (words.Rts (name e.own e.foreign)) ∷ sent_open (is_some e.asked) (name e.own e.foreign)) s
      × HasSender name link (desk_taken peer busy stamp (command.Rts foreign own link) d).entries (all_sent (senders.Hear (words.Rts (name e.own e.foreign)) ∷ sent_open (is_some e.asked) (name e.own e.foreign)) s))
      none (λ h. h) (
        (tt, subst (λ (o : Option ℕ). MayAllSend (sent_open (is_some e.asked) (name e.own e.foreign)) (senders.begins (name e.own e.foreign) o s)) (sym none) done.0),
        rw free (subst (λ (o : Option Entry). HasSender name link (rts_taken_by peer own foreign link stamp o d).entries (all_sent (sent_open (is_some e.asked) (name e.own e.foreign)) (senders.begins (name e.own e.foreign) None s))) (sym found)
            (rw first (subst (λ (xs : List Entry). AreSender name xs (all_sent (sent_open (is_some e.asked) (name e.own e.foreign)) (senders.begins (name e.own e.foreign) None s))) (sym one) (inl done.1)))),
      )

-- ---- a user opens an end that receives

passes_step : (test : ℕ → Bool) (x y : ℕ) (ys : List ℕ) → (find test ys ≡ Some x → test x ≡ true) → (b : Bool) → test y ≡ b → find test (y ∷ ys) ≡ Some x → test x ≡ true
passes_step test x y ys rest true t e = let r : Some y ≡ Some x = rw t at e in sym (ap test (some_is y x r)) ∙ t
passes_step test x y ys rest false t e = rest (rw t at e)

pub number_passes : (test : ℕ → Bool) (x : ℕ) (xs : List ℕ) → find test xs ≡ Some x → test x ≡ true
number_passes test x [] e = absurd (cc)
number_passes test x (y ∷ ys) e = passes_step test x y ys (number_passes test x ys) (test y) refl e

module _ (name : ℕ → ℕ → ℕ) (link own foreign : ℕ) (q : PairState) (r : Receiver) (h : HasReceiver name link q.entries r) where
  -- the lowest free link is free
  pub asks_free : free_link q.entries ≡ Some link → is_receive_socket own ≡ true → r.asked (name own foreign) ≡ false → r.size (name own foreign) ≡ None → r.over (name own foreign) ≡ false
      → receivers.May (receivers.Ask (name own foreign)) r
      × HasReceiver name link (requested (receiving_end own foreign link) (command.Rts own foreign link) q).entries (receivers.moved (receivers.Ask (name own foreign)) r)
  asks_free free even unasked size over =
      let unused : list_any (receives_on link) q.entries ≡ false = not_is _ (number_passes (λ l. not (list_any (receives_on l) q.entries)) link connection_links free) in
      let empty : filter (receives_on link) q.entries ≡ [] = none_any _ q.entries unused in
      let on : receives_on link (receiving_end own foreign link) ≡ true = (let there : (link == link) ≡ true = eq-eqb link link refl in rw (even, there) refl) in
      let one : filter (receives_on link) (receiving_end own foreign link ∷ []) ≡ receiving_end own foreign link ∷ [] = (rw on refl) in
      let list : filter (receives_on link) (q.entries ++ receiving_end own foreign link ∷ []) ≡ receiving_end own foreign link ∷ []
      = filter-append (receives_on link) q.entries (receiving_end own foreign link ∷ []) ∙ ap (λ (xs : List Entry). xs ++ filter (receives_on link) (receiving_end own foreign link ∷ [])) empty ∙ one in
      let none : r.end ≡ None = subst (λ (xs : List Entry). AreReceiver name xs r) empty h in (
        (none, unasked),
        subst (λ (xs : List Entry). AreReceiver name xs (receivers.moved (receivers.Ask (name own foreign)) r)) (sym list)
            (record { end = refl; opened = refl; closed = refl; over = over; size = size; allocation = refl; due = refl; live = refl }),
      )

  pub asks_elsewhere : (other : ℕ) → (other == link) ≡ false → HasReceiver name link (requested (receiving_end own foreign other) (command.Rts own foreign other) q).entries r
  asks_elsewhere other away =
      let off : receives_on link (receiving_end own foreign other) ≡ false = (rw away (and_none _)) in
      let none : filter (receives_on link) (receiving_end own foreign other ∷ []) ≡ [] = (rw off refl) in
      let list : filter (receives_on link) (q.entries ++ receiving_end own foreign other ∷ []) ≡ filter (receives_on link) q.entries
      = filter-append (receives_on link) q.entries (receiving_end own foreign other ∷ []) ∙ ap (λ (xs : List Entry). filter (receives_on link) q.entries ++ xs) none ∙ append-nil (filter (receives_on link) q.entries) in
      subst (λ (xs : List Entry). AreReceiver name xs r) (sym list) h

-- ---- a user opens an end that sends: it has no link yet

module _ (name : ℕ → ℕ → ℕ) (link c z : ℕ) (s : Sender) (other : s.end ≡ Some c → ⊥) where
  pub told_keeps : (xs : List Entry) → AreSender name xs s → AreSender name xs (senders.moved (senders.Ask c z) s)
  told_keeps [] h = h
  told_keeps (x ∷ []) (inl i) =
      let kept : for c (Some z) s.size (name x.own x.foreign) ≡ s.size (name x.own x.foreign) = elim (at c (Some z) s.size (name x.own x.foreign)) [
        | inl t ↦ absurd (other (i.end ∙ ap (λ (n : ℕ). Some n) t.0))
        | inr t ↦ t.1
      ] in
      inl (record { end = i.end; opened = i.opened; shut = i.shut; closed = i.closed; size = kept ∙ i.size; allocation = i.allocation; live = i.live })
  told_keeps (x ∷ []) (inr n) = inr (record { closed = n.closed; shut = n.shut; live = n.live; none = n.none })
  told_keeps (x ∷ y ∷ ys) h = h

  pub asks_to_send : (own foreign : ℕ) (q : PairState) → s.size c ≡ None → HasSender name link q.entries s
      → senders.May (senders.Ask c z) s × HasSender name link (requested (sending_end own foreign z) (command.Str own foreign z) q).entries (senders.moved (senders.Ask c z) s)
  asks_to_send own foreign q fresh h =
      let off : sends_on link (sending_end own foreign z) ≡ false = and_none _ in
      let none : filter (sends_on link) (sending_end own foreign z ∷ []) ≡ [] = (rw off refl) in
      let list : filter (sends_on link) (q.entries ++ sending_end own foreign z ∷ []) ≡ filter (sends_on link) q.entries
      = filter-append (sends_on link) q.entries (sending_end own foreign z ∷ []) ∙ ap (λ (xs : List Entry). filter (sends_on link) q.entries ++ xs) none ∙ append-nil (filter (sends_on link) q.entries) in
      (fresh, subst (λ (xs : List Entry). AreSender name xs (senders.moved (senders.Ask c z) s)) (sym list) (told_keeps _ h))
