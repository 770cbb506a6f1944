-- Receiving ends that close.
use Rattle.host_keeps_streams.proofs.Common.{◌≡◌, ℕ, Bool, true, false, not, List, [], ◌∷◌, map, filter, find, Option, Some, None, refl, ap, sym, subst, ◌∙◌, Host, or_false, Receiver, for_here, closed_end, cls_taken_by, desk_taken, DeskState, called_off, changed_first, closed_by_partner, closed_when, entry_at, has_cls, is_at, is_called_off, is_drained, is_due, is_mine_on, is_over, is_receiving, must_close, receives_on, was_closed, PairState, command_gone, Closing, Entry, all_received, MayAllReceive, received_close, received_gone, IsReceiver, AreReceiver, HasReceiver}
use Rattle.ncp_control.specs.declared.command.Command.TheVariants as command
use Rattle.stream_law.specs.Words as words
use Rattle.stream_law.specs.Receivers as receivers
use Rattle.host_pairs.specs.Parcels.{cls_sent}
use Rattle.host_pairs.specs.declared.entry.Closing.TheVariants as closing
use Rattle.host_keeps_streams.proofs.Lists.{away, filter_both, filter_map, received_is}
use Rattle.host_keeps_streams.proofs.Receivers.{own_receiver}

abbrev pub shut_one : List ℕ → Entry → Entry
shut_one busy e = closed_when (must_close busy e) e

abbrev pub stays : Entry → Bool
stays e = not (is_over e)

pub close_now : (busy : List ℕ) (e : Entry) → is_due e.closing ≡ true → is_drained busy e ≡ true → shut_one busy e ≡ record e { closing = closing.Queued }
close_now busy e due drained = rw (due, drained) refl

stay_now : (busy : List ℕ) (e : Entry) → is_due e.closing ≡ false → shut_one busy e ≡ e
stay_now busy e due = rw due refl

pub not_called : (v : Closing) → is_called_off v ≡ false → v ≡ closing.No
not_called closing.No e = refl
not_called v e = absurd (cc)

received_drained : (busy : List ℕ) (e : Entry) → is_receiving e ≡ true → is_drained busy e ≡ true
received_drained busy e there = rw there refl

-- ---- ends that aren't the one that closes

still_settled : (name : ℕ → ℕ → ℕ) (busy : List ℕ) (xs : List Entry) (r : Receiver) → AreReceiver name xs r → map (shut_one busy) xs ≡ xs
still_settled name busy [] r h = refl
still_settled name busy (x ∷ []) r h = ap (λ (e : Entry). e ∷ []) (stay_now busy x h.due)
still_settled name busy (x ∷ y ∷ ys) r h = absurd h

still_swept : (name : ℕ → ℕ → ℕ) (xs : List Entry) (r : Receiver) → AreReceiver name xs r → filter stays xs ≡ xs
still_swept name [] r h = refl
still_swept name (x ∷ []) r h = let live : is_over x ≡ false = h.live in rw live refl
still_swept name (x ∷ y ∷ ys) r h = absurd h

module _ (name : ℕ → ℕ → ℕ) (link : ℕ) where
  -- ends that are due, on any link, close
  pub settled_keeps : (busy : List ℕ) (es : List Entry) (r : Receiver) → HasReceiver name link es r → HasReceiver name link (map (shut_one busy) es) r
  settled_keeps busy es r h =
      subst (λ (xs : List Entry). AreReceiver name xs r) (sym (filter_map _ _ es (λ e. refl) ∙ still_settled name busy _ r h)) h

  pub swept_keeps : (es : List Entry) (r : Receiver) → HasReceiver name link es r → HasReceiver name link (filter stays es) r
  swept_keeps es r h =
      subst (λ (xs : List Entry). AreReceiver name xs r) (sym (filter_both (receives_on link) stays es ∙ still_swept name _ r h)) h

  away_keeps : (test : Entry → Bool) (change : Entry → Entry) (e : Entry) (es : List Entry) (r : Receiver) → find test es ≡ Some e → receives_on link e ≡ false → receives_on link (change e) ≡ false → HasReceiver name link es r
      → HasReceiver name link (changed_first test change es) r
  away_keeps test change e es r found off after h = subst (λ (xs : List Entry). AreReceiver name xs r) (sym (away test _ change e es off after found)) h

  -- ---- the user closes

  pub close_receives : (socket : ℕ) (q : PairState) (e : Entry) (r : Receiver) → find (is_mine_on socket) q.entries ≡ Some e → receives_on link e ≡ true → was_closed e ≡ false → HasReceiver name link q.entries r
      → receivers.May (receivers.Close (name e.own e.foreign)) r × HasReceiver name link (closed_end socket q).entries (receivers.moved (receivers.Close (name e.own e.foreign)) r)
  close_receives socket q e r found on live h =
      let k : IsReceiver (name e.own e.foreign) e r × (filter (receives_on link) (changed_first (is_mine_on socket) called_off q.entries) ≡ called_off e ∷ [])
      = own_receiver name link (is_mine_on socket) called_off e q.entries r found on on h in
      let i : IsReceiver (name e.own e.foreign) e r = k.0 in
      let no : e.closing ≡ closing.No = not_called e.closing (or_false (is_called_off e.closing) e.partner_closed live).0 in
      let now : shut_one q.busy (called_off e) ≡ record e { closing = closing.Queued } = close_now q.busy (called_off e) (rw no refl) (received_drained q.busy e (received_is link e on)) in
      let list : filter (receives_on link) (map (shut_one q.busy) (changed_first (is_mine_on socket) called_off q.entries)) ≡ record e { closing = closing.Queued } ∷ []
      = filter_map (receives_on link) (shut_one q.busy) (changed_first (is_mine_on socket) called_off q.entries) (λ x. refl) ∙ ap (λ (xs : List Entry). map (shut_one q.busy) xs) k.1 ∙ ap (λ (x : Entry). x ∷ []) now in (
        (i.end, i.closed ∙ ap has_cls no),
        subst (λ (xs : List Entry). AreReceiver name xs (receivers.moved (receivers.Close (name e.own e.foreign)) r)) (sym list)
            (record { end = i.end; opened = i.opened; closed = refl; over = i.over; size = i.size; allocation = i.allocation; due = refl; live = refl }),
      )

  pub close_elsewhere : (socket : ℕ) (q : PairState) (e : Entry) (r : Receiver) → find (is_mine_on socket) q.entries ≡ Some e → receives_on link e ≡ false → HasReceiver name link q.entries r → HasReceiver name link (closed_end socket q).entries r
  close_elsewhere socket q e r found off h =
      settled_keeps q.busy (changed_first (is_mine_on socket) called_off q.entries) r (away_keeps _ called_off e q.entries r found off off h)

  -- ---- the partner closes

  abbrev heard_list : Entry → Closing → List Entry
  heard_list e closing.No = record e { closing = closing.Queued; partner_closed = true; bits = [] } ∷ []
  heard_list e closing.Due = record e { closing = closing.Queued; partner_closed = true; bits = [] } ∷ []
  heard_list e closing.Queued = record e { closing = closing.Queued; partner_closed = true; bits = [] } ∷ []
  heard_list e closing.Sent = []

  heard_is : (busy : List ℕ) (e : Entry) → is_receiving e ≡ true → (v : Closing) → e.closing ≡ v → filter stays (map (shut_one busy) (closed_by_partner e ∷ [])) ≡ heard_list e v
  heard_is busy e there closing.No same = rw (same, there) refl
  heard_is busy e there closing.Due same = rw (same, there) refl
  heard_is busy e there closing.Queued same = rw same refl
  heard_is busy e there closing.Sent same = rw same refl

  heard_by : (e : Entry) (r : Receiver) → IsReceiver (name e.own e.foreign) e r → (v : Closing) → e.closing ≡ v
      → MayAllReceive (receivers.Hear (words.Cls (name e.own e.foreign)) ∷ received_close v (name e.own e.foreign)) r
      × AreReceiver name (heard_list e v) (all_received (receivers.Hear (words.Cls (name e.own e.foreign)) ∷ received_close v (name e.own e.foreign)) r)
  heard_by e r i closing.No same = (
    (tt, ((i.end, i.closed ∙ ap has_cls same), tt)),
    record { end = i.end; opened = i.opened; closed = refl; over = for_here _ true r.over; size = i.size; allocation = i.allocation; due = refl; live = refl },
  )
  heard_by e r i closing.Due same = (
    (tt, ((i.end, i.closed ∙ ap has_cls same), tt)),
    record { end = i.end; opened = i.opened; closed = refl; over = for_here _ true r.over; size = i.size; allocation = i.allocation; due = refl; live = refl },
  )
  heard_by e r i closing.Queued same = (
    (tt, tt),
    record { end = i.end; opened = i.opened; closed = i.closed ∙ ap has_cls same; over = for_here _ true r.over; size = i.size; allocation = i.allocation; due = refl; live = refl },
  )
  heard_by e r i closing.Sent same =
      ((tt, ((i.end, i.closed ∙ ap has_cls same, for_here _ true r.over), tt)), refl)

  pub cls_receives : (peer : Host) (busy : List ℕ) (stamp own foreign : ℕ) (d : DeskState) (e : Entry) (r : Receiver) → entry_at own foreign d.entries ≡ Some e → receives_on link e ≡ true → e.partner_closed ≡ false → HasReceiver name link d.entries r
      → MayAllReceive (receivers.Hear (words.Cls (name e.own e.foreign)) ∷ received_close e.closing (name e.own e.foreign)) r
      × HasReceiver name link (desk_taken peer busy stamp (command.Cls foreign own) d).entries (all_received (receivers.Hear (words.Cls (name e.own e.foreign)) ∷ received_close e.closing (name e.own e.foreign)) r)
  cls_receives peer busy stamp own foreign d e r found on first h =
      let k : IsReceiver (name e.own e.foreign) e r × (filter (receives_on link) (changed_first (is_at own foreign) closed_by_partner d.entries) ≡ closed_by_partner e ∷ [])
      = own_receiver name link (is_at own foreign) closed_by_partner e d.entries r found on on h in
      let there : is_receiving e ≡ true = received_is link e on in
      let done : MayAllReceive (receivers.Hear (words.Cls (name e.own e.foreign)) ∷ received_close e.closing (name e.own e.foreign)) r
      × AreReceiver name (heard_list e e.closing) (all_received (receivers.Hear (words.Cls (name e.own e.foreign)) ∷ received_close e.closing (name e.own e.foreign)) r)
      = heard_by e r k.0 e.closing refl in
      let list : filter (receives_on link) (filter stays (map (shut_one busy) (changed_first (is_at own foreign) closed_by_partner d.entries))) ≡ heard_list e e.closing
      = filter_both (receives_on link) stays (map (shut_one busy) (changed_first (is_at own foreign) closed_by_partner d.entries))
      ∙ ap (λ (xs : List Entry). filter stays xs) (filter_map (receives_on link) (shut_one busy) (changed_first (is_at own foreign) closed_by_partner d.entries) (λ x. refl) ∙ ap (λ (xs : List Entry). map (shut_one busy) xs) k.1)
      ∙ heard_is busy e there e.closing refl in (
        done.0,
        subst (λ (o : Option Entry). HasReceiver name link (cls_taken_by peer busy own foreign o d).entries (all_received (receivers.Hear (words.Cls (name e.own e.foreign)) ∷ received_close e.closing (name e.own e.foreign)) r)) (sym found)
            (rw first (subst (λ (xs : List Entry). AreReceiver name xs (all_received (receivers.Hear (words.Cls (name e.own e.foreign)) ∷ received_close e.closing (name e.own e.foreign)) r)) (sym list) done.1)),
      )

  cls_off : (peer : Host) (busy : List ℕ) (own foreign : ℕ) (d : DeskState) (r : Receiver) → HasReceiver name link d.entries r → (o : Option Entry) → entry_at own foreign d.entries ≡ o
      → ((e : Entry) → o ≡ Some e → receives_on link e ≡ false) → HasReceiver name link (cls_taken_by peer busy own foreign o d).entries r
  cls_off peer busy own foreign d r h None found off = h
  cls_off peer busy own foreign d r h (Some e) found off = by e.partner_closed refl where
    by : (v : Bool) → e.partner_closed ≡ v → HasReceiver name link (cls_taken_by peer busy own foreign (Some e) d).entries r
    by true t = rw t h
    by false t =
        rw t (swept_keeps (map (shut_one busy) (changed_first (is_at own foreign) closed_by_partner d.entries)) r
        (settled_keeps busy (changed_first (is_at own foreign) closed_by_partner d.entries) r (away_keeps _ closed_by_partner e d.entries r found (off e refl) (off e refl) h)))

  pub cls_elsewhere : (peer : Host) (busy : List ℕ) (stamp own foreign : ℕ) (d : DeskState) (r : Receiver) → ((e : Entry) → entry_at own foreign d.entries ≡ Some e → receives_on link e ≡ false) → HasReceiver name link d.entries r
      → HasReceiver name link (desk_taken peer busy stamp (command.Cls foreign own) d).entries r
  cls_elsewhere peer busy stamp own foreign d r off h = cls_off peer busy own foreign d r h _ refl off

  -- ---- the own CLS goes out

  gone_by : (e : Entry) (r : Receiver) → IsReceiver (name e.own e.foreign) e r → has_cls e.closing ≡ true → (v : Bool) → e.partner_closed ≡ v
      → MayAllReceive (received_gone v (name e.own e.foreign)) r × AreReceiver name (filter stays (cls_sent e ∷ [])) (all_received (received_gone v (name e.own e.foreign)) r)
  gone_by e r i closed true t = (((i.end, i.closed ∙ closed, i.over ∙ t), tt), (rw t refl))
  gone_by e r i closed false t =
      (tt, (rw t (record { end = i.end; opened = i.opened; closed = i.closed ∙ closed; over = i.over ∙ t; size = i.size; allocation = i.allocation; due = refl; live = refl })))

  pub gone_receives : (peer : Host) (stamp own foreign : ℕ) (d : DeskState) (e : Entry) (r : Receiver) → entry_at own foreign d.entries ≡ Some e → receives_on link e ≡ true → has_cls e.closing ≡ true → HasReceiver name link d.entries r
      → MayAllReceive (received_gone e.partner_closed (name e.own e.foreign)) r
      × HasReceiver name link (command_gone peer stamp (command.Cls own foreign) d).entries (all_received (received_gone e.partner_closed (name e.own e.foreign)) r)
  gone_receives peer stamp own foreign d e r found on closed h =
      let k : IsReceiver (name e.own e.foreign) e r × (filter (receives_on link) (changed_first (is_at own foreign) cls_sent d.entries) ≡ cls_sent e ∷ [])
      = own_receiver name link _ cls_sent e d.entries r found on on h in
      let done : MayAllReceive (received_gone e.partner_closed (name e.own e.foreign)) r × AreReceiver name (filter stays (cls_sent e ∷ [])) (all_received (received_gone e.partner_closed (name e.own e.foreign)) r)
      = gone_by e r k.0 closed e.partner_closed refl in (
        done.0,
        subst (λ (xs : List Entry). AreReceiver name xs (all_received (received_gone e.partner_closed (name e.own e.foreign)) r))
            (sym (filter_both (receives_on link) stays (changed_first (is_at own foreign) cls_sent d.entries) ∙ ap (λ (xs : List Entry). filter stays xs) k.1)) done.1,
      )

  pub gone_elsewhere : (peer : Host) (stamp own foreign : ℕ) (d : DeskState) (e : Entry) (r : Receiver) → entry_at own foreign d.entries ≡ Some e → receives_on link e ≡ false → HasReceiver name link d.entries r
      → HasReceiver name link (command_gone peer stamp (command.Cls own foreign) d).entries r
  gone_elsewhere peer stamp own foreign d e r found off h =
      swept_keeps (changed_first (is_at own foreign) cls_sent d.entries) r (away_keeps _ cls_sent e d.entries r found off off h)
