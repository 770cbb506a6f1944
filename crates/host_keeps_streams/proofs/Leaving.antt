-- Sending ends that close.
use Rattle.host_keeps_streams.proofs.Common.{◌≡◌, ℕ, Bool, true, false, ◌==◌, if◌then◌else◌, List, [], ◌∷◌, map, filter, find, Option, Some, None, refl, ap, sym, subst, ◌∙◌, inl, inr, Host, or_false, for, Sender, for_here, closed_end, cls_taken_by, desk_taken, DeskState, called_off, changed_first, closed_by_partner, closed_when, entry_at, has_cls, is_answered, is_at, is_called_off, is_drained, is_due, is_mine_on, is_over, is_receiving, must_close, sends_on, was_closed, PairState, command_gone, Closing, Entry, both, all_sent, MayAllSend, IsSender, NoneOpen, AreSender, HasSender}
use Rattle.std.proofs.Common.{eq-eqb}
use Rattle.ncp_control.specs.declared.command.Command.TheVariants as command
use Rattle.stream_law.specs.Words as words
use Rattle.stream_law.specs.Senders as senders
use Rattle.stream_law.proofs.lemmas.{some_is}
use Rattle.host_pairs.specs.Parcels.{cls_sent}
use Rattle.host_pairs.specs.declared.entry.Closing.TheVariants as closing
use Rattle.host_keeps_streams.specs.Closings.{sent_close, sent_heard}
use Rattle.host_keeps_streams.proofs.Lists.{away, filter_both, filter_map, sent_is, unlike}
use Rattle.host_keeps_streams.proofs.Senders.{own_sender}
use Rattle.host_keeps_streams.proofs.Ending.{shut_one, stays, close_now, not_called}

pub due_open : (v : Closing) → is_due v ≡ true → has_cls v ≡ false
due_open closing.Due e = refl
due_open v e = absurd (cc)

pub cls_not_due : (v : Closing) → has_cls v ≡ true → is_due v ≡ false
cls_not_due closing.No e = absurd (cc)
cls_not_due closing.Due e = absurd (cc)
cls_not_due closing.Queued e = refl
cls_not_due closing.Sent e = refl

-- the law's end that isn't open is none
none_open : (c : ℕ) (e : Entry) (s : Sender) → IsSender c e s → has_cls e.closing ≡ true → NoneOpen s
none_open c e s i closed k f o = let same : c ≡ k = some_is c k (sym i.end ∙ f) in subst (λ (n : ℕ). s.closed n ≡ true) same (i.closed ∙ closed)

-- ---- the law's moves

goes_none : (c : ℕ) (v : Bool) (o : Option ℕ) → o ≡ Some c → v ≡ true → senders.goes c v o ≡ None
goes_none c v o end shut = ap (λ (p : Option ℕ). senders.goes c v p) end ∙ (let t : (c == c) ≡ true = eq-eqb c c refl in rw (shut, t) refl)

pub goes_on : (c : ℕ) (v : Bool) (o : Option ℕ) → o ≡ Some c → v ≡ false → senders.goes c v o ≡ Some c
goes_on c v o end open_end = ap (λ (p : Option ℕ). senders.goes c v p) end ∙ (let t : (c == c) ≡ true = eq-eqb c c refl in rw (open_end, t) refl)

shuts_is : (c : ℕ) (s : Sender) → s.end ≡ Some c → senders.shuts c s.end s ≡ (if s.closed c then record s { end = None } else record s { shut = true })
shuts_is c s end = ap (λ (o : Option ℕ). senders.shuts c o s) end ∙ ap (λ (v : Bool). if v then (if s.closed c then record s { end = None } else record s { shut = true }) else s) (eq-eqb c c refl)

pub heard_unclosed : (c : ℕ) (s : Sender) → s.end ≡ Some c → s.closed c ≡ false → senders.shuts c s.end s ≡ record s { shut = true }
heard_unclosed c s end e = shuts_is c s end ∙ ap (λ (v : Bool). if v then record s { end = None } else record s { shut = true }) e

pub heard_closed : (c : ℕ) (s : Sender) → s.end ≡ Some c → s.closed c ≡ true → senders.shuts c s.end s ≡ record s { end = None }
heard_closed c s end e = shuts_is c s end ∙ ap (λ (v : Bool). if v then record s { end = None } else record s { shut = true }) e

module _ (name : ℕ → ℕ → ℕ) (link : ℕ) where
  -- ---- ends that have to close do so when they are drained

  pub closes_one : (x : Entry) (s : Sender) → IsSender (name x.own x.foreign) x s → is_due x.closing ≡ true → (w : Bool) → x.partner_closed ≡ w
      → MayAllSend (senders.Close (name x.own x.foreign) ∷ []) s × AreSender name (record x { closing = closing.Queued } ∷ []) (senders.moved (senders.Close (name x.own x.foreign)) s)
  closes_one x s i due true t =
      let none : senders.goes (name x.own x.foreign) s.shut s.end ≡ None = goes_none _ s.shut s.end i.end (i.shut ∙ t) in (
        (i.closed ∙ due_open x.closing due, tt),
        inr (record { closed = refl; shut = t; live = refl; none = λ k f o. (let both : None ≡ Some k = sym none ∙ f in absurd (cc)) }),
      )
  closes_one x s i due false t = (
    (i.closed ∙ due_open x.closing due, tt),
    inl (record {
      end = goes_on _ s.shut s.end i.end (i.shut ∙ t);
      opened = i.opened;
      shut = i.shut;
      closed = for_here _ true s.closed;
      size = i.size;
      allocation = i.allocation;
      live = refl;
    }),
  )

  settle_one : (busy : List ℕ) (x : Entry) (s : Sender) → AreSender name (x ∷ []) s → (v : Bool) → must_close busy x ≡ v
      → MayAllSend (sent_close v (name x.own x.foreign)) s × AreSender name (map (shut_one busy) (x ∷ [])) (all_sent (sent_close v (name x.own x.foreign)) s)
  settle_one busy x s (inl i) true t =
      let p : (is_due x.closing ≡ true) × (is_drained busy x ≡ true) = both (is_due x.closing) (is_drained busy x) t in
      let done : MayAllSend (senders.Close (name x.own x.foreign) ∷ []) s × AreSender name (record x { closing = closing.Queued } ∷ []) (senders.moved (senders.Close (name x.own x.foreign)) s) = closes_one x s i p.0 x.partner_closed refl in
      (done.0, subst (λ (y : Entry). AreSender name (y ∷ []) (senders.moved (senders.Close (name x.own x.foreign)) s)) (sym (close_now busy x p.0 p.1)) done.1)
  settle_one busy x s (inr n) true t = absurd (unlike (is_due x.closing) (both (is_due x.closing) (is_drained busy x) t).0 (cls_not_due x.closing n.closed))
  settle_one busy x s a false t = (tt, subst (λ (y : Entry). AreSender name (y ∷ []) s) (sym (rest t)) a) where
    rest : must_close busy x ≡ false → shut_one busy x ≡ x
    rest e = ap (λ (v : Bool). closed_when v x) e

  pub settles : (busy : List ℕ) (es : List Entry) (x : Entry) (s : Sender) → filter (sends_on link) es ≡ x ∷ [] → HasSender name link es s
      → MayAllSend (sent_close (must_close busy x) (name x.own x.foreign)) s × HasSender name link (map (shut_one busy) es) (all_sent (sent_close (must_close busy x) (name x.own x.foreign)) s)
  settles busy es x s one h =
      let a : AreSender name (x ∷ []) s = subst (λ (xs : List Entry). AreSender name xs s) one h in
      let done : MayAllSend (sent_close (must_close busy x) (name x.own x.foreign)) s × AreSender name (map (shut_one busy) (x ∷ [])) (all_sent (sent_close (must_close busy x) (name x.own x.foreign)) s)
      = settle_one busy x s a _ refl in (
        done.0,
        subst (λ (xs : List Entry). AreSender name xs (all_sent (sent_close (must_close busy x) (name x.own x.foreign)) s))
            (sym (filter_map _ _ es (λ e. refl) ∙ ap (λ (xs : List Entry). map (shut_one busy) xs) one)) done.1,
      )

  pub settles_none : (busy : List ℕ) (es : List Entry) (s : Sender) → filter (sends_on link) es ≡ [] → HasSender name link es s → HasSender name link (map (shut_one busy) es) s
  settles_none busy es s none h =
      subst (λ (xs : List Entry). AreSender name xs s) (sym (filter_map _ _ es (λ e. refl) ∙ ap (λ (xs : List Entry). map (shut_one busy) xs) none)) (subst (λ (xs : List Entry). AreSender name xs s) none h)

  -- ---- the user closes

  pub close_sends : (socket : ℕ) (q : PairState) (e : Entry) (s : Sender) → find (is_mine_on socket) q.entries ≡ Some e → sends_on link e ≡ true → was_closed e ≡ false → HasSender name link q.entries s
      → MayAllSend (sent_close (must_close q.busy (called_off e)) (name e.own e.foreign)) s × HasSender name link (closed_end socket q).entries (all_sent (sent_close (must_close q.busy (called_off e)) (name e.own e.foreign)) s)
  close_sends socket q e s found on live h =
      let k : AreSender name (e ∷ []) s × (filter (sends_on link) (changed_first (is_mine_on socket) called_off q.entries) ≡ called_off e ∷ []) = own_sender name link _ called_off e q.entries s found on on h in
      let p : (is_called_off e.closing ≡ false) × (e.partner_closed ≡ false) = or_false (is_called_off e.closing) e.partner_closed live in
      let no : e.closing ≡ closing.No = not_called e.closing p.0 in
      let off : AreSender name (called_off e ∷ []) s = elim k.0 [
        | inl i ↦ inl (record { end = i.end; opened = i.opened; shut = i.shut; closed = i.closed ∙ called no; size = i.size; allocation = i.allocation; live = alive no })
        | inr n ↦ absurd (unlike e.partner_closed n.shut p.1)
      ] in
      settles q.busy (changed_first (is_mine_on socket) called_off q.entries) _ s k.1 (subst (λ (xs : List Entry). AreSender name xs s) (sym k.1) off) where
        called : e.closing ≡ closing.No → has_cls e.closing ≡ has_cls (called_off e).closing
        called same = rw same refl

        alive : e.closing ≡ closing.No → is_over (called_off e) ≡ false
        alive same = rw same refl

  -- ---- the partner closes

  abbrev heard_list : Entry → Closing → Bool → List Entry
  heard_list e closing.No true = record e { closing = closing.Queued; partner_closed = true; bits = [] } ∷ []
  heard_list e closing.No false = record e { closing = closing.Due; partner_closed = true; bits = [] } ∷ []
  heard_list e closing.Due true = record e { closing = closing.Queued; partner_closed = true; bits = [] } ∷ []
  heard_list e closing.Due false = record e { closing = closing.Due; partner_closed = true; bits = [] } ∷ []
  heard_list e closing.Queued v = record e { closing = closing.Queued; partner_closed = true; bits = [] } ∷ []
  heard_list e closing.Sent v = []

  heard_is : (busy : List ℕ) (e : Entry) → is_receiving e ≡ false → (v : Closing) → e.closing ≡ v → (w : Bool) → is_answered busy e.link ≡ w → filter stays (map (shut_one busy) (closed_by_partner e ∷ [])) ≡ heard_list e v w
  heard_is busy e sends closing.No same true t = rw (same, sends, t) refl
  heard_is busy e sends closing.No same false t = rw (same, sends, t) refl
  heard_is busy e sends closing.Due same true t = rw (same, sends, t) refl
  heard_is busy e sends closing.Due same false t = rw (same, sends, t) refl
  heard_is busy e sends closing.Queued same w t = rw same refl
  heard_is busy e sends closing.Sent same w t = rw same refl

  abbrev Done : Entry → Closing → Bool → Sender → Type 0
  Done e v w t = MayAllSend (sent_heard v w (name e.own e.foreign)) t × AreSender name (heard_list e v w) (all_sent (sent_heard v w (name e.own e.foreign)) t)

  -- an end that is drained closes too
  drained_by : (e : Entry) (s : Sender) → IsSender (name e.own e.foreign) e s → s.closed (name e.own e.foreign) ≡ false
      → MayAllSend (senders.Close (name e.own e.foreign) ∷ []) (record s { shut = true })
      × AreSender name (record e { closing = closing.Queued; partner_closed = true; bits = [] } ∷ []) (senders.moved (senders.Close (name e.own e.foreign)) (record s { shut = true }))
  drained_by e s i unclosed =
      let none : senders.goes (name e.own e.foreign) true s.end ≡ None = goes_none _ true s.end i.end refl in
      ((unclosed, tt), inr (record { closed = refl; shut = refl; live = refl; none = λ k f o. (let both : None ≡ Some k = sym none ∙ f in absurd (cc)) }))

  waiting_by : (e : Entry) (s : Sender) → IsSender (name e.own e.foreign) e s → s.closed (name e.own e.foreign) ≡ false → AreSender name (record e { closing = closing.Due; partner_closed = true; bits = [] } ∷ []) (record s { shut = true })
  waiting_by e s i unclosed = inl (record { end = i.end; opened = i.opened; shut = refl; closed = unclosed; size = i.size; allocation = i.allocation; live = refl })

  heard_by : (e : Entry) (s : Sender) → IsSender (name e.own e.foreign) e s → (v : Closing) → e.closing ≡ v → (w : Bool) → Done e v w (senders.shuts (name e.own e.foreign) s.end s)
  heard_by e s i closing.No same false =
      subst (λ (t : Sender). Done e closing.No false t) (sym (heard_unclosed _ s i.end (i.closed ∙ ap has_cls same))) (tt, waiting_by e s i (i.closed ∙ ap has_cls same))
  heard_by e s i closing.Due same false =
      subst (λ (t : Sender). Done e closing.Due false t) (sym (heard_unclosed _ s i.end (i.closed ∙ ap has_cls same))) (tt, waiting_by e s i (i.closed ∙ ap has_cls same))
  heard_by e s i closing.Queued same w =
      subst (λ (t : Sender). Done e closing.Queued w t) (sym (heard_closed _ s i.end (i.closed ∙ ap has_cls same)))
      (tt, inr (record { closed = refl; shut = refl; live = refl; none = λ k f o. absurd (cc) }))
  heard_by e s i closing.Sent same w =
      subst (λ (t : Sender). Done e closing.Sent w t) (sym (heard_closed _ s i.end (i.closed ∙ ap has_cls same))) (tt, λ k f. absurd (cc))
  heard_by e s i v same true =
      subst (λ (t : Sender). Done e v true t) (sym (heard_unclosed _ s i.end (i.closed ∙ ap has_cls same))) (drained_by e s i (i.closed ∙ ap has_cls same))

  pub cls_sends : (peer : Host) (busy : List ℕ) (stamp own foreign : ℕ) (d : DeskState) (e : Entry) (s : Sender) → entry_at own foreign d.entries ≡ Some e → sends_on link e ≡ true → e.partner_closed ≡ false → HasSender name link d.entries s
      → MayAllSend (senders.Hear (words.Cls (name e.own e.foreign)) ∷ sent_heard e.closing (is_answered busy e.link) (name e.own e.foreign)) s
      × HasSender name link (desk_taken peer busy stamp (command.Cls foreign own) d).entries (all_sent (senders.Hear (words.Cls (name e.own e.foreign)) ∷ sent_heard e.closing (is_answered busy e.link) (name e.own e.foreign)) s)
  cls_sends peer busy stamp own foreign d e s found on first h =
      let k : AreSender name (e ∷ []) s × (filter (sends_on link) (changed_first (is_at own foreign) closed_by_partner d.entries) ≡ closed_by_partner e ∷ [])
      = own_sender name link (is_at own foreign) closed_by_partner e d.entries s found on on h in
      let done : Done e e.closing (is_answered busy e.link) (senders.shuts (name e.own e.foreign) s.end s) = elim k.0 [
        | inl i ↦ heard_by e s i e.closing refl (is_answered busy e.link)
        | inr n ↦ absurd (unlike e.partner_closed n.shut first)
      ] in
      let list : filter (sends_on link) (filter stays (map (shut_one busy) (changed_first (is_at own foreign) closed_by_partner d.entries))) ≡ heard_list e e.closing (is_answered busy e.link)
      = filter_both (sends_on link) stays (map (shut_one busy) (changed_first (is_at own foreign) closed_by_partner d.entries))
      ∙ ap (λ (xs : List Entry). filter stays xs) (filter_map (sends_on link) (shut_one busy) (changed_first (is_at own foreign) closed_by_partner d.entries) (λ x. refl) ∙ ap (λ (xs : List Entry). map (shut_one busy) xs) k.1)
      ∙ heard_is busy e (sent_is link e on) e.closing refl (is_answered busy e.link) refl in (
        (tt, done.0),
        subst (λ (o : Option Entry). HasSender name link (cls_taken_by peer busy own foreign o d).entries (all_sent (senders.Hear (words.Cls (name e.own e.foreign)) ∷ sent_heard e.closing (is_answered busy e.link) (name e.own e.foreign)) s)) (sym found)
            (rw first (subst (λ (xs : List Entry). AreSender name xs (all_sent (senders.Hear (words.Cls (name e.own e.foreign)) ∷ sent_heard e.closing (is_answered busy e.link) (name e.own e.foreign)) s)) (sym list) done.1)),
      )

  -- ---- the own CLS goes out

  gone_by : (e : Entry) (s : Sender) → AreSender name (e ∷ []) s → has_cls e.closing ≡ true → (v : Bool) → e.partner_closed ≡ v → AreSender name (filter stays (cls_sent e ∷ [])) s
  gone_by e s (inl i) closed true t = rw t (none_open _ e s i closed)
  gone_by e s (inl i) closed false t =
      rw t (inl (record { end = i.end; opened = i.opened; shut = i.shut ∙ t; closed = i.closed ∙ closed; size = i.size; allocation = i.allocation; live = refl }))
  gone_by e s (inr n) closed true t = rw t n.none
  gone_by e s (inr n) closed false t = absurd (unlike e.partner_closed n.shut t)

  pub gone_sends : (peer : Host) (stamp own foreign : ℕ) (d : DeskState) (e : Entry) (s : Sender) → entry_at own foreign d.entries ≡ Some e → sends_on link e ≡ true → has_cls e.closing ≡ true → HasSender name link d.entries s
      → HasSender name link (command_gone peer stamp (command.Cls own foreign) d).entries s
  gone_sends peer stamp own foreign d e s found on closed h =
      let k : AreSender name (e ∷ []) s × (filter (sends_on link) (changed_first (is_at own foreign) cls_sent d.entries) ≡ cls_sent e ∷ []) = own_sender name link _ cls_sent e d.entries s found on on h in
      subst (λ (xs : List Entry). AreSender name xs s) (sym (filter_both (sends_on link) stays (changed_first (is_at own foreign) cls_sent d.entries) ∙ ap (λ (xs : List Entry). filter stays xs) k.1))
      (gone_by e s k.0 closed e.partner_closed refl)

  pub still_swept : (xs : List Entry) (s : Sender) → AreSender name xs s → filter stays xs ≡ xs
  still_swept [] s h = refl
  still_swept (x ∷ []) s (inl i) = let live : is_over x ≡ false = i.live in rw live refl
  still_swept (x ∷ []) s (inr n) = let live : is_over x ≡ false = n.live in rw live refl
  still_swept (x ∷ y ∷ ys) s h = absurd h

  pub gone_elsewhere : (peer : Host) (stamp own foreign : ℕ) (d : DeskState) (e : Entry) (s : Sender) → entry_at own foreign d.entries ≡ Some e → sends_on link e ≡ false → HasSender name link d.entries s
      → HasSender name link (command_gone peer stamp (command.Cls own foreign) d).entries s
  gone_elsewhere peer stamp own foreign d e s found off h =
      subst (λ (xs : List Entry). AreSender name xs s)
      (sym (filter_both (sends_on link) stays (changed_first (is_at own foreign) cls_sent d.entries) ∙ ap (λ (xs : List Entry). filter stays xs) (away _ _ cls_sent e d.entries off off found)
      ∙ still_swept _ s h)) h
