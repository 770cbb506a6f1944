-- What goes out of a host's program.
use Rattle.host_keeps_streams.proofs.Common.{◌≡◌, ℕ, Bool, true, false, not, ◌&&◌, ◌==◌, List, [], ◌∷◌, filter, Option, Some, None, is_some, refl, ap, sym, subst, ◌∙◌, inl, inr, eqb-true, Host, Command, Sender, Receiver, DeskState, changed_first, entry_at, has_cls, is_at, is_link, is_over, is_receiving, receives_on, receiving_end, sends_on, asked_at, command_gone, Entry, not_is, all_sent, MayAllSend, sent_open, IsSender, NoneOpen, IsLeaving, AreReceiver, HasReceiver, AreSender, HasSender, IsFormed, AreFormed, AreSound, asked_received, asked_sent, closed_received, of_end, received_out, sent_out, named, IsKnown, AreKnown}
use Rattle.std.proofs.Common.{eq-eqb}
use Rattle.ncp_control.specs.declared.command.Command.TheVariants as command
use Rattle.stream_law.specs.Senders as senders
use Rattle.stream_law.proofs.lemmas.{some_is}
use Rattle.host_pairs.specs.Parcels.{cls_sent, request_gone}
use Rattle.host_pairs.proofs.lemmas.{both}
use Rattle.host_keeps_streams.specs.Formed.{HasSaid}
use Rattle.host_keeps_streams.proofs.Ending as ending
use Rattle.host_keeps_streams.proofs.Ending.{stays}
use Rattle.host_keeps_streams.proofs.Formed.{formed_found, link_there}
use Rattle.host_keeps_streams.proofs.Known.{Sent, known_changed, known_filter, known_found, known_idle, known_same}
use Rattle.host_keeps_streams.proofs.Leaving as leaving
use Rattle.host_keeps_streams.proofs.Lists.{away, filter_both, sent_is, unchanged}
use Rattle.host_keeps_streams.proofs.Names.{apart_changed, apart_filter}
use Rattle.host_keeps_streams.proofs.Opening as opening
use Rattle.host_keeps_streams.proofs.ReceiverHears.{Received}
use Rattle.host_keeps_streams.proofs.Senders.{own_sender}
use Rattle.host_keeps_streams.proofs.SenderHears.{opened_size, opened_closed}
use Rattle.host_keeps_streams.proofs.Sound.{sound_some}
use Rattle.interface.proofs.lemmas.{and_none}

-- an end that didn't close has said no CLS
pub unsaid : HasSaid (command.Cls 16 33) (receiving_end 16 33 5 ∷ []) → ⊥
unsaid said = let both : false ≡ true = said _ refl in absurd (cc)

-- ---- receivers

module _ (name : ℕ → ℕ → ℕ) (link : ℕ) (peer : Host) (stamp : ℕ) (d : DeskState) (r : Receiver) (h : HasReceiver name link d.entries r) (sound : AreSound name d.entries) where
  request_received : (own foreign : ℕ) (o : Option Entry) → entry_at own foreign d.entries ≡ o → Received name link (asked_received name link o) (request_gone peer stamp own foreign d).entries r
  request_received own foreign None found = (tt, subst (λ (es : List Entry). HasReceiver name link es r) (sym (unchanged _ _ d.entries found)) h)
  request_received own foreign (Some e) found = by (receives_on link e) refl where
    by : (v : Bool) → receives_on link e ≡ v → Received name link (asked_received name link (Some e)) (request_gone peer stamp own foreign d).entries r
    by true on =
        let f : IsFormed e = formed_found _ e d.entries sound.formed found in
        rw on (opening.rts_gone name link peer stamp own foreign 0 d e r found on (f.told (both (is_receiving e) (is_link link e.link) on).0 (link_there link e.link (both (is_receiving e) (is_link link e.link) on).1)) h)
    by false off = rw off (tt, subst (λ (xs : List Entry). AreReceiver name xs r) (sym (away _ _ _ e d.entries off off found)) h)

  closing_received : (own foreign : ℕ) (o : Option Entry) → entry_at own foreign d.entries ≡ o → HasSaid (command.Cls own foreign) d.entries → Received name link (closed_received name link o) (command_gone peer stamp (command.Cls own foreign) d).entries r
  closing_received own foreign None found said =
      (tt, ending.swept_keeps name link (changed_first (is_at own foreign) cls_sent d.entries) r (subst (λ (es : List Entry). HasReceiver name link es r) (sym (unchanged _ cls_sent d.entries found)) h))
  closing_received own foreign (Some e) found said = by (receives_on link e) refl where
    by : (v : Bool) → receives_on link e ≡ v → Received name link (closed_received name link (Some e)) (command_gone peer stamp (command.Cls own foreign) d).entries r
    by true on = rw on (ending.gone_receives name link peer stamp own foreign d e r found on (said e found) h)
    by false off = rw off (tt, ending.gone_elsewhere name link peer stamp own foreign d e r found off h)

  pub out_received : (c : Command) → HasSaid c d.entries → Received name link (received_out name link c d.entries) (command_gone peer stamp c d).entries r
  out_received (command.Rts receive send l) said = request_received receive send _ refl
  out_received (command.Str send receive size) said = request_received send receive _ refl
  out_received (command.Cls own foreign) said = closing_received own foreign _ refl said
  out_received c said = (tt, h)

-- ---- senders

-- moves that leave what is known
module _ (c : ℕ) (v : Bool) (s : Sender) where
  end_size : (o : Option ℕ) → (all_sent (of_end c o (sent_open v c)) s).size ≡ s.size
  end_size None = refl
  end_size (Some own) = by (own == c) refl where
    by : (u : Bool) → (own == c) ≡ u → (all_sent (of_end c (Some own) (sent_open v c)) s).size ≡ s.size
    by true t = rw t (opened_size c v s)
    by false t = rw t refl

  end_closed : (o : Option ℕ) → (all_sent (of_end c o (sent_open v c)) s).closed ≡ s.closed
  end_closed None = refl
  end_closed (Some own) = by (own == c) refl where
    by : (u : Bool) → (own == c) ≡ u → (all_sent (of_end c (Some own) (sent_open v c)) s).closed ≡ s.closed
    by true t = rw t (opened_closed c v s)
    by false t = rw t refl

module _ (name : ℕ → ℕ → ℕ) (link stamp : ℕ) (e : Entry) (s : Sender) (f : IsFormed e) (on : sends_on link e ≡ true) where
  linked : is_some e.link ≡ true
  linked = link_there link e.link (both (not (is_receiving e)) (is_link link e.link) on).1

  abbrev Opens : List senders.Move → Type 0
  Opens ms = MayAllSend ms s × AreSender name (asked_at stamp e ∷ []) (all_sent ms s)

  opens_by : IsSender (named name e) e s → (v : Bool) → is_some e.partner ≡ v → Opens (sent_open v (named name e))
  opens_by i true p = (
    ((i.end, ap is_some i.size ∙ f.linked (sent_is link e on) linked), tt),
    inl (record { end = i.end; opened = sym p; shut = i.shut; closed = i.closed; size = i.size; allocation = i.allocation; live = i.live }),
  )
  opens_by i false p =
      let before : s.opened ≡ false = i.opened ∙ ap (λ (v : Bool). is_some e.asked && v) p ∙ and_none _ in
      (tt, inl (record { end = i.end; opened = before ∙ sym p; shut = i.shut; closed = i.closed; size = i.size; allocation = i.allocation; live = i.live }))

  open_is : IsSender (named name e) e s → Opens (of_end (named name e) s.end (sent_open (is_some e.partner) (named name e)))
  open_is i =
      let here : (named name e == named name e) ≡ true = eq-eqb (named name e) (named name e) refl in
      let moves : of_end (named name e) s.end (sent_open (is_some e.partner) (named name e)) ≡ sent_open (is_some e.partner) (named name e)
      = ap (λ (o : Option ℕ). of_end (named name e) o (sent_open (is_some e.partner) (named name e))) i.end ∙ (rw here refl) in
      subst Opens (sym moves) (opens_by i _ refl)

  -- one whose CLS waits to go out stays closed
  leaves : IsLeaving e s → (t : Sender) → NoneOpen t → AreSender name (asked_at stamp e ∷ []) t
  leaves n t none = inr (record { closed = n.closed; shut = n.shut; live = n.live; none = none })

  opened_none : IsKnown (named name e) e s → has_cls e.closing ≡ true → s.end ≡ Some (named name e) → NoneOpen (record s { opened = true })
  opened_none k closed end = λ n t o. (let same : named name e ≡ n = some_is (named name e) n (sym end ∙ t) in subst (λ (m : ℕ). s.closed m ≡ true) same (k.closed ∙ closed))

  leaving_by : IsLeaving e s → IsKnown (named name e) e s → (v : Bool) → (o : Option ℕ) → s.end ≡ o → Opens (of_end (named name e) o (sent_open v (named name e)))
  leaving_by n k v None end = (tt, leaves n s n.none)
  leaving_by n k v (Some own) end = by (own == named name e) v refl where
    by : (u w : Bool) → (own == named name e) ≡ u → Opens (of_end (named name e) (Some own) (sent_open w (named name e)))
    by true true t =
        let same : s.end ≡ Some (named name e) = end ∙ ap (λ (m : ℕ). Some m) (eqb-true own (named name e) t) in
        rw t (((same, ap is_some k.size ∙ f.linked (sent_is link e on) linked), tt), leaves n _ (opened_none k n.closed same))
    by true false t = rw t (tt, leaves n s n.none)
    by false w t = rw t (tt, leaves n s n.none)

  open_end : AreSender name (e ∷ []) s → IsKnown (named name e) e s → Opens (of_end (named name e) s.end (sent_open (is_some e.partner) (named name e)))
  open_end (inl i) k = open_is i
  open_end (inr n) k = leaving_by n k _ s.end refl

module _ (name : ℕ → ℕ → ℕ) (link : ℕ) (peer : Host) (stamp : ℕ) (d : DeskState) (s : Sender) (h : HasSender name link d.entries s) (known : AreKnown name d.entries s) (sound : AreSound name d.entries) where
  asked_known : (own foreign : ℕ) → AreKnown name (changed_first (is_at own foreign) (asked_at stamp) d.entries) s
  asked_known own foreign = known_idle name _ _ s d.entries (record { own = λ x. refl; foreign = λ x. refl; size = λ x. refl; closing = λ x. refl }) known

  request_sent : (own foreign : ℕ) (o : Option Entry) → entry_at own foreign d.entries ≡ o → Sent name link (asked_sent name link s o) (request_gone peer stamp own foreign d).entries s
  request_sent own foreign None found = subst (λ (es : List Entry). Sent name link [] es s) (sym (unchanged _ _ d.entries found)) (record { may = tt; has = h; known = known })
  request_sent own foreign (Some e) found = by (sends_on link e) refl where
    by : (v : Bool) → sends_on link e ≡ v → Sent name link (asked_sent name link s (Some e)) (request_gone peer stamp own foreign d).entries s
    by true on =
        let f : IsFormed e = formed_found _ e d.entries sound.formed found in
        let k : AreSender name (e ∷ []) s × (filter (sends_on link) (changed_first (is_at own foreign) (asked_at stamp) d.entries) ≡ asked_at stamp e ∷ [])
        = own_sender name link _ _ e d.entries s found on on h in
        let done : MayAllSend (of_end (named name e) s.end (sent_open (is_some e.partner) (named name e))) s × AreSender name (asked_at stamp e ∷ []) (all_sent (of_end (named name e) s.end (sent_open (is_some e.partner) (named name e))) s)
        = open_end name link stamp e s f on k.0 (known_found name _ e d.entries s (sent_is link e on) known found) in
        rw on (record {
          may = done.0;
          has = subst (λ (xs : List Entry). AreSender name xs (all_sent (of_end (named name e) s.end (sent_open (is_some e.partner) (named name e))) s)) (sym k.1) done.1;
          known = known_same name _ s _
              (end_size (named name e) (is_some e.partner) s s.end) (end_closed (named name e) (is_some e.partner) s s.end) (asked_known own foreign);
        })
    by false off =
        rw off (record { may = tt; has = subst (λ (xs : List Entry). AreSender name xs s) (sym (away _ _ _ e d.entries off off found)) h; known = asked_known own foreign })

  closing_known : (own foreign : ℕ) (o : Option Entry) → entry_at own foreign d.entries ≡ o → HasSaid (command.Cls own foreign) d.entries → AreKnown name (changed_first (is_at own foreign) cls_sent d.entries) s
  closing_known own foreign None found said = subst (λ (es : List Entry). AreKnown name es s) (sym (unchanged _ cls_sent d.entries found)) known
  closing_known own foreign (Some e) found said =
      known_changed name _ cls_sent e d.entries s s (λ n out. (refl, refl)) (record { own = λ x. refl; foreign = λ x. refl })
      (λ i. (let one : IsKnown (named name e) e s = known_found name _ e d.entries s i known found in record { size = one.size; closed = one.closed ∙ said e found })) sound.apart known found

  closing_has : (own foreign : ℕ) (o : Option Entry) → entry_at own foreign d.entries ≡ o → HasSaid (command.Cls own foreign) d.entries → HasSender name link (command_gone peer stamp (command.Cls own foreign) d).entries s
  closing_has own foreign None found said =
      subst (λ (es : List Entry). HasSender name link (filter stays es) s) (sym (unchanged _ cls_sent d.entries found))
      (subst (λ (xs : List Entry). AreSender name xs s) (sym (still_list ∙ leaving.still_swept name link (filter (sends_on link) d.entries) s h)) h) where
        still_list : filter (sends_on link) (filter stays d.entries) ≡ filter stays (filter (sends_on link) d.entries)
        still_list = filter_both (sends_on link) stays d.entries
  closing_has own foreign (Some e) found said = by (sends_on link e) refl where
    by : (v : Bool) → sends_on link e ≡ v → HasSender name link (command_gone peer stamp (command.Cls own foreign) d).entries s
    by true on = leaving.gone_sends name link peer stamp own foreign d e s found on (said e found) h
    by false off = leaving.gone_elsewhere name link peer stamp own foreign d e s found off h

  still : Sent name link [] d.entries s
  still = record { may = tt; has = h; known = known }

  pub out_sent : (c : Command) → HasSaid c d.entries → Sent name link (sent_out name link c d.entries s) (command_gone peer stamp c d).entries s
  out_sent command.Nop said = still
  out_sent (command.Rts receive send l) said = request_sent receive send _ refl
  out_sent (command.Str send receive size) said = request_sent send receive _ refl
  out_sent (command.Cls own foreign) said = record {
    may = tt;
    has = closing_has own foreign _ refl said;
    known = known_filter name stays _ s (closing_known own foreign _ refl said);
  }
  out_sent (command.All l m n) said = still
  out_sent c said = still

-- ---- all ends stay sound

asked_formed : (stamp : ℕ) (e : Entry) → IsFormed e → IsFormed (asked_at stamp e)
asked_formed stamp e f = record { live = f.live; told = f.told; linked = f.linked; unlinked = f.unlinked; sized = f.sized; ungranted = f.ungranted; shut = f.shut }

said_step : (x : Entry) (zs : List Entry) → (stays x ≡ true → IsFormed x) → AreFormed (filter stays zs) → (b : Bool) → stays x ≡ b → AreFormed (filter stays (x ∷ zs))
said_step x zs one rest true t = rw t (one t, rest)
said_step x zs one rest false t = rw t rest

said_formed : (e : Entry) → IsFormed e → stays (cls_sent e) ≡ true → IsFormed (cls_sent e)
said_formed e f live = record { live = not_is _ live; told = f.told; linked = f.linked; unlinked = f.unlinked; sized = f.sized; ungranted = f.ungranted; shut = λ i n p. refl }

swept_formed : (es : List Entry) → AreFormed es → AreFormed (filter stays es)
swept_formed [] k = tt
swept_formed (y ∷ ys) k = said_step y ys (λ t. k.0) (swept_formed ys k.1) (stays y) refl

gone_step : (test : Entry → Bool) (y : Entry) (ys : List Entry) → AreFormed (y ∷ ys) → AreFormed (filter stays (changed_first test cls_sent ys)) → (b : Bool) → test y ≡ b → AreFormed (filter stays (changed_first test cls_sent (y ∷ ys)))
gone_step test y ys k rest true t = rw t (said_step _ ys (said_formed y k.0) (swept_formed ys k.1) _ refl)
gone_step test y ys k rest false t = rw t (said_step y (changed_first test cls_sent ys) (λ u. k.0) rest (stays y) refl)

gone_formed : (test : Entry → Bool) (es : List Entry) → AreFormed es → AreFormed (filter stays (changed_first test cls_sent es))
gone_formed test [] k = tt
gone_formed test (y ∷ ys) k = gone_step test y ys k (gone_formed test ys k.1) (test y) refl

module _ (name : ℕ → ℕ → ℕ) (peer : Host) (stamp : ℕ) (d : DeskState) (sound : AreSound name d.entries) where
  request_sound : (own foreign : ℕ) → AreSound name (request_gone peer stamp own foreign d).entries
  request_sound own foreign = sound_some name _ _ d.entries sound (λ x. refl) (λ x t f. asked_formed stamp x f)

  pub out_sound : (c : Command) → AreSound name (command_gone peer stamp c d).entries
  out_sound command.Nop = sound
  out_sound (command.Rts receive send l) = request_sound receive send
  out_sound (command.Str send receive size) = request_sound send receive
  out_sound (command.Cls own foreign) = record {
    formed = gone_formed _ d.entries sound.formed;
    apart = apart_filter name stays _ (apart_changed name _ cls_sent d.entries (λ x. refl) sound.apart);
  }
  out_sound (command.All l m n) = sound
  out_sound c = sound
