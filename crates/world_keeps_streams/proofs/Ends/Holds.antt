-- Ends on a link that opened and haven't closed, and what the calls of one moment do to them.
use Rattle.world_keeps_streams.proofs.Common.{◌≡◌, ◌⊎◌, inl, inr, ℕ, ◌==◌, ◌&&◌, ◌||◌, not, Bool, true, false, if◌then◌else◌, List, [], ◌∷◌, ◌++◌, map, filter, find, length, take, Option, Some, None, is_some, refl, ap, sym, subst, ◌∙◌, ◌*◌, eqb-true, list_any, Host, same_host, data_bits, header_of, Command, DataHeader, receiver_requested, with_end, with_more_bits, ERRONEOUS, Legal, Order, Wrong, orders_of, error, arrived, arrived_if, data_found, is_acceptable, spent, text_faulted, DeskState, command_queued, desk_of, listener_on, settled, swept, listens_on, PairState, freed, TurnState, if_ready, order_taken, with_desk, Closing, Entry, Listener, both, not_is, has_opened, is_ready, owner_of, pair_with, NcpState, Request, Peer, HasSaid}
use Rattle.host_pairs.specs.Commands.{Ending, Open, Unconnected, asked_on_link, asked_with_size, at_end, changed, cls_taken_by, desk_taken, matched_once, receiver_on, ret_taken, rts_heard, rts_taken_by, sender_on, str_heard, str_linked, str_taken_by, Found, all_taken}
use Rattle.host_pairs.specs.Entries.{called_off, changed_first, close_due, closed_by_partner, closed_when, entry_at, free_link, has_cls, is_answered, is_at, is_busy, is_due, is_link, is_mine_on, is_receiving, is_sent, must_close, receives_on, receiving_end, refused_end, sending_end, sends_on, is_over}
use Rattle.host_pairs.specs.Parcels.{Parcel, asked_at, bits_gone, cls_sent, command_gone, may_send_on, with_connections, link_of}
use Rattle.host_keeps_streams.specs.Histories.{IsAllowed, AreAllowed, IsHistory, Answered, AsksBack, Closes, Gives, Grants, Hears, OpensReceiver, OpensSender, Says, Sends, Takes, ends_by, ends_now, numbered, sender_now, Call}
use Rattle.world_keeps_streams.specs.Calls.{commands_said, message_calls, orders_heard, owner_calls, parcel_calls, request_calls, next_calls, called}
use Rattle.host_keeps_streams.proofs.lemmas.{due_cls}
use Rattle.host_keeps_streams.specs.Histories as calls
use Rattle.host_pairs.specs.Commands as commands
use Rattle.host_pairs.specs.declared.entry.Closing.TheVariants as closing
use Rattle.ncp_control.specs.declared.command.Command.TheVariants as command
use Rattle.stream_law.specs.Senders.{Sender}
use Rattle.host_pairs.specs.Parcels as parcel
use Rattle.sockets.specs.declared.request.Request.TheVariants as request
use Rattle.world_keeps_streams.proofs.Deeds.Effects.{Among, among_kept, among_mapped}
use Rattle.world_keeps_streams.proofs.Ends.Marks.{never}
use Rattle.world_keeps_streams.proofs.Facts.{clash, no_zero}

-- ---- lists

-- one of them passes
abbrev pub Has : (Entry → Bool) → List Entry → Type 0
Has w es = (e : Entry) × Among e es × (w e ≡ true)

has_changed : (w test : Entry → Bool) (change : Entry → Entry) (es : List Entry)
    → ((e : Entry) → find test es ≡ Some e → w e ≡ true → w (change e) ≡ true) → Has w es
    → Has w (changed_first test change es)
has_changed w test change [] k h = absurd h.1
has_changed w test change (x ∷ xs) k h =
    by (test x) refl h.1 (λ no_zero i. has_changed w test change xs (λ y f. k y (rw no_zero f)) (h.0, i, h.2)) where
      here : (x ≡ h.0) → w x ≡ true
      here same = subst (λ (y : Entry). w y ≡ true) (sym same) h.2

      by : (v : Bool) → test x ≡ v → (x ≡ h.0) ⊎ Among h.0 xs → (test x ≡ false → Among h.0 xs
          → Has w (changed_first test change xs)) → Has w (if v then change x ∷ xs else x ∷ changed_first test change xs)
      by true t (inl same) rest = (change x, inl refl, k x (rw t refl) (here same))
      by true t (inr i) rest = (h.0, inr i, h.2)
      by false t (inl same) rest = (x, inl refl, here same)
      by false t (inr i) rest = let r : Has w (changed_first test change xs) = rest t i in (r.0, inr r.1, r.2)

has_more : (w : Entry → Bool) (es fs : List Entry) → Has w es → Has w (es ++ fs)
has_more w [] fs h = absurd h.1
has_more w (x ∷ xs) fs h = by h.1 (λ i. has_more w xs fs (h.0, i, h.2)) where
  by : (x ≡ h.0) ⊎ Among h.0 xs → (Among h.0 xs → Has w (xs ++ fs)) → Has w (x ∷ (xs ++ fs))
  by (inl same) rest = (h.0, inl same, h.2)
  by (inr i) rest = let r : Has w (xs ++ fs) = rest i in (r.0, inr r.1, r.2)

has_kept : (w t : Entry → Bool) (es : List Entry) → ((e : Entry) → w e ≡ true → t e ≡ true) → Has w es
    → Has w (filter t es)
has_kept w t es k h = (h.0, among_kept t es h.0 h.1 (k h.0 h.2), h.2)

has_mapped : (w : Entry → Bool) (change : Entry → Entry) (es : List Entry)
    → ((e : Entry) → w e ≡ true → w (change e) ≡ true) → Has w es → Has w (map change es)
has_mapped w change es k h = (change h.0, among_mapped change es h.0 h.1, k h.0 h.2)

-- ---- an end on a link that opened and hasn't closed

abbrev pub holds : ℕ → Entry → Bool
holds l e = sends_on l e && has_opened e && not (has_cls e.closing)

pub record Holds (l : ℕ) (e : Entry) : Type 0 where
  pub sends : sends_on l e ≡ true
  pub asked : is_some e.asked ≡ true
  pub partner : is_some e.partner ≡ true
  pub live : has_cls e.closing ≡ false

pub holds_parts : (l : ℕ) (e : Entry) → holds l e ≡ true → Holds l e
holds_parts l e h =
    let p : ((sends_on l e && has_opened e) ≡ true) × (not (has_cls e.closing) ≡ true) =
    both (sends_on l e && has_opened e) (not (has_cls e.closing)) h in
    let q : (sends_on l e ≡ true) × (has_opened e ≡ true) = both (sends_on l e) (has_opened e) p.0 in
    let r : (is_some e.asked ≡ true) × (is_some e.partner ≡ true) = both (is_some e.asked) (is_some e.partner) q.1 in
    record { sends = q.0; asked = r.0; partner = r.1; live = not_is (has_cls e.closing) p.1 }

module _ (l : ℕ) where
  -- an answer waited for on the link: it doesn't close now
  undrained : (busy : List ℕ) (e : Entry) → is_busy busy l ≡ true → sends_on l e ≡ true → must_close busy e ≡ false
  undrained busy e on sends =
      no_zero (is_due e.closing) (is_receiving e) (length e.bits == 0) (is_answered busy e.link)
      (not_is (is_receiving e) parts.0) (waits e.link parts.1) where
        parts : (not (is_receiving e) ≡ true) × (is_link l e.link ≡ true)
        parts = both (not (is_receiving e)) (is_link l e.link) sends

        waits : (o : Option ℕ) → is_link l o ≡ true → is_answered busy o ≡ false
        waits None t = never (sym t)
        waits (Some k) t = ap (λ (n : ℕ). not (is_busy busy n)) (eqb-true k l t) ∙ ap not on

        no_zero : (d r z a : Bool) → r ≡ false → a ≡ false → (d && (r || (z && a))) ≡ false
        no_zero true true z a e f = e
        no_zero true false true a e f = f
        no_zero true false false a e f = refl
        no_zero false r z a e f = refl

  has_settled : (busy : List ℕ) (d : DeskState) → is_busy busy l ≡ true → Has (holds l) d.entries
      → Has (holds l) (settled busy d).entries
  has_settled busy d on h =
      has_mapped (holds l) (λ e. closed_when (must_close busy e) e) d.entries
      (λ e t. when (must_close busy e) e (undrained busy e on (holds_parts l e t).sends) t) h where
        when : (v : Bool) (e : Entry) → v ≡ false → holds l e ≡ true → holds l (closed_when v e) ≡ true
        when true e no_zero t = never no_zero
        when false e no_zero t = t

  unsent : (c : Closing) → has_cls c ≡ false → is_sent c ≡ false
  unsent closing.Sent e = never e
  unsent c e = refl

  has_swept : (g : Host) (d : DeskState) → Has (holds l) d.entries → Has (holds l) (swept g d).entries
  has_swept g d h =
      has_kept (holds l) (λ e. not (is_over e)) d.entries (λ e t. ap (λ (v : Bool). not (v && e.partner_closed))
      (unsent e.closing (holds_parts l e t).live)) h

  due_holds : (e f : Entry) → f.closing ≡ close_due e.closing → sends_on l f ≡ sends_on l e
      → has_opened f ≡ has_opened e → holds l e ≡ true → holds l f ≡ true
  due_holds e f closing sends opened t =
      ap (λ (v : Bool). v && has_opened f && not (has_cls f.closing)) sends
      ∙ ap (λ (v : Bool). sends_on l e && v && not (has_cls f.closing)) opened
      ∙ ap (λ (v : Bool). sends_on l e && has_opened e && not v) (ap has_cls closing ∙ sym (due_cls e.closing)) ∙ t

  has_if : (v : Bool) (d e : DeskState) → Has (holds l) d.entries → Has (holds l) e.entries
      → Has (holds l) (if v then d else e).entries
  has_if true d e h k = h
  has_if false d e h k = k

  has_quiet : (test : Entry → Bool) (change : Entry → Entry) (d : DeskState)
      → ((e : Entry) → holds l (change e) ≡ holds l e) → Has (holds l) d.entries
      → Has (holds l) (changed test change d).entries
  has_quiet test change d k h = has_changed (holds l) test change d.entries (λ e f t. k e ∙ t) h

  -- a request of the partner comes for an end that has none
  has_matched : (g : Host) (own foreign : ℕ) (c : Command) (e : Entry) (change : Entry → Entry) (d : DeskState)
      → entry_at own foreign d.entries ≡ Some e → Has (holds l) d.entries
      → Has (holds l) (matched_once g own foreign c e change d).entries
  has_matched g own foreign c e change d found h = by (is_some e.partner) refl where
    by : (v : Bool) → is_some e.partner ≡ v
        → Has (holds l) (if v then commands.faulted ERRONEOUS c d else commands.matched g own foreign change d).entries
    by true t = h
    by false t =
        has_changed (holds l) (is_at own foreign) change d.entries
        (λ x f w. (let same : Some e ≡ Some x = sym found ∙ f in let is : e ≡ x = cc in clash (is_some x.partner)
        (holds_parts l x w).partner (ap (λ (y : Entry). is_some y.partner) (sym is) ∙ t))) h

  has_rts : (g : Host) (own foreign link stamp : ℕ) (o : Option Entry) (d : DeskState)
      → entry_at own foreign d.entries ≡ o → Has (holds l) d.entries → Has (holds l)
      (rts_taken_by g own foreign link stamp o d).entries
  has_rts g own foreign link stamp (Some e) d f h =
      has_matched g own foreign (command.Rts foreign own link) e (asked_on_link stamp link) d f h
  has_rts g own foreign link stamp None d f h = by (listener_on own d.listening) where
    by : (o : Option Listener) → Has (holds l) (rts_heard own foreign link stamp o d).entries
    by None = has_more (holds l) d.entries (refused_end own foreign stamp ∷ []) h
    by (Some k) = has_more (holds l) d.entries (asked_on_link stamp link (sending_end own foreign k.size) ∷ []) h

  has_linked : (own foreign size stamp : ℕ) (o : Option ℕ) (d : DeskState) → Has (holds l) d.entries
      → Has (holds l) (str_linked own foreign size stamp o d).entries
  has_linked own foreign size stamp None d h = has_more (holds l) d.entries (refused_end own foreign stamp ∷ []) h
  has_linked own foreign size stamp (Some link) d h =
      has_more (holds l) d.entries (asked_with_size stamp size (receiving_end own foreign link) ∷ []) h

  has_str : (g : Host) (own foreign size stamp : ℕ) (o : Option Entry) (d : DeskState)
      → entry_at own foreign d.entries ≡ o → Has (holds l) d.entries → Has (holds l)
      (str_taken_by g own foreign size stamp o d).entries
  has_str g own foreign size stamp (Some e) d f h =
      has_matched g own foreign (command.Str foreign own size) e (asked_with_size stamp size) d f h
  has_str g own foreign size stamp None d f h = by (listener_on own d.listening) where
    by : (o : Option Listener) → Has (holds l) (str_heard own foreign size stamp o d).entries
    by None = has_more (holds l) d.entries (refused_end own foreign stamp ∷ []) h
    by (Some k) = has_linked own foreign size stamp (free_link d.entries) d h

  has_cls_taken : (g : Host) (busy : List ℕ) (own foreign : ℕ) (o : Option Entry) (d : DeskState)
      → is_busy busy l ≡ true → Has (holds l) d.entries → Has (holds l) (cls_taken_by g busy own foreign o d).entries
  has_cls_taken g busy own foreign None d on h = h
  has_cls_taken g busy own foreign (Some e) d on h =
      has_if e.partner_closed d (swept g (settled busy (changed (is_at own foreign) closed_by_partner d))) h
      (has_swept g (settled busy (changed (is_at own foreign) closed_by_partner d))
      (has_settled busy (changed (is_at own foreign) closed_by_partner d) on
      (has_changed (holds l) (is_at own foreign) closed_by_partner d.entries
      (λ x f w. due_holds x (closed_by_partner x) refl refl refl w) h)))

  has_at : (c : Command) (change : Entry → DeskState → DeskState) (f : Found) (d : DeskState)
      → ((e : Entry) → Has (holds l) (change e d).entries) → Has (holds l) d.entries
      → Has (holds l) (at_end c change f d).entries
  has_at c change Unconnected d k h = h
  has_at c change Ending d k h = h
  has_at c change (Open e) d k h = k e

  has_taken : (g : Host) (busy : List ℕ) (stamp : ℕ) (c : Command) (d : DeskState) → is_busy busy l ≡ true
      → Has (holds l) d.entries → Has (holds l) (desk_taken g busy stamp c d).entries
  has_taken g busy stamp (command.Rts receive send link) d on h =
      has_if (list_any (sends_on link) d.entries) (commands.faulted ERRONEOUS (command.Rts receive send link) d)
      (rts_taken_by g send receive link stamp (entry_at send receive d.entries) d) h
      (has_rts g send receive link stamp (entry_at send receive d.entries) d refl h)
  has_taken g busy stamp (command.Str send receive size) d on h =
      has_str g receive send size stamp (entry_at receive send d.entries) d refl h
  has_taken g busy stamp (command.Cls mine yours) d on h =
      has_cls_taken g busy yours mine (entry_at yours mine d.entries) d on h
  has_taken g busy stamp (command.All link messages bits) d on h =
      has_at (command.All link messages bits) (all_taken link messages bits) (sender_on link d) d
      (λ e. has_quiet (sends_on link) (commands.granted messages bits) d (λ x. refl) h) h
  has_taken g busy stamp (command.Gvb link messages bits) d on h =
      has_at (command.Gvb link messages bits) (commands.gvb_taken link messages bits) (sender_on link d) d
      (λ e. has_quiet (sends_on link) (commands.given_back messages bits) d (λ x. refl) h) h
  has_taken g busy stamp (command.Ret link messages bits) d on h =
      has_at (command.Ret link messages bits) (ret_taken link messages bits) (receiver_on link d) d
      (λ e. has_if _ _ _ (has_quiet (receives_on link) (commands.returned messages bits) d (λ x. refl) h) h) h
  has_taken g busy stamp (command.Inr link) d on h =
      has_at (command.Inr link) commands.interrupted (sender_on link d) d (λ e. h) h
  has_taken g busy stamp (command.Ins link) d on h =
      has_at (command.Ins link) commands.interrupted (receiver_on link d) d (λ e. h) h
  has_taken g busy stamp c d on h = h

  has_data : (link : ℕ) (text : List Bool) (f : Found) (d : DeskState) → Has (holds l) d.entries
      → Has (holds l) (data_found link text f d).entries
  has_data link text Unconnected d h = h
  has_data link text Ending d h = h
  has_data link text (Open e) d h = by (header_of text) where
    by : (o : Option DataHeader) → Has (holds l) (arrived_if link e text o d).entries
    by None = h
    by (Some k) =
        has_if (is_acceptable e k) (arrived link e (data_bits k) text d) (text_faulted ERRONEOUS text d)
        (has_quiet (receives_on link) (spent (data_bits k)) d (λ x. refl) h) h

  asks : (stamp : ℕ) (e : Entry) → holds l e ≡ true → holds l (asked_at stamp e) ≡ true
  asks stamp e t =
      ap (λ (v : Bool). sends_on l e && (v && is_some e.partner) && not (has_cls e.closing))
      (sym (holds_parts l e t).asked) ∙ t

  has_said : (g : Host) (stamp : ℕ) (c : Command) (d : DeskState) → HasSaid c d.entries → Has (holds l) d.entries
      → Has (holds l) (command_gone g stamp c d).entries
  has_said g stamp (command.Rts receive send link) d said h =
      has_changed (holds l) (is_at receive send) (asked_at stamp) d.entries (λ e f t. asks stamp e t) h
  has_said g stamp (command.Str send receive size) d said h =
      has_changed (holds l) (is_at send receive) (asked_at stamp) d.entries (λ e f t. asks stamp e t) h
  has_said g stamp (command.Cls own foreign) d said h =
      has_swept g (changed (is_at own foreign) cls_sent d) (has_changed (holds l) (is_at own foreign) cls_sent d.entries
      (λ e f t. clash (has_cls e.closing) (said e f) (holds_parts l e t).live) h)
  has_said g stamp c d said h = h

  -- ---- one call

  -- an answer is waited for after it
  abbrev pub IsOn : Call → PairState → Type 0
  IsOn (Hears stamp said c) q = is_busy q.busy l ≡ true
  IsOn (Answered k) q = is_busy (freed k q).busy l ≡ true
  IsOn (Closes socket e) q = is_busy q.busy l ≡ true
  IsOn k q = Unit {0}

  abbrev pub AllOn : List calls.Moment → Type 0
  AllOn [] = Unit {0}
  AllOn (m ∷ ms) = IsOn m.call m.pair × AllOn ms

  has_call : (g : Host) (link : ℕ) (k : Call) (q : PairState) (listening : List Listener) (s : Sender)
      → IsAllowed link k q s → IsOn k q → Has (holds l) q.entries → Has (holds l) (ends_by g k q listening)
  has_call g link (Hears stamp said c) q listening s may on h = has_taken g q.busy stamp c (desk_of q listening) on h
  has_call g link (Takes k text) q listening s may on h =
      has_data k text (receiver_on k (desk_of q listening)) (desk_of q listening) h
  has_call g link (Says stamp c) q listening s may on h = has_said g stamp c (desk_of q listening) may h
  has_call g link (Sends stamp e size count) q listening s may on h =
      has_quiet (may_send_on q.busy (link_of e.link)) (bits_gone (size * count)) (desk_of q listening) (λ x. refl) h
  has_call g link (Answered k) q listening s may on h = has_settled (freed k q).busy (desk_of q listening) on h
  has_call g link (OpensReceiver own foreign) q listening s may on h = by (free_link q.entries) where
    by : (o : Option ℕ) → Has (holds l) (receiver_requested own foreign o q).entries
    by None = h
    by (Some k) = has_more (holds l) q.entries (receiving_end own foreign k ∷ []) h
  has_call g link (OpensSender own foreign size) q listening s may on h =
      has_more (holds l) q.entries (sending_end own foreign size ∷ []) h
  has_call g link (Grants socket messages bits e) q listening s may on h =
      has_quiet (is_mine_on socket) (commands.granted messages bits) (desk_of q []) (λ x. refl) h
  has_call g link (AsksBack socket messages bits e) q listening s may on h = h
  has_call g link (Gives socket bits e) q listening s may on h =
      has_quiet (is_mine_on socket) (with_more_bits bits) (desk_of q []) (λ x. refl) h
  has_call g link (Closes socket e) q listening s may on h =
      has_settled q.busy (desk_of (with_end socket called_off q) []) on
      (has_changed (holds l) (is_mine_on socket) called_off q.entries (λ x f t. due_holds x
      (called_off x) refl refl refl t) h)

  pub has_calls : (g : Host) (link : ℕ) (ms older : List calls.Moment) → IsHistory g (ms ++ older)
      → AreAllowed numbered g link (ms ++ older) → AllOn ms → Has (holds l) (ends_now g older)
      → Has (holds l) (ends_now g (ms ++ older))
  has_calls g link [] older history may on h = h
  has_calls g link (m ∷ ms) older history may on h =
      has_call g link m.call m.pair m.listening (sender_now numbered g link (ms ++ older)) may.0 on.0
      (subst (λ (es : List Entry). Has (holds l) es) (sym history.0) (has_calls g link ms older history.1 may.1 on.1 h))

-- ---- the calls of one moment

module _ (l : ℕ) where
  pub on_if : (v : Bool) (cs : List calls.Moment) → AllOn l cs → AllOn l (if v then cs else [])
  on_if true cs h = h
  on_if false cs h = tt

  on_said : (g : Host) (stamp : ℕ) (cs : List Command) (q : PairState) (listening : List Listener)
      (older : List calls.Moment) → AllOn l older → AllOn l (commands_said g stamp cs q listening older)
  on_said g stamp [] q listening older h = h
  on_said g stamp (c ∷ cs) q listening older h =
      on_said g stamp cs (with_connections q (command_gone g stamp c (desk_of q listening))) listening
      (called (Says stamp c) q listening ∷ older) (tt, h)

  on_parcel : (g : Host) (stamp : ℕ) (x : Parcel) (q : PairState) (listening : List Listener)
      → AllOn l (parcel_calls g stamp x q listening)
  on_parcel g stamp parcel.Reset q listening = tt
  on_parcel g stamp parcel.Reply q listening = tt
  on_parcel g stamp (parcel.Commands count) q listening = on_said g stamp (take count q.queue) q listening [] tt
  on_parcel g stamp (parcel.Bytes e size count) q listening = (tt, tt)

  pub on_next : (g : Host) (stamp : ℕ) (listening : List Listener) (o : Option (Peer × Parcel))
      → AllOn l (next_calls g stamp listening o)
  on_next g stamp listening None = tt
  on_next g stamp listening (Some (p, x)) =
      on_if (same_host g p.host) (parcel_calls g stamp x p.pair listening) (on_parcel g stamp x p.pair listening)

  -- what is heard leaves the links as they are
  busy_ready : (work : DeskState → DeskState) (t : TurnState) → (if_ready work t).pair.busy ≡ t.pair.busy
  busy_ready work t = by (is_ready t.pair.phase) where
    by : (v : Bool) → (if v then with_desk t (work (desk_of t.pair t.listening)) else t).pair.busy ≡ t.pair.busy
    by true = refl
    by false = refl

  busy_order : (g : Host) (stamp : ℕ) (c : Command) (t : TurnState) → (order_taken g stamp
      (Legal c) t).pair.busy ≡ t.pair.busy
  busy_order g stamp command.Rst t = refl
  busy_order g stamp command.Rrp t = refl
  busy_order g stamp c t = busy_ready (desk_taken g t.pair.busy stamp c) t

  on_heard : (g : Host) (stamp : ℕ) (os : List Order) (t : TurnState) (older : List calls.Moment)
      → is_busy t.pair.busy l ≡ true → AllOn l older → AllOn l (orders_heard g stamp os t older)
  on_heard g stamp [] t older on h = h
  on_heard g stamp (Legal c ∷ os) t older on h =
      on_heard g stamp os (order_taken g stamp (Legal c) t) (called (Hears stamp 0 c) t.pair t.listening ∷ older)
      (ap (λ (b : List ℕ). is_busy b l) (busy_order g stamp c t) ∙ on) (on, h)
  on_heard g stamp (Wrong code octets ∷ os) t older on h =
      on_heard g stamp os (order_taken g stamp (Wrong code octets) t) older
      (ap (λ (b : List ℕ). is_busy b l) (busy_ready (command_queued (error code octets)) t) ∙ on) h

  pub on_message : (g : Host) (stamp link : ℕ) (text : List Bool) (t : TurnState) → is_busy t.pair.busy l ≡ true
      → AllOn l (message_calls g stamp link text t)
  on_message g stamp link text t on =
      on_if (is_ready t.pair.phase) (if link == 0 then orders_heard g stamp (orders_of text) t [] else called
      (Takes link text) t.pair t.listening ∷ []) (by (link == 0)) where
        by : (v : Bool) → AllOn l (if v then orders_heard g stamp (orders_of text) t [] else called
            (Takes link text) t.pair t.listening ∷ [])
        by true = on_heard g stamp (orders_of text) t [] on tt
        by false = (tt, tt)

  on_owner : (g : Host) (call : Entry → Call) (q : PairState) (listening : List Listener) (o : Option (Host × Entry))
      → ((e : Entry) → IsOn l (call e) q) → AllOn l (owner_calls g call q listening o)
  on_owner g call q listening None h = tt
  on_owner g call q listening (Some (k, e)) h = on_if (same_host g k) (called (call e) q listening ∷ []) (h e, tt)

  pub on_request : (g : Host) (s : NcpState) (r : Request) → is_busy (pair_with g s.peers).busy l ≡ true
      → AllOn l (request_calls g s r)
  on_request g s (request.OpenSend host k foreign size) on =
      on_if (same_host g host) (called (OpensSender k foreign size) (pair_with g s.peers) s.listening ∷ []) (tt, tt)
  on_request g s (request.OpenReceive host k foreign) on =
      on_if (same_host g host) (called (OpensReceiver k foreign) (pair_with g s.peers) s.listening ∷ []) (tt, tt)
  on_request g s (request.Send socket bits) on =
      on_owner g (Gives socket bits) (pair_with g s.peers) s.listening (owner_of socket s.peers) (λ e. tt)
  on_request g s (request.Grant socket m n) on =
      on_owner g (Grants socket m n) (pair_with g s.peers) s.listening (owner_of socket s.peers) (λ e. tt)
  on_request g s (request.AskBack socket m n) on =
      on_owner g (AsksBack socket m n) (pair_with g s.peers) s.listening (owner_of socket s.peers) (λ e. tt)
  on_request g s (request.Close socket) on = by (listens_on socket s.listening) where
    by : (v : Bool) → AllOn l (if v then [] else owner_calls g (Closes socket) (pair_with g s.peers) s.listening
        (owner_of socket s.peers))
    by true = tt
    by false = on_owner g (Closes socket) (pair_with g s.peers) s.listening (owner_of socket s.peers) (λ e. on)
  on_request g s r on = tt
