-- What a peer's message does to the connections of a pair, in steps: for what holds of ends, of what waits and of what
-- is reported together, whatever the peer says.
use Rattle.mixed_worlds.proofs.Common.{list_any, Host, same_host, Flow, Answer, HostMessage, is_receive_socket, data_bits, header_of, Command, PairState, Entry, Notice, both, NcpState, pair_with, HasSome, append-nil, append_assoc, DataHeader, Listener, Stand, Standing, marks, send_odd, eqb-true, AreOrders, IsOrder, text_good}
use Rattle.std.proofs.Common.{◌≡◌, ℕ, ◌==◌, ◌||◌, Bool, true, false, not, if◌then◌else◌, List, [], ◌∷◌, ◌++◌, map, filter, Option, Some, None, is_some, refl, ap, sym, subst, ◌∙◌}
use Rattle.ncp_control.specs.Phases.{is_ready, rfnm_phase}
use Rattle.host_pairs.specs.Control.{ERRONEOUS, Legal, Order, orders_of, error, Wrong, NO_SOCKET, NOT_CONNECTED}
use Rattle.host_pairs.specs.Data.{data_of, data_taken, arrived, arrived_if, data_found, is_acceptable, text_faulted, spent}
use Rattle.host_pairs.specs.Desk.{DeskState, desk_of, desk_told, listener_on, swept, settled, command_queued}
use Rattle.host_pairs.specs.Entries.{receives_on, changed_first, closed_by_partner, ending, entry_at, free_link, is_at, is_over, opening_notices, receiving_end, sending_end, sends_on, closed_when, cls_of, is_busy, must_close, refused_end}
use Rattle.host_pairs.specs.Turn.{TurnState, if_ready, message_taken, with_desk, order_taken, orders_taken, command_taken, answered_turn, failed, failed_by, freed, is_gone, reply_notices, reset_notices, settled_turn}
use Rattle.sockets.specs.Accepting.{after_turn, turn_of, accepted}
use Rattle.std.specs.Prelude.{flat_map}
use Rattle.host_pairs.specs.Commands.{Ending, Open, Unconnected, asked_on_link, changed, desk_taken, entry_joined, matched, str_taken_by, rts_taken_by, matched_once, faulted, cls_taken_by, asked_with_size, answered_on, Found, all_taken, at_end, gvb_taken, interrupted, receiver_on, ret_taken, rts_heard, sender_on, str_heard, str_linked}
use Rattle.host_keeps_pairing.proofs.lemmas.{none_at, put}
use Rattle.ncp_control.specs.Command.{spelling}
use Rattle.bit_messages.specs.Octets.{octets_of}
use Rattle.interface.specs.declared.crossing.Answer.TheVariants as answer
use Rattle.interface.specs.declared.crossing.Inbound.TheVariants as inbound
use Rattle.ncp_control.specs.declared.phase.Phase.{Phase}
use Rattle.ncp_control.specs.declared.command.Command.TheVariants as command
use Rattle.ncp_control.specs.declared.phase.Phase.TheVariants as phase
use Rattle.host_pairs.specs.Commands as commands
use Rattle.host_pairs.specs.declared.notice.Notice.TheVariants as notice
use Rattle.world_keeps_lives.proofs.lemmas.{SomeEnd, one_order}

-- ---- what a step leaves

-- a command that names no link of this host's
abbrev pub IsMute : Command → Type 0
IsMute (command.Rts own foreign link) = ⊥
IsMute c = Unit {0}

abbrev pub AreMute : List Command → Type 0
AreMute [] = Unit {0}
AreMute (c ∷ cs) = IsMute c × AreMute cs

-- a notice of no opening
abbrev pub OpensNone : Notice → Type 0
OpensNone (notice.Opened socket peer foreign own partner) = ⊥
OpensNone n = Unit {0}

abbrev pub OpenNone : List Notice → Type 0
OpenNone [] = Unit {0}
OpenNone (n ∷ ns) = OpensNone n × OpenNone ns

-- an end that has the same sockets, requests and link
pub record IsSame (e f : Entry) : Type 0 where
  pub own : f.own ≡ e.own
  pub foreign : f.foreign ≡ e.foreign
  pub mine : f.mine ≡ e.mine
  pub asked : f.asked ≡ e.asked
  pub partner : f.partner ≡ e.partner
  pub link : f.link ≡ e.link

-- a request of the peer is taken for it: where it receives it keeps its link
pub record IsHeard (stamp : ℕ) (e f : Entry) : Type 0 where
  pub own : f.own ≡ e.own
  pub foreign : f.foreign ≡ e.foreign
  pub mine : f.mine ≡ e.mine
  pub asked : f.asked ≡ e.asked
  pub partner : f.partner ≡ Some stamp
  pub link : is_receive_socket e.own ≡ true → f.link ≡ e.link

-- an end begins by a request of the peer
pub record IsBegun (stamp : ℕ) (e : Entry) : Type 0 where
  pub asked : e.asked ≡ None
  pub partner : e.partner ≡ Some stamp

-- no end has these two sockets, and nothing waits to be said of them
pub record IsVacant (own foreign : ℕ) (d : DeskState) : Type 0 where
  pub none : entry_at own foreign d.entries ≡ None
  pub silent : marks 0 own foreign d.queue ≡ []

-- what holds of ends, of what waits and of what is reported holds after each step
pub record Steps (peer : Host) (stamp : ℕ) (J : DeskState → Type 0) : Type 0 where
  pub queued : (cs : List Command) (d : DeskState) → AreMute cs → J d → J (record d { queue = d.queue ++ cs })
  pub told : (ns : List Notice) (d : DeskState) → OpenNone ns → J d → J (desk_told ns d)
  pub kept : (keep : Entry → Bool) (d : DeskState) → J d → J (record d { entries = filter keep d.entries })
  pub one : (test : Entry → Bool) (change : Entry → Entry) (d : DeskState) → ((e : Entry) → IsSame e (change e)) → J d
      → J (changed test change d)
  pub all : (change : Entry → Entry) (d : DeskState) → ((e : Entry) → IsSame e (change e)) → J d
      → J (record d { entries = map change d.entries })
  pub refuses : (e : Entry) (d : DeskState) → e.mine ≡ false → e.asked ≡ None → IsVacant e.own e.foreign d → J d
      → J (entry_joined e d)
  pub joins : (e : Entry) (l : Listener) (d : DeskState) → IsBegun stamp e
      → listener_on e.own d.listening ≡ Some l → IsVacant e.own e.foreign d → J d
      → J (entry_joined e (answered_on e.own d))
  pub requests : (e : Entry) (link : ℕ) (l : Listener) (d : DeskState) → IsBegun stamp e → e.link ≡ Some link
      → listener_on e.own d.listening ≡ Some l → IsVacant e.own e.foreign d → J d
      → J (command_queued (command.Rts e.own e.foreign link) (entry_joined e (answered_on e.own d)))
  pub matches : (own foreign : ℕ) (e : Entry) (change : Entry → Entry) (d : DeskState)
      → entry_at own foreign d.entries ≡ Some e → e.partner ≡ None → SomeEnd (λ n. n) own foreign d
      → ((x : Entry) → is_at own foreign x ≡ true → IsHeard stamp x (change x)) → J d
      → J (matched peer own foreign change d)
  pub clears : (d : DeskState) → J d → J (record d { entries = []; queue = [] })

-- ---- one command

pub no_words : (own foreign : ℕ) (d : DeskState) → entry_at own foreign d.entries ≡ None
    → SomeEnd (λ n. n) own foreign d
    → IsVacant own foreign d
no_words own foreign d none s = record {
  none = none;
  silent = (subst (λ (ss : List Standing). Stand true (λ n. n) 0 ss (marks 0 own foreign d.queue) s.x)
      (none_at own foreign d.entries none) (s.on 0)).0;
}

-- ends that go are reported by no opening
pub ended_none : (peer : Host) (es : List Entry) → OpenNone (flat_map (ending peer) es)
ended_none peer [] = tt
ended_none peer (e ∷ es) = by e.mine (ended_none peer es) where
  by : (b : Bool) → OpenNone (flat_map (ending peer) es)
      → OpenNone ((if b then notice.Ended e.own peer e.foreign ∷ [] else []) ++ flat_map (ending peer) es)
  by true rest = (tt, rest)
  by false rest = rest

module _ (peer : Host) (stamp : ℕ) (J : DeskState → Type 0) (steps : Steps peer stamp J) where
  fault : (code : ℕ) (c : Command) (d : DeskState) → J d → J (faulted code c d)
  fault code c d h = steps.queued (error code (spelling c) ∷ []) d (tt, tt) h

  if_step : (b : Bool) (d e : DeskState) → J d → J e → J (if b then d else e)
  if_step true d e h k = h
  if_step false d e h k = k

  mute_cls : (es : List Entry) → AreMute (map cls_of es)
  mute_cls [] = tt
  mute_cls (e ∷ es) = (tt, mute_cls es)

  pub settles : (busy : List ℕ) (d : DeskState) → J d → J (settled busy d)
  settles busy d h = steps.queued (map cls_of (filter (must_close busy) d.entries))
      (record d { entries = map (λ e. closed_when (must_close busy e) e) d.entries })
      (mute_cls (filter (must_close busy) d.entries))
      (steps.all (λ e. closed_when (must_close busy e) e) d
      (λ e. record { own = refl; foreign = refl; mine = refl; asked = refl; partner = refl; link = refl }) h)

  pub sweeps : (d : DeskState) → J d → J (swept peer d)
  sweeps d h = steps.told (flat_map (ending peer) (filter is_over d.entries))
      (record d { entries = filter (λ e. not (is_over e)) d.entries }) (ended_none peer (filter is_over d.entries))
      (steps.kept (λ e. not (is_over e)) d h)

  refuses : (own foreign : ℕ) (d : DeskState) → IsVacant own foreign d → J d → J (commands.refused own foreign stamp d)
  refuses own foreign d v h = steps.queued (cls_of (refused_end own foreign stamp) ∷ [])
      (entry_joined (refused_end own foreign stamp) d) (tt, tt)
      (steps.refuses (refused_end own foreign stamp) d refl refl v h)

  matches_once : (own foreign : ℕ) (c : Command) (e : Entry) (change : Entry → Entry) (d : DeskState)
      → entry_at own foreign d.entries ≡ Some e → SomeEnd (λ n. n) own foreign d
      → ((x : Entry) → is_at own foreign x ≡ true → IsHeard stamp x (change x)) → J d
      → J (matched_once peer own foreign c e change d)
  matches_once own foreign c e change d found s is h = by e.partner refl where
    by : (o : Option ℕ) → e.partner ≡ o
        → J (if is_some o then faulted ERRONEOUS c d else matched peer own foreign change d)
    by (Some n) p = fault ERRONEOUS c d h
    by None p = steps.matches own foreign e change d found p s is h

  -- ---- RTS

  odd_heard : (own foreign link : ℕ) → is_receive_socket own ≡ false → (x : Entry) → is_at own foreign x ≡ true
      → IsHeard stamp x (asked_on_link stamp link x)
  odd_heard own foreign link odd x here = record {
    own = refl;
    foreign = refl;
    mine = refl;
    asked = refl;
    partner = refl;
    link = λ even.
        (let same : x.own ≡ own = eqb-true x.own own (both (x.own == own) (x.foreign == foreign) here).0 in
        let clash : true ≡ false = sym even ∙ ap is_receive_socket same ∙ odd in absurd (cc));
  }

  rts_new : (own foreign link : ℕ) (l : Option Listener) (d : DeskState) → listener_on own d.listening ≡ l
      → IsVacant own foreign d → J d → J (rts_heard own foreign link stamp l d)
  rts_new own foreign link None d listens v h = refuses own foreign d v h
  rts_new own foreign link (Some l) d listens v h = steps.queued (command.Str own foreign l.size ∷ [])
      (entry_joined (asked_on_link stamp link (sending_end own foreign l.size)) (answered_on own d)) (tt, tt)
      (steps.joins (asked_on_link stamp link (sending_end own foreign l.size)) l d
      (record { asked = refl; partner = refl }) listens v h)

  rts_by : (own foreign link : ℕ) (o : Option Entry) (d : DeskState) → is_receive_socket own ≡ false
      → entry_at own foreign d.entries ≡ o → SomeEnd (λ n. n) own foreign d → J d
      → J (rts_taken_by peer own foreign link stamp o d)
  rts_by own foreign link None d odd found s h = rts_new own foreign link (listener_on own d.listening) d refl
      (no_words own foreign d found s) h
  rts_by own foreign link (Some e) d odd found s h = matches_once own foreign (command.Rts foreign own link) e
      (asked_on_link stamp link) d found s (odd_heard own foreign link odd) h

  -- ---- STR

  str_answered : (own foreign size : ℕ) (o : Option ℕ) (l : Listener) (d : DeskState)
      → listener_on own d.listening ≡ Some l → IsVacant own foreign d → J d → J (str_linked own foreign size stamp o d)
  str_answered own foreign size None l d listens v h = refuses own foreign d v h
  str_answered own foreign size (Some link) l d listens v h =
      steps.requests (asked_with_size stamp size (receiving_end own foreign link)) link l d
      (record { asked = refl; partner = refl }) refl listens v h

  str_new : (own foreign size : ℕ) (o : Option Listener) (d : DeskState) → listener_on own d.listening ≡ o
      → IsVacant own foreign d → J d → J (str_heard own foreign size stamp o d)
  str_new own foreign size None d listens v h = refuses own foreign d v h
  str_new own foreign size (Some l) d listens v h = str_answered own foreign size (free_link d.entries) l d listens v h

  str_by : (own foreign size : ℕ) (o : Option Entry) (d : DeskState) → entry_at own foreign d.entries ≡ o
      → SomeEnd (λ n. n) own foreign d → J d → J (str_taken_by peer own foreign size stamp o d)
  str_by own foreign size None d found s h = str_new own foreign size (listener_on own d.listening) d refl
      (no_words own foreign d found s) h
  str_by own foreign size (Some e) d found s h = matches_once own foreign (command.Str foreign own size) e
      (asked_with_size stamp size) d found s
      (λ x here. record
      { own = refl; foreign = refl; mine = refl; asked = refl; partner = refl; link = λ even. refl }) h

  -- ---- CLS, and what is said of links

  cls_by : (busy : List ℕ) (own foreign : ℕ) (o : Option Entry) (d : DeskState) → J d
      → J (cls_taken_by peer busy own foreign o d)
  cls_by busy own foreign None d h = fault NO_SOCKET (command.Cls foreign own) d h
  cls_by busy own foreign (Some e) d h =
      if_step e.partner_closed d (swept peer (settled busy (changed (is_at own foreign) closed_by_partner d))) h
      (sweeps (settled busy (changed (is_at own foreign) closed_by_partner d))
      (settles busy (changed (is_at own foreign) closed_by_partner d)
      (steps.one (is_at own foreign) closed_by_partner d
      (λ e. record { own = refl; foreign = refl; mine = refl; asked = refl; partner = refl; link = refl }) h)))

  at_found : (c : Command) (change : Entry → DeskState → DeskState) (f : Found) (d : DeskState)
      → ((e : Entry) → J (change e d)) → J d → J (at_end c change f d)
  at_found c change Unconnected d k h = fault NOT_CONNECTED c d h
  at_found c change Ending d k h = h
  at_found c change (Open e) d k h = k e

  plain : (test : Entry → Bool) (change : Entry → Entry) (d : DeskState) → ((e : Entry) → IsSame e (change e)) → J d
      → J (changed test change d)
  plain test change d same h = steps.one test change d same h

  command_step : (busy : List ℕ) (c : Command) (d : DeskState) → IsOrder (Legal c)
      → ((own foreign : ℕ) → SomeEnd (λ n. n) own foreign d) → J d → J (desk_taken peer busy stamp c d)
  command_step busy (command.Rts receive send link) d ok sound h =
      if_step (list_any (sends_on link) d.entries) (faulted ERRONEOUS (command.Rts receive send link) d)
      (rts_taken_by peer send receive link stamp (entry_at send receive d.entries) d)
      (fault ERRONEOUS (command.Rts receive send link) d h)
      (rts_by send receive link (entry_at send receive d.entries) d (send_odd send ok.3) refl (sound send receive) h)
  command_step busy (command.Str send receive size) d ok sound h = str_by receive send size
      (entry_at receive send d.entries) d refl (sound receive send) h
  command_step busy (command.Cls mine yours) d ok sound h = cls_by busy yours mine (entry_at yours mine d.entries) d h
  command_step busy (command.All link messages bits) d ok sound h = at_found (command.All link messages bits)
      (all_taken link messages bits) (sender_on link d) d
      (λ e. plain (sends_on link) (commands.granted messages bits) d
      (λ x. record { own = refl; foreign = refl; mine = refl; asked = refl; partner = refl; link = refl }) h) h
  command_step busy (command.Gvb link messages bits) d ok sound h = at_found (command.Gvb link messages bits)
      (gvb_taken link messages bits) (sender_on link d) d
      (λ e. steps.queued (_ ∷ []) (changed (sends_on link) (commands.given_back messages bits) d) (tt, tt)
      (plain (sends_on link) (commands.given_back messages bits) d
      (λ x. record { own = refl; foreign = refl; mine = refl; asked = refl; partner = refl; link = refl }) h)) h
  command_step busy (command.Ret link messages bits) d ok sound h = at_found (command.Ret link messages bits)
      (ret_taken link messages bits) (receiver_on link d) d
      (λ e. if_step _ _ _ (steps.told (notice.Returned e.own messages bits ∷ [])
      (changed (receives_on link) (commands.returned messages bits) d) (tt, tt)
      (plain (receives_on link) (commands.returned messages bits) d
      (λ x. record { own = refl; foreign = refl; mine = refl; asked = refl; partner = refl; link = refl }) h))
      (fault ERRONEOUS (command.Ret link messages bits) d h)) h
  command_step busy (command.Inr link) d ok sound h = at_found (command.Inr link) interrupted (sender_on link d) d
      (λ e. steps.told (_ ∷ []) d (tt, tt) h) h
  command_step busy (command.Ins link) d ok sound h = at_found (command.Ins link) interrupted (receiver_on link d) d
      (λ e. steps.told (_ ∷ []) d (tt, tt) h) h
  command_step busy (command.Eco octet) d ok sound h = steps.queued (command.Erp octet ∷ []) d (tt, tt) h
  command_step busy (command.Erp octet) d ok sound h = steps.told (notice.Echoed peer octet ∷ []) d (tt, tt) h
  command_step busy (command.Err code detail) d ok sound h = steps.told (notice.RemoteError peer code detail ∷ []) d
      (tt, tt) h
  command_step busy command.Nop d ok sound h = h
  command_step busy command.Rst d ok sound h = h
  command_step busy command.Rrp d ok sound h = h

  -- ---- data

  text_fault : (code : ℕ) (text : List Bool) (d : DeskState) → J d → J (text_faulted code text d)
  text_fault code text d h = steps.queued (error code (octets_of text) ∷ []) d (tt, tt) h

  arrives : (link : ℕ) (e : Entry) (text : List Bool) (o : Option DataHeader) (d : DeskState) → J d
      → J (arrived_if link e text o d)
  arrives link e text None d h = text_fault ERRONEOUS text d h
  arrives link e text (Some k) d h =
      if_step (is_acceptable e k) (arrived link e (data_bits k) text d) (text_faulted ERRONEOUS text d)
      (steps.told (notice.Arrived e.own (data_of (data_bits k) text) ∷ [])
      (changed (receives_on link) (spent (data_bits k)) d) (tt, tt)
      (plain (receives_on link) (spent (data_bits k)) d
      (λ x. record { own = refl; foreign = refl; mine = refl; asked = refl; partner = refl; link = refl }) h))
      (text_fault ERRONEOUS text d h)

  pub data_step : (link : ℕ) (text : List Bool) (d : DeskState) → J d → J (data_taken link text d)
  data_step link text d h = by (receiver_on link d) where
    by : (f : Found) → J (data_found link text f d)
    by Unconnected = text_fault NOT_CONNECTED text d h
    by Ending = h
    by (Open e) = arrives link e text (header_of text) d h

-- ---- a turn: what is reported is after what was reported before

abbrev after : List Notice → DeskState → DeskState
after before d = record d { notices = before ++ d.notices }

later : (peer : Host) (stamp : ℕ) (J : DeskState → Type 0) (before : List Notice) → Steps peer stamp J
    → Steps peer stamp (λ d. J (after before d))
later peer stamp J before steps = record {
  queued = λ cs d mute h. steps.queued cs (after before d) mute h;
  told = λ ns d none h. subst (λ (all : List Notice). J (record d { notices = all })) (append_assoc before d.notices ns)
      (steps.told ns (after before d) none h);
  kept = λ keep d h. steps.kept keep (after before d) h;
  one = λ test change d same h. steps.one test change (after before d) same h;
  all = λ change d same h. steps.all change (after before d) same h;
  refuses = λ e d other none v h.
      steps.refuses e (after before d) other none (record { none = v.none; silent = v.silent }) h;
  joins = λ e l d begun listens v h.
      steps.joins e l (after before d) begun listens (record { none = v.none; silent = v.silent }) h;
  requests = λ e link l d begun linked listens v h.
      steps.requests e link l (after before d) begun linked listens (record { none = v.none; silent = v.silent }) h;
  matches = λ own foreign e change d found none s is h.
      subst (λ (all : List Notice). J (record (changed (is_at own foreign) change d) { notices = all }))
      (append_assoc before d.notices
      (opening_notices peer (entry_at own foreign (changed_first (is_at own foreign) change d.entries))))
      (steps.matches own foreign e change (after before d) found none (record { x = s.x; on = s.on }) is h);
  clears = λ d h. steps.clears (after before d) h;
}

-- all that a turn has
abbrev pub whole : TurnState → DeskState
whole t = record
    { entries = t.pair.entries; queue = t.pair.queue; listening = t.listening; notices = t.notices }

module _ (peer : Host) (stamp : ℕ) (J : DeskState → Type 0) (steps : Steps peer stamp J) where
  ready_step : (work : DeskState → DeskState) (t : TurnState)
      → (J (after t.notices (desk_of t.pair t.listening)) → J (after t.notices (work (desk_of t.pair t.listening))))
      → J (whole t) → J (whole (if_ready work t))
  ready_step work t does h = by (is_ready t.pair.phase) where
    by : (b : Bool) → J (whole (if b then with_desk t (work (desk_of t.pair t.listening)) else t))
    by false = h
    by true = does
        (subst (λ (ns : List Notice). J (record (whole t) { notices = ns })) (sym (append-nil t.notices)) h)

  reset_none : (p : Phase) → OpenNone (reset_notices peer p)
  reset_none phase.Closed = (tt, tt)
  reset_none phase.Ready = (tt, tt)
  reset_none p = tt

  reply_none : (p : Phase) → OpenNone (reply_notices peer p)
  reply_none phase.Heard = (tt, tt)
  reply_none p = tt

  desk_command : (c : Command) (t : TurnState) → IsOrder (Legal c)
      → ((own foreign : ℕ) → HasSome (λ n. n) own foreign t.pair) → J (whole t)
      → J (whole (if_ready (desk_taken peer t.pair.busy stamp c) t))
  desk_command c t ok sound h =
      ready_step (desk_taken peer t.pair.busy stamp c) t
      (λ k. command_step peer stamp (λ d. J (after t.notices d)) (later peer stamp J t.notices steps) t.pair.busy c
      (desk_of t.pair t.listening) ok
      (λ own foreign. record { x = (sound own foreign).x; on = (sound own foreign).has.ends }) k) h

  one_step : (c : Command) (t : TurnState) → IsOrder (Legal c)
      → ((own foreign : ℕ) → HasSome (λ n. n) own foreign t.pair) → J (whole t)
      → J (whole (command_taken peer stamp c t))
  one_step command.Rst t ok sound h = steps.told (reset_notices peer t.pair.phase)
      (record (whole t) { entries = []; queue = [] }) (reset_none t.pair.phase) (steps.clears (whole t) h)
  one_step command.Rrp t ok sound h = steps.told (reply_notices peer t.pair.phase) (whole t)
      (reply_none t.pair.phase) h
  one_step command.Nop t ok sound h = desk_command command.Nop t ok sound h
  one_step (command.Rts own foreign link) t ok sound h = desk_command (command.Rts own foreign link) t ok sound h
  one_step (command.Str own foreign size) t ok sound h = desk_command (command.Str own foreign size) t ok sound h
  one_step (command.Cls own foreign) t ok sound h = desk_command (command.Cls own foreign) t ok sound h
  one_step (command.All link messages bits) t ok sound h = desk_command (command.All link messages bits) t ok sound h
  one_step (command.Gvb link messages bits) t ok sound h = desk_command (command.Gvb link messages bits) t ok sound h
  one_step (command.Ret link messages bits) t ok sound h = desk_command (command.Ret link messages bits) t ok sound h
  one_step (command.Inr link) t ok sound h = desk_command (command.Inr link) t ok sound h
  one_step (command.Ins link) t ok sound h = desk_command (command.Ins link) t ok sound h
  one_step (command.Eco octet) t ok sound h = desk_command (command.Eco octet) t ok sound h
  one_step (command.Erp octet) t ok sound h = desk_command (command.Erp octet) t ok sound h
  one_step (command.Err code detail) t ok sound h = desk_command (command.Err code detail) t ok sound h

  order_step : (o : Order) (t : TurnState) → IsOrder o
      → ((own foreign : ℕ) → HasSome (λ n. n) own foreign t.pair) → J (whole t)
      → J (whole (order_taken peer stamp o t))
  order_step (Legal c) t ok sound h = one_step c t ok sound h
  order_step (Wrong code octets) t ok sound h = ready_step (command_queued (error code octets)) t
      (λ k. steps.queued (error code octets ∷ []) (after t.notices (desk_of t.pair t.listening)) (tt, tt) k) h

  all_steps : (os : List Order) (t : TurnState) → AreOrders os
      → ((own foreign : ℕ) → HasSome (λ n. n) own foreign t.pair) → J (whole t)
      → J (whole (orders_taken peer stamp os t))
  all_steps [] t ok sound h = h
  all_steps (o ∷ os) t ok sound h = all_steps os (order_taken peer stamp o t) ok.1
      (λ own foreign. one_order (λ n. n) own foreign peer stamp o t (sound own foreign)) (order_step o t ok.0 sound h)

  pub text_step : (link : ℕ) (text : List Bool) (t : TurnState)
      → ((own foreign : ℕ) → HasSome (λ n. n) own foreign t.pair) → J (whole t)
      → J (whole (message_taken peer stamp link text t))
  text_step link text t sound h = by (link == 0) where
    by : (b : Bool)
        → J (whole (if b then orders_taken peer stamp (orders_of text) t else if_ready (data_taken link text) t))
    by true = all_steps (orders_of text) t (text_good text) sound h
    by false = ready_step (data_taken link text) t
        (λ k. data_step peer stamp (λ d. J (after t.notices d)) (later peer stamp J t.notices steps) link text
        (desk_of t.pair t.listening) k) h

-- what a host has with a peer after a call, and what the call reports
abbrev pub desk_with : Host → NcpState × List Notice → DeskState
desk_with p turn = record {
  entries = (pair_with p turn.0.peers).entries;
  queue = (pair_with p turn.0.peers).queue;
  listening = turn.0.listening;
  notices = turn.1;
}

-- a message of the peer
pub message_step : (s : NcpState) (m : HostMessage) (stamp : ℕ) (J : DeskState → Type 0)
    → Steps m.flow.source stamp J
    → ((own foreign : ℕ) → HasSome (λ n. n) own foreign (pair_with m.flow.source s.peers))
    → J (desk_with m.flow.source (s, [])) → J (desk_with m.flow.source (accepted s (inbound.Message m) stamp))
unfolding accepted
message_step s m stamp J steps sound h = by (same_host s.own m.flow.destination) where
  t : TurnState
  t = message_taken m.flow.source stamp m.flow.link.0 m.text (turn_of s m.flow.source)

  by : (b : Bool)
      → J (desk_with m.flow.source
      (if b then after_turn s m.flow.source
      (message_taken m.flow.source stamp m.flow.link.0 m.text (turn_of s m.flow.source)) else (s, [])))
  by false = h
  by true = subst
      (λ (q : PairState). J (record
      { entries = q.entries; queue = q.queue; listening = t.listening; notices = t.notices }))
      (sym (put m.flow.source t.pair s.peers))
      (text_step m.flow.source stamp J steps m.flow.link.0 m.text (turn_of s m.flow.source) sound h)

-- an answer about a message to it
pub answer_step : (s : NcpState) (kind : Answer) (f : Flow) (stamp : ℕ) (J : DeskState → Type 0)
    → Steps f.destination stamp J → J (desk_with f.destination (s, []))
    → J (desk_with f.destination (accepted s (inbound.Answer kind f) stamp))
unfolding accepted
answer_step s kind f stamp J steps h = by (same_host s.own f.source)
    (is_busy (pair_with f.destination s.peers).busy f.link.0) where
      peer : Host
      peer = f.destination

      settled_step : (t : TurnState) → J (whole t) → J (whole (settled_turn t))
      settled_step t h = subst
          (λ (ns : List Notice). J (record (whole (settled_turn t)) { notices = ns })) (sym (append-nil t.notices))
          (settles f.destination stamp J steps t.pair.busy (whole t) h)

      failed_as : (p : Phase) (t : TurnState) → J (whole t) → J (whole (failed_by f.destination p t))
      failed_as phase.Closed t h = h
      failed_as phase.Want t h = h
      failed_as (phase.Gone early) t h = steps.told (notice.ContactFailed f.destination ∷ [])
          (record (whole t) { entries = []; queue = [] }) (tt, tt) (steps.clears (whole t) h)
      failed_as phase.Heard t h = steps.told (notice.ContactFailed f.destination ∷ [])
          (record (whole t) { entries = []; queue = [] }) (tt, tt) (steps.clears (whole t) h)
      failed_as phase.Ready t h = steps.told (notice.PairReset f.destination ∷ [])
          (record (whole t) { entries = []; queue = [] }) (tt, tt) (steps.clears (whole t) h)

      failed_step : (t : TurnState) → J (whole t) → J (whole (failed f.destination t))
      failed_step t h = which (is_gone t.pair.phase || not t.pair.owed) where
        which : (b : Bool) → J (whole (if b then failed_by f.destination t.pair.phase t else settled_turn t))
        which true = failed_as t.pair.phase t h
        which false = settled_step t h

      taken_step : (kind : Answer) (link : ℕ) (t : TurnState) → J (whole t)
          → J (whole (answered_turn f.destination kind link t))
      taken_step answer.Rfnm link t h = settled_step
          (record t { pair = record (freed link t.pair) { phase = rfnm_phase link t.pair.phase } }) h
      taken_step kind link t h = failed_step (record t { pair = freed link t.pair }) h

      by : (b c : Bool)
          → J (desk_with f.destination
          (if b then (if c then after_turn s f.destination (answered_turn f.destination kind f.link.0
          (turn_of s f.destination)) else (s, [])) else (s, [])))
      by true true =
          let t : TurnState = answered_turn f.destination kind f.link.0 (turn_of s f.destination) in
          subst (λ (q : PairState). J (record
          { entries = q.entries; queue = q.queue; listening = t.listening; notices = t.notices }))
          (sym (put f.destination t.pair s.peers)) (taken_step kind f.link.0 (turn_of s f.destination) h)
      by true false = h
      by false c = h
