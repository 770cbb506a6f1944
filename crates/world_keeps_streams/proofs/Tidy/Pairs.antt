-- No end of a pair has to close: each that is drained has queued its CLS. What a pair does with what comes in of its peer keeps this.
use Rattle.world_keeps_streams.proofs.Common.{list_any, Host, Answer, data_bits, header_of, is_receive_socket, is_ready, rfnm_phase, Command, DataHeader, Phase, closed_end, receiver_requested, requested, with_end, with_more_bits, ERRONEOUS, Legal, Order, Wrong, error, orders_of, arrived, arrived_if, data_found, data_taken, is_acceptable, spent, text_faulted, DeskState, command_queued, desk_of, listener_on, settled, swept, PairState, TurnState, answered_turn, command_taken, failed_by, freed, if_ready, is_gone, message_taken, order_taken, orders_taken, settled_turn, with_desk, Closing, Entry, Listener, both, not_is, open_parts}
use Rattle.std.proofs.Common.{◌≡◌, ℕ, suc, ◌*◌, ◌==◌, ◌&&◌, ◌||◌, not, Bool, true, false, if◌then◌else◌, List, [], ◌∷◌, ◌++◌, map, filter, find, length, take, Option, Some, None, is_some, refl, ap, sym, subst, ◌∙◌, arith, eq-eqb, nat_lt}
use Rattle.std.proofs.lemmas.Bool.{eqb-true, ne_eqb}
use Rattle.host_pairs.specs.Commands.{Ending, Open, Unconnected, asked_on_link, asked_with_size, at_end, changed, cls_taken_by, desk_taken, matched_once, receiver_on, ret_taken, rts_heard, rts_taken, rts_taken_by, sender_on, str_heard, str_linked, str_taken_by, Found}
use Rattle.host_pairs.specs.Entries.{called_off, changed_first, close_due, closed_by_partner, closed_when, entry_at, free_link, is_answered, is_at, is_busy, is_called_off, is_due, is_mine_on, is_open, is_receiving, must_close, receives_on, receiving_end, refused_end, sending_end, sends_on, is_over}
use Rattle.host_pairs.specs.Parcels.{Bytes, Commands, Parcel, asked_at, bits_gone, cls_sent, command_gone, commands_gone, may_send, may_send_on, pair_after, parcel_gone, sendable, Reply, Reset, link_of}
use Rattle.host_keeps_streams.proofs.lemmas.{unlike}
use Rattle.interface.specs.declared.crossing.Answer.TheVariants as answer
use Rattle.ncp_control.specs.declared.command.Command.TheVariants as command
use Rattle.ncp_control.specs.declared.phase.Phase.TheVariants as phase
use Rattle.host_pairs.specs.Commands as commands
use Rattle.host_pairs.specs.declared.entry.Closing.TheVariants as closing

-- ---- one end

-- a sending end has a link by its partner's request
abbrev pub IsLinked : Entry → Type 0
IsLinked e = is_receiving e ≡ false → is_some e.link ≡ true → is_some e.partner ≡ true

-- the partner's CLS calls an end off, and what waited there is gone
abbrev pub IsShut : Entry → Type 0
IsShut e = e.partner_closed ≡ true → (is_called_off e.closing ≡ true) × (e.bits ≡ [])

-- and none has to close now
abbrev pub IsTidy : List ℕ → Entry → Type 0
IsTidy busy e = (must_close busy e ≡ false) × IsShut e × IsLinked e

off_due : (c : Closing) → is_called_off (close_due c) ≡ true
off_due closing.No = refl
off_due closing.Due = refl
off_due closing.Queued = refl
off_due closing.Sent = refl

-- what is less likely drained has less likely to close
less : (u v p q : Bool) → (v ≡ false → q ≡ true → p ≡ true) → (u && (v || p)) ≡ false → (u && (v || q)) ≡ false
less false v p q k h = refl
less true true p q k h = h
less true false p false k h = refl
less true false p true k h = absurd (unlike p (k refl refl) h)

each_true : (w x p q : Bool) → (w ≡ true → p ≡ true) → (x ≡ true → q ≡ true) → (w && x) ≡ true → (p && q) ≡ true
each_true w x p q j k h = joined p q (j (both w x h).0) (k (both w x h).1) where
  joined : (p q : Bool) → p ≡ true → q ≡ true → (p && q) ≡ true
  joined true q j k = k
  joined false q j k = j

answered_less : (l : ℕ) (busy : List ℕ) (o : Option ℕ) → is_answered (l ∷ busy) o ≡ true → is_answered busy o ≡ true
answered_less l busy None e = refl
answered_less l busy (Some k) e = by (l == k) (is_busy busy k) e where
  by : (u v : Bool) → not (u || v) ≡ true → not v ≡ true
  by true v e = absurd (let no : false ≡ true = e in cc)
  by false v e = e

fewer : (xs ys : List Bool) → (length (xs ++ ys) == 0) ≡ true → (length xs == 0) ≡ true
fewer [] ys e = refl
fewer (x ∷ xs) ys e = absurd (unlike (suc (length (xs ++ ys)) == 0) e (ne_eqb (suc (length (xs ++ ys))) 0 (λ f. omega (arith, f))))

-- one more link waits for an answer
busier : (l : ℕ) (busy : List ℕ) (e : Entry) → IsTidy busy e → IsTidy (l ∷ busy) e
busier l busy e t = (
  less (is_due e.closing) (is_receiving e) (length e.bits == 0 && is_answered busy e.link) (length e.bits == 0 && is_answered (l ∷ busy) e.link)
      (λ s. each_true (length e.bits == 0) (is_answered (l ∷ busy) e.link) (length e.bits == 0) (is_answered busy e.link) (λ h. h) (answered_less l busy e.link)) t.0,
  t.1,
  t.2,
)

settles : (busy : List ℕ) (e : Entry) → IsShut e × IsLinked e → IsTidy busy (closed_when (must_close busy e) e)
settles busy e h = by (must_close busy e) refl where
  by : (v : Bool) → must_close busy e ≡ v → IsTidy busy (closed_when v e)
  by true t = (refl, (λ c. (refl, (h.0 c).1)), h.1)
  by false t = (t, h.0, h.1)

more_bits : (busy : List ℕ) (bits : List Bool) (e : Entry) → is_open e ≡ true → IsTidy busy e → IsTidy busy (with_more_bits bits e)
more_bits busy bits e o t = (
  less (is_due e.closing) (is_receiving e) (length e.bits == 0 && is_answered busy e.link) (length (e.bits ++ bits) == 0 && is_answered busy e.link)
      (λ s. each_true (length (e.bits ++ bits) == 0) (is_answered busy e.link) (length e.bits == 0) (is_answered busy e.link) (fewer e.bits bits) (λ h. h)) t.0,
  (λ c. absurd (unlike e.partner_closed c (open_parts e o).unheard)),
  t.2,
)

-- bytes that go out leave their link waiting for an answer
gone_bits : (busy : List ℕ) (link n : ℕ) (e : Entry) → may_send_on busy link e ≡ true → IsTidy busy e → IsTidy (link ∷ busy) (bits_gone n e)
gone_bits busy link n e may t =
    let ways : (may_send busy e ≡ true) × ((link_of e.link == link) ≡ true) = both (may_send busy e) (link_of e.link == link) may in
    let parts : ((not (is_receiving e) && is_open e && is_some e.link && is_answered busy e.link) ≡ true) × (nat_lt 0 (sendable e) ≡ true) = both (not (is_receiving e) && is_open e && is_some e.link && is_answered busy e.link) (nat_lt 0 (sendable e)) ways.0 in
    let linked : ((not (is_receiving e) && is_open e && is_some e.link) ≡ true) × (is_answered busy e.link ≡ true) = both (not (is_receiving e) && is_open e && is_some e.link) (is_answered busy e.link) parts.0 in
    let opened : ((not (is_receiving e) && is_open e) ≡ true) × (is_some e.link ≡ true) = both (not (is_receiving e) && is_open e) (is_some e.link) linked.0 in
    let sends : (not (is_receiving e) ≡ true) × (is_open e ≡ true) = both (not (is_receiving e)) (is_open e) opened.0 in (
      less (is_due e.closing) (is_receiving e) false (length (bits_gone n e).bits == 0 && is_answered (link ∷ busy) e.link) (λ s q. out e.link opened.1 ways.1 (both (length (bits_gone n e).bits == 0) (is_answered (link ∷ busy) e.link) q).1) (undue (is_due e.closing) (is_receiving e) (not_is (is_receiving e) sends.0)),
      (λ c. absurd (unlike e.partner_closed c (open_parts e sends.1).unheard)),
      t.2,
    ) where
      undue : (u v : Bool) → v ≡ false → (u && (v || false)) ≡ false
      undue true true h = h
      undue true false h = refl
      undue false v h = refl

      out : (o : Option ℕ) → is_some o ≡ true → (link_of o == link) ≡ true → is_answered (link ∷ busy) o ≡ true → false ≡ true
      out None s l a = s
      out (Some k) s l a = by (link == k) (is_busy busy k) (eq-eqb link k (sym (eqb-true k link l))) a where
        by : (u v : Bool) → u ≡ true → not (u || v) ≡ true → false ≡ true
        by true v h e = e
        by false v h e = h

-- a request of the partner comes
asked_link : (busy : List ℕ) (stamp link : ℕ) (e : Entry) → is_some e.partner ≡ false → IsTidy busy e → IsTidy busy (asked_on_link stamp link e)
asked_link busy stamp link e none t = (
  less (is_due e.closing) (is_receiving e) (length e.bits == 0 && is_answered busy e.link) (length e.bits == 0 && is_answered busy (Some link))
      (λ s. each_true (length e.bits == 0) (is_answered busy (Some link)) (length e.bits == 0) (is_answered busy e.link) (λ h. h) (λ a. unlinked s e.link refl)) t.0,
  t.1,
  (λ r l. refl),
) where
  unlinked : is_receiving e ≡ false → (o : Option ℕ) → e.link ≡ o → is_answered busy o ≡ true
  unlinked s None is = refl
  unlinked s (Some k) is = absurd (unlike (is_some e.partner) (t.2 s (let l : is_some e.link ≡ true = ap (λ (o : Option ℕ). is_some o) is in l)) none)

-- ---- all ends

abbrev pub Each : (Entry → Type 0) → List Entry → Type 0
Each Q [] = Unit {0}
Each Q (e ∷ es) = Q e × Each Q es

each_weaker : (Q R : Entry → Type 0) (es : List Entry) → ((e : Entry) → Q e → R e) → Each Q es → Each R es
each_weaker Q R [] k h = tt
each_weaker Q R (e ∷ es) k h = (k e h.0, each_weaker Q R es k h.1)

each_mapped : (Q R : Entry → Type 0) (change : Entry → Entry) (es : List Entry) → ((e : Entry) → Q e → R (change e)) → Each Q es → Each R (map change es)
each_mapped Q R change [] k h = tt
each_mapped Q R change (e ∷ es) k h = (k e h.0, each_mapped Q R change es k h.1)

each_kept : (Q : Entry → Type 0) (test : Entry → Bool) (es : List Entry) → Each Q es → Each Q (filter test es)
each_kept Q test [] h = tt
each_kept Q test (e ∷ es) h = by (test e) refl (each_kept Q test es h.1) where
  by : (b : Bool) → test e ≡ b → Each Q (filter test es) → Each Q (filter test (e ∷ es))
  by true t rest = rw t (h.0, rest)
  by false t rest = rw t rest

each_more : (Q : Entry → Type 0) (es : List Entry) (e : Entry) → Each Q es → Q e → Each Q (es ++ e ∷ [])
each_more Q [] e h k = (k, tt)
each_more Q (x ∷ es) e h k = (h.0, each_more Q es e h.1 k)

each_changed : (Q R : Entry → Type 0) (test : Entry → Bool) (change : Entry → Entry) (es : List Entry) → ((e : Entry) → Q e → R e) → ((e : Entry) → find test es ≡ Some e → test e ≡ true → Q e → R (change e)) → Each Q es
    → Each R (changed_first test change es)
each_changed Q R test change [] w k h = tt
each_changed Q R test change (e ∷ es) w k h = by (test e) refl (λ off. each_changed Q R test change es w (λ x f. k x (rw off f)) h.1) where
  by : (b : Bool) → test e ≡ b → (test e ≡ false → Each R (changed_first test change es)) → Each R (if b then change e ∷ es else e ∷ changed_first test change es)
  by true t rest = (k e (rw t refl) t h.0, each_weaker Q R es w h.1)
  by false t rest = (w e h.0, rest t)

-- ---- the connections of a pair

module _ (peer : Host) (busy : List ℕ) (stamp : ℕ) where
  abbrev Ends : DeskState → Type 0
  Ends d = Each (IsTidy busy) d.entries

  ends_if : (b : Bool) (d e : DeskState) → Ends d → Ends e → Ends (if b then d else e)
  ends_if true d e h k = h
  ends_if false d e h k = k

  -- what leaves the closing as it is
  same_changed : (test : Entry → Bool) (change : Entry → Entry) (d : DeskState) → ((e : Entry) → IsTidy busy e → IsTidy busy (change e)) → Ends d → Ends (changed test change d)
  same_changed test change d k h = each_changed (IsTidy busy) (IsTidy busy) test change d.entries (λ e t. t) (λ e f p t. k e t) h

  all_settled : (d : DeskState) → Each (λ e. IsShut e × IsLinked e) d.entries → Ends (settled busy d)
  all_settled d h = each_mapped (λ e. IsShut e × IsLinked e) (IsTidy busy) (λ e. closed_when (must_close busy e) e) d.entries (settles busy) h

  all_swept : (d : DeskState) → Ends d → Ends (swept peer d)
  all_swept d h = each_kept (IsTidy busy) (λ e. not (is_over e)) d.entries h

  all_refused : (own foreign : ℕ) (d : DeskState) → Ends d → Ends (commands.refused own foreign stamp d)
  all_refused own foreign d h = each_more (IsTidy busy) d.entries (refused_end own foreign stamp) h (refl, (λ c. absurd (let no : false ≡ true = c in cc)), (λ r l. refl))

  all_matched : (own foreign : ℕ) (c : Command) (e : Entry) (change : Entry → Entry) (d : DeskState) → entry_at own foreign d.entries ≡ Some e → (is_some e.partner ≡ false → IsTidy busy e → IsTidy busy (change e)) → Ends d
      → Ends (matched_once peer own foreign c e change d)
  all_matched own foreign c e change d found k h = by (is_some e.partner) refl where
    by : (b : Bool) → is_some e.partner ≡ b → Ends (if b then commands.faulted ERRONEOUS c d else commands.matched peer own foreign change d)
    by true f = h
    by false f =
        each_changed (IsTidy busy) (IsTidy busy) (is_at own foreign) change d.entries (λ x t. t)
        (λ x there p t. (let both_are : Some x ≡ Some e = sym there ∙ found in let same : x ≡ e = cc in subst (λ (y : Entry). IsTidy busy y → IsTidy busy (change y)) (sym same) (k f) t)) h

  all_rts_heard : (own foreign link : ℕ) (l : Option Listener) (d : DeskState) → Ends d → Ends (rts_heard own foreign link stamp l d)
  all_rts_heard own foreign link None d h = all_refused own foreign d h
  all_rts_heard own foreign link (Some l) d h =
      each_more (IsTidy busy) d.entries (asked_on_link stamp link (sending_end own foreign l.size)) h (refl, (λ c. absurd (let no : false ≡ true = c in cc)), (λ r s. refl))

  all_rts_by : (own foreign link : ℕ) (o : Option Entry) (d : DeskState) → entry_at own foreign d.entries ≡ o → Ends d → Ends (rts_taken_by peer own foreign link stamp o d)
  all_rts_by own foreign link None d f h = all_rts_heard own foreign link (listener_on own d.listening) d h
  all_rts_by own foreign link (Some e) d f h = all_matched own foreign (command.Rts foreign own link) e (asked_on_link stamp link) d f (asked_link busy stamp link e) h

  all_rts : (own foreign link : ℕ) (d : DeskState) → Ends d → Ends (rts_taken peer own foreign link stamp d)
  all_rts own foreign link d h =
      ends_if (list_any (sends_on link) d.entries) (commands.faulted ERRONEOUS (command.Rts foreign own link) d) (rts_taken_by peer own foreign link stamp (entry_at own foreign d.entries) d)
      h (all_rts_by own foreign link (entry_at own foreign d.entries) d refl h)

  all_str_linked : (own foreign size : ℕ) (o : Option ℕ) (d : DeskState) → Ends d → Ends (str_linked own foreign size stamp o d)
  all_str_linked own foreign size None d h = all_refused own foreign d h
  all_str_linked own foreign size (Some link) d h =
      each_more (IsTidy busy) d.entries (asked_with_size stamp size (receiving_end own foreign link)) h (refl, (λ c. absurd (let no : false ≡ true = c in cc)), (λ r s. refl))

  all_str_heard : (own foreign size : ℕ) (l : Option Listener) (d : DeskState) → Ends d → Ends (str_heard own foreign size stamp l d)
  all_str_heard own foreign size None d h = all_refused own foreign d h
  all_str_heard own foreign size (Some l) d h = all_str_linked own foreign size (free_link d.entries) d h

  all_str_by : (own foreign size : ℕ) (o : Option Entry) (d : DeskState) → entry_at own foreign d.entries ≡ o → Ends d → Ends (str_taken_by peer own foreign size stamp o d)
  all_str_by own foreign size None d f h = all_str_heard own foreign size (listener_on own d.listening) d h
  all_str_by own foreign size (Some e) d f h = all_matched own foreign (command.Str foreign own size) e (asked_with_size stamp size) d f (λ none t. (t.0, t.1, (λ r l. refl))) h

  all_cls : (own foreign : ℕ) (o : Option Entry) (d : DeskState) → Ends d → Ends (cls_taken_by peer busy own foreign o d)
  all_cls own foreign None d h = h
  all_cls own foreign (Some e) d h =
      ends_if e.partner_closed d (swept peer (settled busy (changed (is_at own foreign) closed_by_partner d))) h
      (all_swept (settled busy (changed (is_at own foreign) closed_by_partner d))
      (all_settled (changed (is_at own foreign) closed_by_partner d)
      (each_changed (IsTidy busy) (λ x. IsShut x × IsLinked x) (is_at own foreign) closed_by_partner d.entries (λ x t. (t.1, t.2)) (λ x f p t. ((λ c. (off_due x.closing, refl)), t.2)) h)))

  all_at : (c : Command) (change : Entry → DeskState → DeskState) (f : Found) (d : DeskState) → ((e : Entry) → Ends (change e d)) → Ends d → Ends (at_end c change f d)
  all_at c change Unconnected d k h = h
  all_at c change Ending d k h = h
  all_at c change (Open e) d k h = k e

  all_ret : (link messages bits : ℕ) (e : Entry) (d : DeskState) → Ends d → Ends (ret_taken link messages bits e d)
  all_ret link messages bits e d h = ends_if _ _ _ (same_changed (receives_on link) (commands.returned messages bits) d (λ x t. t) h) h

  pub all_taken : (c : Command) (d : DeskState) → Ends d → Ends (desk_taken peer busy stamp c d)
  all_taken (command.Rts receive send link) d h = all_rts send receive link d h
  all_taken (command.Str send receive size) d h = all_str_by receive send size (entry_at receive send d.entries) d refl h
  all_taken (command.Cls own foreign) d h = all_cls foreign own (entry_at foreign own d.entries) d h
  all_taken (command.All link messages bits) d h = all_at (command.All link messages bits) (commands.all_taken link messages bits) (sender_on link d) d (λ e. same_changed (sends_on link) (commands.granted messages bits) d (λ x t. t) h) h
  all_taken (command.Gvb link messages bits) d h = all_at (command.Gvb link messages bits) (commands.gvb_taken link messages bits) (sender_on link d) d (λ e. same_changed (sends_on link) (commands.given_back messages bits) d (λ x t. t) h) h
  all_taken (command.Ret link messages bits) d h = all_at (command.Ret link messages bits) (ret_taken link messages bits) (receiver_on link d) d (λ e. all_ret link messages bits e d h) h
  all_taken (command.Inr link) d h = all_at (command.Inr link) commands.interrupted (sender_on link d) d (λ e. h) h
  all_taken (command.Ins link) d h = all_at (command.Ins link) commands.interrupted (receiver_on link d) d (λ e. h) h
  all_taken c d h = h

  -- ---- data

  all_arrived : (link : ℕ) (e : Entry) (text : List Bool) (o : Option DataHeader) (d : DeskState) → Ends d → Ends (arrived_if link e text o d)
  all_arrived link e text None d h = h
  all_arrived link e text (Some g) d h = ends_if (is_acceptable e g) (arrived link e (data_bits g) text d) (text_faulted ERRONEOUS text d) (same_changed (receives_on link) (spent (data_bits g)) d (λ x t. t) h) h

  all_data : (link : ℕ) (text : List Bool) (d : DeskState) → Ends d → Ends (data_taken link text d)
  all_data link text d h = by (receiver_on link d) where
    by : (f : Found) → Ends (data_found link text f d)
    by Unconnected = h
    by Ending = h
    by (Open e) = all_arrived link e text (header_of text) d h

-- ---- a turn

abbrev pub IsTidyPair : PairState → Type 0
IsTidyPair q = Each (IsTidy q.busy) q.entries

-- without ends
none_left : (q : PairState) → q.entries ≡ [] → IsTidyPair q
none_left q none = subst (λ (es : List Entry). Each (IsTidy q.busy) es) (sym none) tt

module _ (peer : Host) (stamp : ℕ) where
  turn_ready : (work : DeskState → DeskState) (t : TurnState) → Each (IsTidy t.pair.busy) (work (desk_of t.pair t.listening)).entries → IsTidyPair t.pair → IsTidyPair (if_ready work t).pair
  turn_ready work t k h = by (is_ready t.pair.phase) where
    by : (b : Bool) → IsTidyPair (if b then with_desk t (work (desk_of t.pair t.listening)) else t).pair
    by true = k
    by false = h

  turn_command : (c : Command) (t : TurnState) → IsTidyPair t.pair → IsTidyPair (command_taken peer stamp c t).pair
  turn_command command.Rst t h = tt
  turn_command command.Rrp t h = h
  turn_command c t h = turn_ready (desk_taken peer t.pair.busy stamp c) t (all_taken peer t.pair.busy stamp c (desk_of t.pair t.listening) h) h

  turn_orders : (os : List Order) (t : TurnState) → IsTidyPair t.pair → IsTidyPair (orders_taken peer stamp os t).pair
  turn_orders [] t h = h
  turn_orders (Legal c ∷ os) t h = turn_orders os (order_taken peer stamp (Legal c) t) (turn_command c t h)
  turn_orders (Wrong code octets ∷ os) t h = turn_orders os (order_taken peer stamp (Wrong code octets) t) (turn_ready (command_queued (error code octets)) t h h)

  pub turn_message : (link : ℕ) (text : List Bool) (t : TurnState) → IsTidyPair t.pair → IsTidyPair (message_taken peer stamp link text t).pair
  turn_message link text t h = by (link == 0) where
    by : (b : Bool) → IsTidyPair (if b then orders_taken peer stamp (orders_of text) t else if_ready (data_taken link text) t).pair
    by true = turn_orders (orders_of text) t h
    by false = turn_ready (data_taken link text) t (all_data peer t.pair.busy stamp link text (desk_of t.pair t.listening) h) h

  -- an answer: a pair that isn't ready has no ends
  turn_settled : (t : TurnState) → Each (λ e. IsShut e × IsLinked e) t.pair.entries → IsTidyPair (settled_turn t).pair
  turn_settled t h = all_settled peer t.pair.busy stamp (desk_of t.pair t.listening) h

  turn_failed : (p : Phase) (t : TurnState) → t.pair.phase ≡ p → (is_ready t.pair.phase ≡ false → t.pair.entries ≡ []) → IsTidyPair (failed_by peer p t).pair
  turn_failed phase.Closed t is idle = none_left t.pair (idle (ap is_ready is))
  turn_failed phase.Want t is idle = none_left t.pair (idle (ap is_ready is))
  turn_failed p t is idle = tt

  pub turn_answer : (kind : Answer) (link : ℕ) (t : TurnState) → (is_ready t.pair.phase ≡ false → t.pair.entries ≡ []) → IsTidyPair t.pair → IsTidyPair (answered_turn peer kind link t).pair
  turn_answer kind link t idle h = by kind where
    rest : Each (λ e. IsShut e × IsLinked e) t.pair.entries
    rest = each_weaker (IsTidy t.pair.busy) (λ e. IsShut e × IsLinked e) t.pair.entries (λ e k. (k.1, k.2)) h

    lost : (b : Bool) → IsTidyPair (if b then failed_by peer t.pair.phase (record t { pair = freed link t.pair }) else settled_turn (record t { pair = freed link t.pair })).pair
    lost true = turn_failed t.pair.phase (record t { pair = freed link t.pair }) refl idle
    lost false = turn_settled (record t { pair = freed link t.pair }) rest

    by : (k : Answer) → IsTidyPair (answered_turn peer k link t).pair
    by answer.Rfnm = turn_settled (record t { pair = record (freed link t.pair) { phase = rfnm_phase link t.pair.phase } }) rest
    by k = lost (is_gone t.pair.phase || not t.pair.owed)

  -- what goes out
  all_gone : (busy : List ℕ) (cs : List Command) (d : DeskState) → Each (IsTidy busy) d.entries → Each (IsTidy busy) (commands_gone peer stamp cs d).entries
  all_gone busy [] d h = h
  all_gone busy (c ∷ cs) d h = all_gone busy cs (command_gone peer stamp c d) (one c) where
    one : (c : Command) → Each (IsTidy busy) (command_gone peer stamp c d).entries
    one (command.Rts receive send link) = same_changed peer busy stamp (is_at receive send) (asked_at stamp) d (λ e t. t) h
    one (command.Str send receive size) = same_changed peer busy stamp (is_at send receive) (asked_at stamp) d (λ e t. t) h
    one (command.Cls own foreign) =
        all_swept peer busy stamp (changed (is_at own foreign) cls_sent d) (same_changed peer busy stamp (is_at own foreign) cls_sent d (λ e t. (refl, (λ c. (refl, (t.1 c).1)), t.2)) h)
    one c = h

  pub turn_parcel : (x : Parcel) (q : PairState) (listening : List Listener) → IsTidyPair q → IsTidyPair (pair_after x q (parcel_gone peer stamp q.busy x (desk_of q listening)))
  turn_parcel Reset q listening h = each_weaker (IsTidy q.busy) (IsTidy (0 ∷ q.busy)) q.entries (busier 0 q.busy) h
  turn_parcel Reply q listening h = each_weaker (IsTidy q.busy) (IsTidy (0 ∷ q.busy)) q.entries (busier 0 q.busy) h
  turn_parcel (Commands count) q listening h =
      each_weaker (IsTidy q.busy) (IsTidy (0 ∷ q.busy)) (commands_gone peer stamp (take count q.queue) (desk_of q listening)).entries (busier 0 q.busy) (all_gone q.busy (take count q.queue) (desk_of q listening) h)
  turn_parcel (Bytes e size count) q listening h =
      each_changed (IsTidy q.busy) (IsTidy (link_of e.link ∷ q.busy)) (may_send_on q.busy (link_of e.link)) (bits_gone (size * count)) q.entries (busier (link_of e.link) q.busy)
      (λ x f may t. gone_bits q.busy (link_of e.link) (size * count) x may t) h

-- ---- what a user asks for

pub asks_send : (own foreign size : ℕ) (c : Command) (q : PairState) → IsTidyPair q → IsTidyPair (requested (sending_end own foreign size) c q)
asks_send own foreign size c q h = each_more (IsTidy q.busy) q.entries (sending_end own foreign size) h (refl, (λ c. absurd (let no : false ≡ true = c in cc)), (λ r l. l))

pub asks_receive : (own foreign : ℕ) (o : Option ℕ) (q : PairState) → is_receive_socket own ≡ true → IsTidyPair q → IsTidyPair (receiver_requested own foreign o q)
asks_receive own foreign None q even h = h
asks_receive own foreign (Some link) q even h =
    each_more (IsTidy q.busy) q.entries (receiving_end own foreign link) h (refl, (λ c. absurd (let no : false ≡ true = c in cc)), (λ r l. absurd (unlike (is_receive_socket own) even r)))

pub gives : (socket : ℕ) (bits : List Bool) (e : Entry) (q : PairState) → find (is_mine_on socket) q.entries ≡ Some e → is_open e ≡ true → IsTidyPair q → IsTidyPair (with_end socket (with_more_bits bits) q)
gives socket bits e q found o h =
    each_changed (IsTidy q.busy) (IsTidy q.busy) (is_mine_on socket) (with_more_bits bits) q.entries (λ x t. t)
    (λ x f p t. (let both_are : Some e ≡ Some x = sym found ∙ f in let same : e ≡ x = cc in more_bits q.busy bits x (subst (λ (y : Entry). is_open y ≡ true) same o) t)) h

pub grants : (socket messages bits : ℕ) (q : PairState) → IsTidyPair q → IsTidyPair (with_end socket (commands.granted messages bits) q)
grants socket messages bits q h = each_changed (IsTidy q.busy) (IsTidy q.busy) (is_mine_on socket) (commands.granted messages bits) q.entries (λ x t. t) (λ x f p t. t) h

pub closes_end : (socket : ℕ) (q : PairState) → IsTidyPair q → IsTidyPair (closed_end socket q)
closes_end socket q h =
    each_mapped (λ e. IsShut e × IsLinked e) (IsTidy q.busy) (λ e. closed_when (must_close q.busy e) e) (with_end socket called_off q).entries (settles q.busy)
    (each_changed (IsTidy q.busy) (λ e. IsShut e × IsLinked e) (is_mine_on socket) called_off q.entries (λ e t. (t.1, t.2)) (λ e f p t. ((λ c. (off_due e.closing, (t.1 c).1)), t.2)) h)
