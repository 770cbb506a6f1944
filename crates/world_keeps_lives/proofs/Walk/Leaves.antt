-- One walk over all that a host does with a peer, for a predicate on its ends and one on what it reports: what has to be shown at each leaf, and that each call
-- keeps it then.
use Rattle.world_keeps_lives.proofs.Common.{Allocation, ◌≡◌, ℕ, zero, suc, ◌*◌, Bool, false, not, ◌||◌, if◌then◌else◌, List, [], ◌∷◌, ◌++◌, filter, find, take, Option, Some, None, is_some, refl, true, ap, arith, sym, ◌∙◌, Contains, list_any, flat_map, Host, Answer, IsCommand, spelling, data_bits, header_of, is_receive_socket, is_send_socket, Command, DataHeader, ERRONEOUS, Legal, NOT_CONNECTED, NO_SOCKET, Order, Wrong, error, DeskState, command_queued, desk_of, desk_told, listener_on, settled, swept, PairState, is_ready, Entry, Listener, Notice, Phase, AreCommands, AreOrders, IsOrder, Closing}
use Rattle.host_pairs.specs.Commands.{Ending, Open, Unconnected, asked_on_link, asked_with_size, at_end, changed, cls_taken_by, gvb_taken, interrupted, matched_once, ret_taken, rts_heard, rts_taken, rts_taken_by, str_heard, str_linked, str_taken_by, desk_taken, Found, all_taken, receiver_on, sender_on}
use Rattle.host_pairs.specs.Asked.{closed_end, receiver_requested, requested, with_end}
use Rattle.host_pairs.specs.Data.{arrived, arrived_if, data_found, data_of, data_taken, is_acceptable, spent, text_faulted}
use Rattle.host_pairs.specs.Entries.{called_off, changed_first, closed_by_partner, closed_when, ending, entry_at, free_link, is_at, is_ending, is_mine_on, is_open, is_over, must_close, opening_by, opening_notices, receives_on, receiving_end, refused_end, sending_end, sends_on, is_sent, close_due}
use Rattle.host_pairs.specs.Parcels.{Parcel, asked_at, bits_gone, cls_sent, command_gone, commands_gone, may_send_on, pair_after, parcel_gone, link_of}
use Rattle.host_pairs.specs.Turn.{TurnState, answered_turn, closed, command_taken, failed, failed_by, freed, if_ready, is_gone, order_taken, orders_taken, reply_notices, reset_notices, settled_turn, with_desk}
use Rattle.std.specs.Prelude.{◌≤◌, ◌-◌}
use Rattle.ncp_control.specs.Allocation as counters
use Rattle.bit_messages.specs.Octets.{octets_of}
use Rattle.interface.specs.declared.crossing.Answer.TheVariants as answer
use Rattle.ncp_control.specs.declared.command.Command.TheVariants as command
use Rattle.host_pairs.specs.Commands as commands
use Rattle.host_pairs.specs.Parcels as parcel
use Rattle.host_pairs.specs.declared.entry.Closing.TheVariants as closing
use Rattle.host_pairs.specs.declared.notice.Notice.TheVariants as notice
use Rattle.ncp_control.specs.declared.phase.Phase.TheVariants as phase
use Rattle.world_keeps_lives.proofs.Walk.Rules.{Each, IsOther, Quiet, each_append, each_changed, each_filter, each_first, each_map, each_of, found_in, quiet_when}
use Rattle.host_keeps_pairing.proofs.lemmas.{sockets_of, due_still}

-- ---- what has to be shown, leaf by leaf

-- counters with no more in them
pub record IsNoMore (a b : Allocation) : Type 0 where
  pub messages : b.messages ≤ a.messages
  pub bits : b.bits ≤ a.bits

pub no_more : (a : Allocation) → IsNoMore a a
no_more a = record { messages = omega arith; bits = omega arith }

-- a change that names no request, says and hears no CLS and grants nothing
pub record Plain (e f : Entry) : Type 0 where
  pub quiet : Quiet e f
  pub allocation : IsNoMore e.allocation f.allocation
  pub unsent : is_sent e.closing ≡ false → is_sent f.closing ≡ false
  pub unheard : e.partner_closed ≡ false → f.partner_closed ≡ false

pub quiet_bits : (e : Entry) (bits : List Bool) (allocation : Allocation)
    → Quiet e (record e { bits = bits; allocation = allocation })
quiet_bits e bits allocation = record {
  own = refl;
  foreign = refl;
  mine = refl;
  asked = refl;
  partner = refl;
  link = refl;
  closing = λ c. c;
  off = λ c. c;
}

pub plain_bits : (e : Entry) (bits : List Bool) (allocation : Allocation) → IsNoMore e.allocation allocation
    → Plain e (record e { bits = bits; allocation = allocation })
plain_bits e bits allocation less = record {
  quiet = quiet_bits e bits allocation;
  allocation = less;
  unsent = λ u. u;
  unheard = λ u. u;
}

-- counters that lose something
pub plain_lost : (e : Entry) (bits : List Bool) (m n : ℕ)
    → Plain e (record e
    { bits = bits; allocation = record { messages = e.allocation.messages - m; bits = e.allocation.bits - n } })
plain_lost e bits m n = plain_bits e bits _ (record { messages = omega arith; bits = omega arith })

plain_when : (b : Bool) (e : Entry) → Plain e (closed_when b e)
plain_when true e = record { quiet = quiet_when true e; allocation = no_more e.allocation; unsent = λ u. refl; unheard = λ u. u }
plain_when false e = record { quiet = quiet_when false e; allocation = no_more e.allocation; unsent = λ u. u; unheard = λ u. u }

due_unsent : (c : Closing) → is_sent c ≡ false → is_sent (close_due c) ≡ false
due_unsent closing.No u = refl
due_unsent c u = u

plain_due : (e : Entry) → Plain e (called_off e)
plain_due e = record {
  quiet = record { own = refl; foreign = refl; mine = refl; asked = refl; partner = refl; link = refl; closing = λ c. due_still e.closing c; off = λ c. c };
  allocation = no_more e.allocation;
  unsent = due_unsent e.closing;
  unheard = λ u. u;
}

-- the partner's CLS calls an end off too, and leaves its own CLS unsent
pub off_unsent : (e : Entry) → is_sent e.closing ≡ false → is_sent (closed_by_partner e).closing ≡ false
off_unsent e u = due_unsent e.closing u

abbrev pub IsUnended : Notice → Type 0
IsUnended (notice.Ended socket peer foreign) = ⊥
IsUnended n = Unit {0}

-- whatever a host does
pub record Leaves (P : Entry → Type 0) (N : Notice → Type 0) (peer : Host) : Type 0 where
  pub plain : (e f : Entry) → Plain e f → P e → P f
  pub others : (n : Notice) → IsOther n → IsUnended n → N n
  pub ends : (e : Entry) → P e → is_over e ≡ true → N (notice.Ended e.own peer e.foreign)
  pub opens : (e : Entry) (a b : ℕ) → P e → e.asked ≡ Some a → e.partner ≡ Some b → is_ending e ≡ false → N (notice.Opened e.own peer e.foreign a b)
  pub returns : (e : Entry) (messages bits : ℕ) → P e → is_open e ≡ true → N (notice.Returned e.own messages bits)

-- where ends begin
pub record Starts (P : Entry → Type 0) : Type 0 where
  pub fresh : (e : Entry) → e.mine ≡ true → e.asked ≡ None → e.partner ≡ None → e.closing ≡ closing.No
      → e.allocation ≡ counters.nothing → P e
  pub refused : (own foreign stamp : ℕ) → P (refused_end own foreign stamp)

-- what it hears at this place. A request is taken for an end that has none of its partner yet
pub record HearsAll (P : Entry → Type 0) (stamp : ℕ) (orders : List Order) : Type 0 where
  pub begins : Starts P
  pub rts : (own foreign link : ℕ) (e : Entry) → Contains orders (Legal (command.Rts foreign own link))
      → is_receive_socket foreign ≡ true → is_send_socket own ≡ true → e.own ≡ own → e.foreign ≡ foreign
      → e.partner ≡ None → P e → P (asked_on_link stamp link e)
  pub str : (own foreign size : ℕ) (e : Entry) → Contains orders (Legal (command.Str foreign own size))
      → is_send_socket foreign ≡ true → is_receive_socket own ≡ true → e.own ≡ own → e.foreign ≡ foreign
      → e.partner ≡ None → P e → P (asked_with_size stamp size e)
  pub cls : (e : Entry) → P e → P (closed_by_partner e)
  pub all : (link messages bits : ℕ) (e : Entry) → Contains orders (Legal (command.All link messages bits))
      → sends_on link e ≡ true → P e → P (commands.granted messages bits e)

-- what it says at this place
pub record GoesAll (P : Entry → Type 0) (stamp : ℕ) (cs : List Command) : Type 0 where
  pub rts : (own foreign link : ℕ) (e : Entry) → Contains cs (command.Rts own foreign link) → is_receive_socket own ≡ true → e.own ≡ own → e.foreign ≡ foreign → P e → P (asked_at stamp e)
  pub str : (own foreign size : ℕ) (e : Entry) → Contains cs (command.Str own foreign size) → is_send_socket own ≡ true → e.own ≡ own → e.foreign ≡ foreign → P e → P (asked_at stamp e)
  pub cls : (e : Entry) → P e → P (cls_sent e)

-- ---- the walk

module _ (P : Entry → Type 0) (N : Notice → Type 0) (peer : Host) (leaves : Leaves P N peer) where
  -- ---- a desk

  pub record Good (d : DeskState) : Type 0 where
    pub ends : Each P d.entries
    pub told : Each N d.notices

  good_queued : (c : Command) (d : DeskState) → Good d → Good (command_queued c d)
  good_queued c d h = record { ends = h.ends; told = h.told }

  pub good_told : (ns : List Notice) (d : DeskState) → Each N ns → Good d → Good (desk_told ns d)
  good_told ns d k h = record { ends = h.ends; told = each_append N d.notices ns h.told k }

  pub good_if : (b : Bool) (d e : DeskState) → Good d → Good e → Good (if b then d else e)
  good_if true d e h k = h
  good_if false d e h k = k

  pub good_changed : (test : Entry → Bool) (change : Entry → Entry) (d : DeskState) → ((e : Entry) → test e ≡ true → P e → P (change e)) → Good d → Good (changed test change d)
  good_changed test change d k h = record { ends = each_changed P test change d.entries k h.ends; told = h.told }

  pub good_settled : (busy : List ℕ) (d : DeskState) → Good d → Good (settled busy d)
  good_settled busy d h = record { ends = each_map P _ d.entries (λ e i. leaves.plain e (closed_when (must_close busy e) e) (plain_when _ e) i) h.ends; told = h.told }

  -- each end that goes is reported
  all_ended : (es : List Entry) → Each P es → Each N (flat_map (ending peer) (filter is_over es))
  all_ended [] h = tt
  all_ended (e ∷ es) h = by (is_over e) refl (all_ended es h.1) where
    by : (b : Bool) → is_over e ≡ b → Each N (flat_map (ending peer) (filter is_over es))
        → Each N (flat_map (ending peer) (if b then e ∷ filter is_over es else filter is_over es))
    by true over rest = own e.mine where
      own : (b : Bool)
          → Each N ((if b then notice.Ended e.own peer e.foreign ∷ [] else []) ++ flat_map (ending peer) (filter is_over es))
      own true = (leaves.ends e h.0 over, rest)
      own false = rest
    by false over rest = rest

  pub good_swept : (d : DeskState) → Good d → Good (swept peer d)
  good_swept d h = record { ends = each_filter P _ d.entries h.ends; told = each_append N d.notices _ h.told (all_ended d.entries h.ends) }

  opening_told : (e : Entry) (x y : Option ℕ) → P e → e.asked ≡ x → e.partner ≡ y → Each N (opening_by peer e x y)
  opening_told e None y i f g = tt
  opening_told e (Some a) None i f g = tt
  opening_told e (Some a) (Some b) i f g = by (is_ending e) refl where
    by : (z : Bool) → is_ending e ≡ z → Each N (if z then [] else notice.Opened e.own peer e.foreign a b ∷ [])
    by true t = tt
    by false t = (leaves.opens e a b i f g t, tt)

  found_told : (o : Option Entry) → ((e : Entry) → o ≡ Some e → P e) → Each N (opening_notices peer o)
  found_told None k = tt
  found_told (Some e) k = opening_told e e.asked e.partner (k e refl) refl refl

  -- a request is there now, and an opening is reported by it
  pub good_opening : (own foreign : ℕ) (change : Entry → Entry) (d : DeskState)
      → ((e : Entry) → entry_at own foreign d.entries ≡ Some e → is_at own foreign e ≡ true → P e → P (change e))
      → Good d
      → Good (desk_told (opening_notices peer (entry_at own foreign (changed_first (is_at own foreign) change d.entries))) (changed (is_at own foreign) change d))
  good_opening own foreign change d k h =
      let now : Good (changed _ change d) = record {
        ends = each_first P P _ change d.entries (λ e i. i) k h.ends;
        told = h.told;
      } in
      good_told _ _
      (found_told _ (λ e f. found_in P (is_at own foreign) (changed_first (is_at own foreign) change d.entries) e f now.ends)) now

  -- ---- what is heard

  good_fault : (code : ℕ) (c : Command) (d : DeskState) → Good d → Good (commands.faulted code c d)
  good_fault code c d h = good_queued _ d h

  good_refused : Starts P → (own foreign stamp : ℕ) (d : DeskState) → Good d → Good (commands.refused own foreign stamp d)
  good_refused begins own foreign stamp d h = record { ends = each_append P d.entries _ h.ends (begins.refused own foreign stamp, tt); told = h.told }

  none_is : (o : Option ℕ) → is_some o ≡ false → o ≡ None
  none_is None e = refl
  none_is (Some n) e = absurd (let no : true ≡ false = e in cc)

  good_matched : (own foreign : ℕ) (c : Command) (e : Entry) (change : Entry → Entry) (d : DeskState)
      → entry_at own foreign d.entries ≡ Some e
      → ((x : Entry) → is_at own foreign x ≡ true → x.partner ≡ None → P x → P (change x)) → Good d
      → Good (matched_once peer own foreign c e change d)
  good_matched own foreign c e change d found k h = by (is_some e.partner) refl where
    by : (b : Bool) → is_some e.partner ≡ b
        → Good (if b then commands.faulted ERRONEOUS c d else commands.matched peer own foreign change d)
    by true i = good_fault ERRONEOUS c d h
    by false i = good_opening own foreign change d
        (λ x f t j.
        (let same : Some e ≡ Some x = sym found ∙ f in
        let is : e ≡ x = cc in
        k x t (ap (λ (y : Entry). y.partner) (sym is) ∙ none_is e.partner i) j)) h

  good_at : (c : Command) (change : Entry → DeskState → DeskState) (f : Found) (d : DeskState) → ((e : Entry) → Good (change e d)) → Good d → Good (at_end c change f d)
  good_at c change Unconnected d k h = good_fault NOT_CONNECTED c d h
  good_at c change Ending d k h = h
  good_at c change (Open e) d k h = k e

  good_plain : (test : Entry → Bool) (change : Entry → Entry) (d : DeskState) → ((e : Entry) → Plain e (change e)) → Good d → Good (changed test change d)
  good_plain test change d q h = good_changed test change d (λ e t i. leaves.plain e (change e) (q e) i) h

  -- ---- a turn

  pub record GoodTurn (t : TurnState) : Type 0 where
    pub ends : Each P t.pair.entries
    pub told : Each N t.notices

  turn_desk : (t : TurnState) (d : DeskState) → GoodTurn t → Good d → GoodTurn (with_desk t d)
  turn_desk t d h k = record { ends = k.ends; told = each_append N t.notices d.notices h.told k.told }

  pub turn_ready : (work : DeskState → DeskState) (t : TurnState) → (Good (desk_of t.pair t.listening) → Good (work (desk_of t.pair t.listening))) → GoodTurn t → GoodTurn (if_ready work t)
  turn_ready work t k h = by (is_ready t.pair.phase) where
    by : (b : Bool) → GoodTurn (if b then with_desk t (work (desk_of t.pair t.listening)) else t)
    by true = turn_desk t (work (desk_of t.pair t.listening)) h (k (record { ends = h.ends; told = tt }))
    by false = h

  reset_told : (p : Phase) → Each N (reset_notices peer p)
  reset_told phase.Closed = (leaves.others _ tt tt, tt)
  reset_told phase.Ready = (leaves.others _ tt tt, tt)
  reset_told p = tt

  reply_told : (p : Phase) → Each N (reply_notices peer p)
  reply_told phase.Heard = (leaves.others _ tt tt, tt)
  reply_told p = tt

  module _ (stamp : ℕ) (orders : List Order) (hears : HearsAll P stamp orders) where
    good_cls : (busy : List ℕ) (own foreign : ℕ) (o : Option Entry) (d : DeskState) → Good d → Good (cls_taken_by peer busy own foreign o d)
    good_cls busy own foreign None d h = good_fault NO_SOCKET (command.Cls foreign own) d h
    good_cls busy own foreign (Some e) d h =
        good_if e.partner_closed d _ h
        (good_swept _ (good_settled busy _ (good_changed _ closed_by_partner d (λ e t i. hears.cls e i) h)))

    good_rts_heard : (own foreign link : ℕ) (l : Option Listener) (d : DeskState) → Contains orders (Legal (command.Rts foreign own link)) → is_receive_socket foreign ≡ true → is_send_socket own ≡ true → Good d → Good (rts_heard own foreign link stamp l d)
    good_rts_heard own foreign link None d there even odd h = good_refused hears.begins own foreign stamp d h
    good_rts_heard own foreign link (Some l) d there even odd h = record {
      ends = each_append P d.entries _ h.ends (hears.rts own foreign link (sending_end own foreign l.size) there even odd refl refl refl (hears.begins.fresh (sending_end own foreign l.size) refl refl refl refl refl), tt);
      told = h.told;
    }

    good_rts_by : (own foreign link : ℕ) (o : Option Entry) (d : DeskState) → entry_at own foreign d.entries ≡ o
        → Contains orders (Legal (command.Rts foreign own link)) → is_receive_socket foreign ≡ true
        → is_send_socket own ≡ true → Good d → Good (rts_taken_by peer own foreign link stamp o d)
    good_rts_by own foreign link None d f there even odd h = good_rts_heard own foreign link _ d there even odd h
    good_rts_by own foreign link (Some e) d f there even odd h =
        good_matched own foreign (command.Rts foreign own link) e _ d f
        (λ x t none i. hears.rts own foreign link x there even odd (sockets_of own foreign x t).0 (sockets_of own foreign x t).1 none i) h

    good_rts : (own foreign link : ℕ) (d : DeskState) → Contains orders (Legal (command.Rts foreign own link)) → is_receive_socket foreign ≡ true → is_send_socket own ≡ true → Good d → Good (rts_taken peer own foreign link stamp d)
    good_rts own foreign link d there even odd h =
        good_if _ _ _
        (good_fault ERRONEOUS (command.Rts foreign own link) d h) (good_rts_by own foreign link _ d refl there even odd h)

    good_str_linked : (own foreign size : ℕ) (l : Option ℕ) (d : DeskState) → Contains orders (Legal (command.Str foreign own size)) → is_send_socket foreign ≡ true → is_receive_socket own ≡ true → Good d → Good (str_linked own foreign size stamp l d)
    good_str_linked own foreign size None d there odd even h = good_refused hears.begins own foreign stamp d h
    good_str_linked own foreign size (Some link) d there odd even h = record {
      ends = each_append P d.entries _ h.ends (hears.str own foreign size (receiving_end own foreign link) there odd even refl refl refl (hears.begins.fresh (receiving_end own foreign link) refl refl refl refl refl), tt);
      told = h.told;
    }

    good_str_heard : (own foreign size : ℕ) (l : Option Listener) (d : DeskState) → Contains orders (Legal (command.Str foreign own size)) → is_send_socket foreign ≡ true → is_receive_socket own ≡ true → Good d → Good (str_heard own foreign size stamp l d)
    good_str_heard own foreign size None d there odd even h = good_refused hears.begins own foreign stamp d h
    good_str_heard own foreign size (Some l) d there odd even h = good_str_linked own foreign size _ d there odd even h

    good_str_by : (own foreign size : ℕ) (o : Option Entry) (d : DeskState) → entry_at own foreign d.entries ≡ o
        → Contains orders (Legal (command.Str foreign own size)) → is_send_socket foreign ≡ true
        → is_receive_socket own ≡ true → Good d → Good (str_taken_by peer own foreign size stamp o d)
    good_str_by own foreign size None d f there odd even h = good_str_heard own foreign size _ d there odd even h
    good_str_by own foreign size (Some e) d f there odd even h =
        good_matched own foreign (command.Str foreign own size) e _ d f
        (λ x t none i. hears.str own foreign size x there odd even (sockets_of own foreign x t).0 (sockets_of own foreign x t).1 none i) h

    good_ret : (link messages bits : ℕ) (e : Entry) (d : DeskState) → P e → is_open e ≡ true → Good d → Good (ret_taken link messages bits e d)
    good_ret link messages bits e d i o h =
        good_if _ _ _ (good_told _ _ (leaves.returns e messages bits i o, tt) (good_plain _ _ d (λ x. plain_lost x _ _ _) h))
        (good_fault ERRONEOUS (command.Ret link messages bits) d h)

    -- only an open end is given something back
    ret_found : (link messages bits : ℕ) (d : DeskState) (o : Option Entry) → find (receives_on link) d.entries ≡ o → Good d → Good (at_end (command.Ret link messages bits) (ret_taken link messages bits) (commands.found_in o) d)
    ret_found link messages bits d None f h = good_fault NOT_CONNECTED (command.Ret link messages bits) d h
    ret_found link messages bits d (Some e) f h = by (is_open e) refl (is_ending e) where
      by : (b : Bool) → is_open e ≡ b → (c : Bool) → Good (at_end (command.Ret link messages bits) (ret_taken link messages bits) (if b then Open e else (if c then Ending else Unconnected)) d)
      by true o c = good_ret link messages bits e d (found_in P (receives_on link) d.entries e f h.ends) o h
      by false o true = h
      by false o false = good_fault NOT_CONNECTED (command.Ret link messages bits) d h

    good_taken : (busy : List ℕ) (c : Command) (d : DeskState) → IsOrder (Legal c) → Contains orders (Legal c) → Good d → Good (desk_taken peer busy stamp c d)
    good_taken busy (command.Rts receive send link) d ok there h = good_rts send receive link d there ok.1 ok.3 h
    good_taken busy (command.Str send receive size) d ok there h = good_str_by receive send size _ d refl there ok.1 ok.3 h
    good_taken busy (command.Cls mine yours) d ok there h = good_cls busy yours mine _ d h
    good_taken busy (command.All link messages bits) d ok there h =
        good_at (command.All link messages bits) (all_taken link messages bits) (sender_on link d) d (λ e. good_changed (sends_on link) (commands.granted messages bits) d (λ x t i. hears.all link messages bits x there t i) h) h
    good_taken busy (command.Gvb link messages bits) d ok there h =
        good_at (command.Gvb link messages bits) (gvb_taken link messages bits) (sender_on link d) d
        (λ e. good_queued _ (changed (sends_on link) (commands.given_back messages bits) d) (good_plain (sends_on link) _ d (λ x. plain_lost x _ _ _) h)) h
    good_taken busy (command.Ret link messages bits) d ok there h = ret_found link messages bits d _ refl h
    good_taken busy (command.Inr link) d ok there h = good_at (command.Inr link) interrupted _ d (λ e. good_told _ d (leaves.others _ tt tt, tt) h) h
    good_taken busy (command.Ins link) d ok there h = good_at (command.Ins link) interrupted _ d (λ e. good_told _ d (leaves.others _ tt tt, tt) h) h
    good_taken busy (command.Eco octet) d ok there h = good_queued _ d h
    good_taken busy (command.Erp octet) d ok there h = good_told _ d (leaves.others _ tt tt, tt) h
    good_taken busy (command.Err code detail) d ok there h = good_told _ d (leaves.others _ tt tt, tt) h
    good_taken busy c d ok there h = h

    turn_command : (c : Command) (t : TurnState) → IsOrder (Legal c) → Contains orders (Legal c) → GoodTurn t → GoodTurn (command_taken peer stamp c t)
    turn_command command.Rst t ok there h = record { ends = tt; told = each_append N t.notices _ h.told (reset_told t.pair.phase) }
    turn_command command.Rrp t ok there h = record { ends = h.ends; told = each_append N t.notices _ h.told (reply_told t.pair.phase) }
    turn_command c t ok there h = turn_ready (desk_taken peer t.pair.busy stamp c) t (λ k. good_taken t.pair.busy c (desk_of t.pair t.listening) ok there k) h

    -- one order
    pub turn_order : (o : Order) (t : TurnState) → IsOrder o → Contains orders o → GoodTurn t → GoodTurn (order_taken peer stamp o t)
    turn_order (Legal c) t ok there h = turn_command c t ok there h
    turn_order (Wrong code octets) t ok there h = turn_ready (command_queued (error code octets)) t (λ k. good_queued (error code octets) (desk_of t.pair t.listening) k) h

    turn_orders : (os : List Order) (t : TurnState) → AreOrders os → Each (λ (o : Order). Contains orders o) os → GoodTurn t → GoodTurn (orders_taken peer stamp os t)
    turn_orders [] t ok there h = h
    turn_orders (o ∷ os) t ok there h = turn_orders os (order_taken peer stamp o t) ok.1 there.1 (turn_order o t ok.0 there.0 h)

    -- a message on link 0
    pub turn_all : (t : TurnState) → AreOrders orders → GoodTurn t → GoodTurn (orders_taken peer stamp orders t)
    turn_all t ok h = turn_orders orders t ok (each_of orders) h

  -- ---- what goes out

  module _ (stamp : ℕ) (cs : List Command) (goes : GoesAll P stamp cs) where
    good_gone : (c : Command) (d : DeskState) → IsCommand c → Contains cs c → Good d → Good (command_gone peer stamp c d)
    good_gone (command.Rts receive send link) d ok there h = good_opening receive send _ d (λ x f t i. goes.rts receive send link x there ok.1 (sockets_of receive send x t).0 (sockets_of receive send x t).1 i) h
    good_gone (command.Str send receive size) d ok there h = good_opening send receive _ d (λ x f t i. goes.str send receive size x there ok.1 (sockets_of send receive x t).0 (sockets_of send receive x t).1 i) h
    good_gone (command.Cls own foreign) d ok there h =
        good_swept _ (good_changed _ cls_sent d (λ e t i. goes.cls e i) h)
    good_gone c d ok there h = h

    good_all_gone : (xs : List Command) (d : DeskState) → AreCommands xs → Each (λ (c : Command). Contains cs c) xs → Good d → Good (commands_gone peer stamp xs d)
    good_all_gone [] d ok there h = h
    good_all_gone (c ∷ xs) d ok there h = good_all_gone xs (command_gone peer stamp c d) ok.1 there.1 (good_gone c d ok.0 there.0 h)

    pub good_commands : (d : DeskState) → AreCommands cs → Good d → Good (commands_gone peer stamp cs d)
    good_commands d ok h = good_all_gone cs d ok (each_of cs) h

  some_commands : (n : ℕ) (cs : List Command) → AreCommands cs → AreCommands (take n cs)
  some_commands zero cs h = tt
  some_commands (suc n) [] h = tt
  some_commands (suc n) (c ∷ cs) h = (h.0, some_commands n cs h.1)

  -- what goes out may: of commands each is by the rules, and what is reported of bits is so
  abbrev pub MaySay : ℕ → Parcel → PairState → Type 0
  MaySay stamp parcel.Reset q = Unit {0}
  MaySay stamp parcel.Reply q = Unit {0}
  MaySay stamp (parcel.Commands count) q = GoesAll P stamp (take count q.queue)
  MaySay stamp (parcel.Bytes e size count) q = N (notice.Sent e.own (take (size * count) e.bits))

  pub good_parcel : (stamp : ℕ) (x : Parcel) (q : PairState) (listening : List Listener) → MaySay stamp x q → AreCommands q.queue → Each P q.entries
      → Each P (pair_after x q (parcel_gone peer stamp q.busy x (desk_of q listening))).entries × Each N (parcel_gone peer stamp q.busy x (desk_of q listening)).notices
  good_parcel stamp parcel.Reset q listening may ok h = (h, tt)
  good_parcel stamp parcel.Reply q listening may ok h = (h, tt)
  good_parcel stamp (parcel.Commands count) q listening may ok h =
      let gone : Good (commands_gone peer stamp (take count q.queue) (desk_of q listening)) = good_commands stamp (take count q.queue) may _ (some_commands count q.queue ok) (record { ends = h; told = tt }) in
      (gone.ends, gone.told)
  good_parcel stamp (parcel.Bytes e size count) q listening may ok h = (
    each_changed P _ _ q.entries
        (λ x t i. leaves.plain x (bits_gone (size * count) x) (plain_lost x _ _ _) i) h,
    (may, tt),
  )

  -- ---- data

  good_arrived : (link : ℕ) (e : Entry) (text : List Bool) (o : Option DataHeader) (d : DeskState) → ((k : DataHeader) → o ≡ Some k → N (notice.Arrived e.own (data_of (data_bits k) text))) → Good d → Good (arrived_if link e text o d)
  good_arrived link e text None d k h = good_queued _ d h
  good_arrived link e text (Some header) d k h =
      good_if _ _ _
      (good_told _ _ (k header refl, tt)
      (good_plain _ _ d (λ x. plain_lost x _ _ _) h))
      (good_queued _ d h)

  pub good_data : (link : ℕ) (text : List Bool) (d : DeskState) → ((e : Entry) (k : DataHeader) → find (receives_on link) d.entries ≡ Some e → is_open e ≡ true → header_of text ≡ Some k → N (notice.Arrived e.own (data_of (data_bits k) text))) → Good d → Good (data_taken link text d)
  good_data link text d k h = by (find (receives_on link) d.entries) refl where
    by : (o : Option Entry) → find (receives_on link) d.entries ≡ o → Good (data_found link text (commands.found_in o) d)
    by None f = good_queued (error NOT_CONNECTED (octets_of text)) d h
    by (Some e) f = opened (is_open e) _ refl where
      opened : (a b : Bool) → is_open e ≡ a → Good (data_found link text (if a then Open e else (if b then Ending else Unconnected)) d)
      opened true b g = good_arrived link e text (header_of text) d (λ header t. k e header f g t) h
      opened false true g = h
      opened false false g = good_queued _ d h

  -- ---- answers

  turn_settled : (t : TurnState) → GoodTurn t → GoodTurn (settled_turn t)
  turn_settled t h = turn_desk t _ h (good_settled t.pair.busy _ (record { ends = h.ends; told = tt }))

  turn_closed : (n : Notice) (t : TurnState) → IsOther n → IsUnended n → GoodTurn t → GoodTurn (closed (n ∷ []) t)
  turn_closed n t other unended h = record { ends = tt; told = each_append N t.notices (n ∷ []) h.told (leaves.others n other unended, tt) }

  turn_failed_by : (p : Phase) (t : TurnState) → GoodTurn t → GoodTurn (failed_by peer p t)
  turn_failed_by phase.Closed t h = h
  turn_failed_by phase.Want t h = h
  turn_failed_by (phase.Gone early) t h = turn_closed _ t tt tt h
  turn_failed_by phase.Heard t h = turn_closed _ t tt tt h
  turn_failed_by phase.Ready t h = turn_closed _ t tt tt h

  turn_failed : (t : TurnState) → GoodTurn t → GoodTurn (failed peer t)
  turn_failed t h = by (is_gone t.pair.phase || not t.pair.owed) where
    by : (b : Bool) → GoodTurn (if b then failed_by peer t.pair.phase t else settled_turn t)
    by true = turn_failed_by t.pair.phase t h
    by false = turn_settled t h

  pub turn_answered : (kind : Answer) (link : ℕ) (t : TurnState) → GoodTurn t → GoodTurn (answered_turn peer kind link t)
  turn_answered answer.Rfnm link t h = turn_settled _ (record { ends = h.ends; told = h.told })
  turn_answered kind link t h = turn_failed (record t { pair = freed link t.pair }) (record { ends = h.ends; told = h.told })

  -- ---- what a user asks for

  pub asked_by : (socket : ℕ) (change : Entry → Entry) (q : PairState)
      → ((e : Entry) → is_mine_on socket e ≡ true → P e → P (change e)) → Each P q.entries
      → Each P (with_end socket change q).entries
  asked_by socket change q k h = each_changed P _ change q.entries k h

  pub asked_closed : (socket : ℕ) (q : PairState) → Each P q.entries → Each P (closed_end socket q).entries
  asked_closed socket q h =
      let off : Each P (with_end socket called_off q).entries = asked_by socket called_off q (λ e t i. leaves.plain e (called_off e) (plain_due e) i) h in
      (good_settled q.busy (desk_of (with_end socket called_off q) []) (record { ends = off; told = tt })).ends

  pub asked_new : Starts P → (e : Entry) (c : Command) (q : PairState) → e.mine ≡ true → e.asked ≡ None → e.partner ≡ None → e.closing ≡ closing.No
      → e.allocation ≡ counters.nothing → Each P q.entries → Each P (requested e c q).entries
  asked_new begins e c q mine asked partner unclosed none h = each_append P q.entries (e ∷ []) h (begins.fresh e mine asked partner unclosed none, tt)

  pub asked_receiver : Starts P → (own foreign : ℕ) (link : Option ℕ) (q : PairState) → Each P q.entries → Each P (receiver_requested own foreign link q).entries
  asked_receiver begins own foreign None q h = h
  asked_receiver begins own foreign (Some link) q h = asked_new begins _ (command.Rts own foreign link) q refl refl refl refl refl h
