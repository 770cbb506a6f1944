-- What a pair reports of its peer names that peer.
use Rattle.std.proofs.Common.{ℕ, ◌*◌, ◌==◌, ◌||◌, ◌&&◌, Bool, true, false, not, cond, nat_le, List, [], ◌∷◌, ◌++◌, filter, take, Option, Some, None, is_some, refl}
use Rattle.std.specs.List.{flat_map, list_any}
use Rattle.interface.specs.Host.{Host}
use Rattle.interface.specs.declared.crossing.Answer.{Answer}
use Rattle.interface.specs.declared.crossing.Answer.TheVariants as answer
use Rattle.ncp_control.specs.DataHeader.{header_of, data_bits}
use Rattle.ncp_control.specs.declared.command.Command.{Command}
use Rattle.ncp_control.specs.declared.command.Command.TheVariants as command
use Rattle.ncp_control.specs.declared.data_header.DataHeader.{DataHeader}
use Rattle.host_pairs.specs.Turn.{TurnState, with_desk, if_ready, reset_notices, reply_notices, command_taken, order_taken, orders_taken, message_taken, settled_turn, closed, failed_by, is_gone, failed, answer_taken}
use Rattle.host_pairs.specs.Commands.{faulted, changed, asked_on_link, asked_with_size, matched, matched_once, rts_heard, rts_taken_by, rts_taken, str_linked, str_heard, str_taken_by, closed_once, cls_taken_by, Found, Unconnected, Ending, Open, sender_on, receiver_on, at_end, all_taken, gvb_taken, ret_taken, interrupted, returned, desk_taken}
use Rattle.host_pairs.specs.Control.{Order, Legal, Wrong, orders_of, error, ERRONEOUS}
use Rattle.host_pairs.specs.Data.{is_acceptable, arrived, arrived_if, text_faulted, data_of, data_found, data_taken}
use Rattle.host_pairs.specs.Entries.{is_at, entry_at, changed_at, sends_on, receives_on, is_ending, is_over, opening_by, opening_notices, ending, closed_by_partner, free_link}
use Rattle.host_pairs.specs.About.{AreAbout}
use Rattle.host_pairs.specs.Desk.{DeskState, command_queued, desk_told, settled, swept, desk_of, listener_on}
use Rattle.ncp_control.specs.Phases.{is_ready}
use Rattle.host_pairs.specs.Parcels.{Parcel, Reset, Reply, Commands, Bytes, request_gone, command_gone, commands_gone, parcel_gone, asked_at, cls_sent}
use Rattle.host_pairs.specs.declared.entry.Entry.{Entry}
use Rattle.host_pairs.specs.declared.listener.Listener.{Listener}
use Rattle.host_pairs.specs.declared.notice.Notice.{Notice}
use Rattle.host_pairs.specs.declared.notice.Notice.TheVariants as notice
use Rattle.ncp_control.specs.declared.phase.Phase.{Phase}
use Rattle.ncp_control.specs.declared.phase.Phase.TheVariants as phase

-- ---- lists of notices

about_both : (peer : Host) (ms ns : List Notice) → AreAbout peer ms → AreAbout peer ns → AreAbout peer (ms ++ ns)
about_both peer [] ns a b = b
about_both peer (m ∷ ms) ns a b = (a.0, about_both peer ms ns a.1 b)

pub about_if : (peer : Host) (b : Bool) (ms ns : List Notice) → AreAbout peer ms → AreAbout peer ns → AreAbout peer (cond b ms ns)
about_if peer true ms ns a b = a
about_if peer false ms ns a b = b

ending_about : (peer : Host) (e : Entry) → AreAbout peer (ending peer e)
ending_about peer e = about_if peer e.mine (notice.Ended e.own peer e.foreign ∷ []) [] (refl, tt) tt

endings_about : (peer : Host) (es : List Entry) → AreAbout peer (flat_map (ending peer) es)
endings_about peer [] = tt
endings_about peer (e ∷ es) = about_both peer (ending peer e) (flat_map (ending peer) es) (ending_about peer e) (endings_about peer es)

opening_about_by : (peer : Host) (e : Entry) (asked partner : Option ℕ) → AreAbout peer (opening_by peer e asked partner)
opening_about_by peer e (Some a) (Some p) = about_if peer (is_ending e) [] (notice.Opened e.own peer e.foreign a p ∷ []) tt (refl, tt)
opening_about_by peer e None partner = tt
opening_about_by peer e (Some a) None = tt

opening_about : (peer : Host) (o : Option Entry) → AreAbout peer (opening_notices peer o)
opening_about peer None = tt
opening_about peer (Some e) = opening_about_by peer e e.asked e.partner

-- ---- the connections of a pair

abbrev Kept : Host → DeskState → Type 0
Kept peer d = AreAbout peer d.notices

if_kept : (peer : Host) (b : Bool) (x y : DeskState) → Kept peer x → Kept peer y → Kept peer (cond b x y)
if_kept peer true x y a b = a
if_kept peer false x y a b = b

told_kept : (peer : Host) (ns : List Notice) (d : DeskState) → Kept peer d → AreAbout peer ns → Kept peer (desk_told ns d)
told_kept peer ns d h a = about_both peer d.notices ns h a

swept_kept : (peer : Host) (d : DeskState) → Kept peer d → Kept peer (swept peer d)
swept_kept peer d h = about_both peer d.notices (flat_map (ending peer) (filter is_over d.entries)) h (endings_about peer (filter is_over d.entries))

matched_kept : (peer : Host) (own foreign : ℕ) (change : Entry → Entry) (d : DeskState) → Kept peer d → Kept peer (matched peer own foreign change d)
matched_kept peer own foreign change d h =
    told_kept peer (opening_notices peer (entry_at own foreign (changed_at own foreign change d.entries))) (changed (is_at own foreign) change d) h
    (opening_about peer (entry_at own foreign (changed_at own foreign change d.entries)))

once_kept : (peer : Host) (own foreign : ℕ) (c : Command) (e : Entry) (change : Entry → Entry) (d : DeskState) → Kept peer d → Kept peer (matched_once peer own foreign c e change d)
once_kept peer own foreign c e change d h = if_kept peer (is_some e.partner) (faulted ERRONEOUS c d) (matched peer own foreign change d) h (matched_kept peer own foreign change d h)

rts_heard_kept : (peer : Host) (own foreign link stamp : ℕ) (o : Option Listener) (d : DeskState) → Kept peer d → Kept peer (rts_heard own foreign link stamp o d)
rts_heard_kept peer own foreign link stamp None d h = h
rts_heard_kept peer own foreign link stamp (Some l) d h = h

rts_by_kept : (peer : Host) (own foreign link stamp : ℕ) (o : Option Entry) (d : DeskState) → Kept peer d → Kept peer (rts_taken_by peer own foreign link stamp o d)
rts_by_kept peer own foreign link stamp (Some e) d h = once_kept peer own foreign (command.Rts foreign own link) e (asked_on_link stamp link) d h
rts_by_kept peer own foreign link stamp None d h = rts_heard_kept peer own foreign link stamp (listener_on own d.listening) d h

rts_kept : (peer : Host) (own foreign link stamp : ℕ) (d : DeskState) → Kept peer d → Kept peer (rts_taken peer own foreign link stamp d)
rts_kept peer own foreign link stamp d h =
    if_kept peer (list_any (sends_on link) d.entries) (faulted ERRONEOUS (command.Rts foreign own link) d) (rts_taken_by peer own foreign link stamp (entry_at own foreign d.entries) d) h
    (rts_by_kept peer own foreign link stamp (entry_at own foreign d.entries) d h)

str_linked_kept : (peer : Host) (own foreign size stamp : ℕ) (o : Option ℕ) (d : DeskState) → Kept peer d → Kept peer (str_linked own foreign size stamp o d)
str_linked_kept peer own foreign size stamp None d h = h
str_linked_kept peer own foreign size stamp (Some link) d h = h

str_heard_kept : (peer : Host) (own foreign size stamp : ℕ) (o : Option Listener) (d : DeskState) → Kept peer d → Kept peer (str_heard own foreign size stamp o d)
str_heard_kept peer own foreign size stamp None d h = h
str_heard_kept peer own foreign size stamp (Some l) d h = str_linked_kept peer own foreign size stamp (free_link d.entries) d h

str_by_kept : (peer : Host) (own foreign size stamp : ℕ) (o : Option Entry) (d : DeskState) → Kept peer d → Kept peer (str_taken_by peer own foreign size stamp o d)
str_by_kept peer own foreign size stamp (Some e) d h = once_kept peer own foreign (command.Str foreign own size) e (asked_with_size stamp size) d h
str_by_kept peer own foreign size stamp None d h = str_heard_kept peer own foreign size stamp (listener_on own d.listening) d h

closed_once_kept : (peer : Host) (busy : List ℕ) (own foreign : ℕ) (e : Entry) (d : DeskState) → Kept peer d → Kept peer (closed_once peer busy own foreign e d)
closed_once_kept peer busy own foreign e d h =
    if_kept peer e.partner_closed d (swept peer (settled busy (changed (is_at own foreign) closed_by_partner d))) h (swept_kept peer (settled busy (changed (is_at own foreign) closed_by_partner d)) h)

cls_kept : (peer : Host) (busy : List ℕ) (own foreign : ℕ) (o : Option Entry) (d : DeskState) → Kept peer d → Kept peer (cls_taken_by peer busy own foreign o d)
cls_kept peer busy own foreign None d h = h
cls_kept peer busy own foreign (Some e) d h = closed_once_kept peer busy own foreign e d h

end_kept : (peer : Host) (c : Command) (change : Entry → DeskState → DeskState) (f : Found) (d : DeskState) → ((e : Entry) → Kept peer (change e d)) → Kept peer d → Kept peer (at_end c change f d)
end_kept peer c change Unconnected d k h = h
end_kept peer c change Ending d k h = h
end_kept peer c change (Open e) d k h = k e

ret_kept : (peer : Host) (link messages bits : ℕ) (d : DeskState) → Kept peer d → (e : Entry) → Kept peer (ret_taken link messages bits e d)
ret_kept peer link messages bits d h e =
    if_kept peer (nat_le messages e.allocation.messages && nat_le bits e.allocation.bits)
    (desk_told (notice.Returned e.own messages bits ∷ []) (changed (receives_on link) (returned messages bits) d)) (faulted ERRONEOUS (command.Ret link messages bits) d)
    (told_kept peer (notice.Returned e.own messages bits ∷ []) (changed (receives_on link) (returned messages bits) d) h (tt, tt)) h

interrupted_kept : (peer : Host) (d : DeskState) → Kept peer d → (e : Entry) → Kept peer (interrupted e d)
interrupted_kept peer d h e = told_kept peer (notice.Interrupt e.own ∷ []) d h (tt, tt)

taken_kept : (peer : Host) (busy : List ℕ) (stamp : ℕ) (c : Command) (d : DeskState) → Kept peer d → Kept peer (desk_taken peer busy stamp c d)
taken_kept peer busy stamp command.Nop d h = h
taken_kept peer busy stamp (command.Rts receive send link) d h = rts_kept peer send receive link stamp d h
taken_kept peer busy stamp (command.Str send receive size) d h = str_by_kept peer receive send size stamp (entry_at receive send d.entries) d h
taken_kept peer busy stamp (command.Cls own foreign) d h = cls_kept peer busy foreign own (entry_at foreign own d.entries) d h
taken_kept peer busy stamp (command.All link messages bits) d h = end_kept peer (command.All link messages bits) (all_taken link messages bits) (sender_on link d) d (λ e. h) h
taken_kept peer busy stamp (command.Gvb link messages bits) d h = end_kept peer (command.Gvb link messages bits) (gvb_taken link messages bits) (sender_on link d) d (λ e. h) h
taken_kept peer busy stamp (command.Ret link messages bits) d h =
    end_kept peer (command.Ret link messages bits) (ret_taken link messages bits) (receiver_on link d) d (ret_kept peer link messages bits d h) h
taken_kept peer busy stamp (command.Inr link) d h = end_kept peer (command.Inr link) interrupted (sender_on link d) d (interrupted_kept peer d h) h
taken_kept peer busy stamp (command.Ins link) d h = end_kept peer (command.Ins link) interrupted (receiver_on link d) d (interrupted_kept peer d h) h
taken_kept peer busy stamp (command.Eco octet) d h = h
taken_kept peer busy stamp (command.Erp octet) d h = told_kept peer (notice.Echoed peer octet ∷ []) d h (refl, tt)
taken_kept peer busy stamp (command.Err code detail) d h = told_kept peer (notice.RemoteError peer code detail ∷ []) d h (refl, tt)
taken_kept peer busy stamp command.Rst d h = h
taken_kept peer busy stamp command.Rrp d h = h

arrived_kept : (peer : Host) (link : ℕ) (e : Entry) (text : List Bool) (o : Option DataHeader) (d : DeskState) → Kept peer d → Kept peer (arrived_if link e text o d)
arrived_kept peer link e text None d h = h
arrived_kept peer link e text (Some x) d h =
    if_kept peer (is_acceptable e x) (arrived link e (data_bits x) text d) (text_faulted ERRONEOUS text d) (about_both peer d.notices (notice.Arrived e.own (data_of (data_bits x) text) ∷ []) h (tt, tt)) h

data_found_kept : (peer : Host) (link : ℕ) (text : List Bool) (f : Found) (d : DeskState) → Kept peer d → Kept peer (data_found link text f d)
data_found_kept peer link text Unconnected d h = h
data_found_kept peer link text Ending d h = h
data_found_kept peer link text (Open e) d h = arrived_kept peer link e text (header_of text) d h

-- ---- a turn

abbrev Told : Host → TurnState → Type 0
Told peer t = AreAbout peer t.notices

if_told : (peer : Host) (b : Bool) (x y : TurnState) → Told peer x → Told peer y → Told peer (cond b x y)
if_told peer true x y a b = a
if_told peer false x y a b = b

ready_told : (peer : Host) (work : DeskState → DeskState) (t : TurnState) → ((d : DeskState) → Kept peer d → Kept peer (work d)) → Told peer t → Told peer (if_ready work t)
ready_told peer work t k h =
    if_told peer (is_ready t.pair.phase) (with_desk t (work (desk_of t.pair t.listening))) t
    (about_both peer t.notices (work (desk_of t.pair t.listening)).notices h (k (desk_of t.pair t.listening) tt)) h

reset_about : (peer : Host) (p : Phase) → AreAbout peer (reset_notices peer p)
reset_about peer phase.Closed = (refl, tt)
reset_about peer phase.Want = tt
reset_about peer (phase.Gone early) = tt
reset_about peer phase.Heard = tt
reset_about peer phase.Ready = (refl, tt)

reply_about : (peer : Host) (p : Phase) → AreAbout peer (reply_notices peer p)
reply_about peer phase.Closed = tt
reply_about peer phase.Want = tt
reply_about peer (phase.Gone early) = tt
reply_about peer phase.Heard = (refl, tt)
reply_about peer phase.Ready = tt

command_told : (peer : Host) (stamp : ℕ) (c : Command) (t : TurnState) → Told peer t → Told peer (command_taken peer stamp c t)
command_told peer stamp command.Rst t h = about_both peer t.notices (reset_notices peer t.pair.phase) h (reset_about peer t.pair.phase)
command_told peer stamp command.Rrp t h = about_both peer t.notices (reply_notices peer t.pair.phase) h (reply_about peer t.pair.phase)
command_told peer stamp command.Nop t h = ready_told peer (desk_taken peer t.pair.busy stamp command.Nop) t (taken_kept peer t.pair.busy stamp command.Nop) h
command_told peer stamp (command.Rts a b c) t h = ready_told peer (desk_taken peer t.pair.busy stamp (command.Rts a b c)) t (taken_kept peer t.pair.busy stamp (command.Rts a b c)) h
command_told peer stamp (command.Str a b c) t h = ready_told peer (desk_taken peer t.pair.busy stamp (command.Str a b c)) t (taken_kept peer t.pair.busy stamp (command.Str a b c)) h
command_told peer stamp (command.Cls a b) t h = ready_told peer (desk_taken peer t.pair.busy stamp (command.Cls a b)) t (taken_kept peer t.pair.busy stamp (command.Cls a b)) h
command_told peer stamp (command.All a b c) t h = ready_told peer (desk_taken peer t.pair.busy stamp (command.All a b c)) t (taken_kept peer t.pair.busy stamp (command.All a b c)) h
command_told peer stamp (command.Gvb a b c) t h = ready_told peer (desk_taken peer t.pair.busy stamp (command.Gvb a b c)) t (taken_kept peer t.pair.busy stamp (command.Gvb a b c)) h
command_told peer stamp (command.Ret a b c) t h = ready_told peer (desk_taken peer t.pair.busy stamp (command.Ret a b c)) t (taken_kept peer t.pair.busy stamp (command.Ret a b c)) h
command_told peer stamp (command.Inr a) t h = ready_told peer (desk_taken peer t.pair.busy stamp (command.Inr a)) t (taken_kept peer t.pair.busy stamp (command.Inr a)) h
command_told peer stamp (command.Ins a) t h = ready_told peer (desk_taken peer t.pair.busy stamp (command.Ins a)) t (taken_kept peer t.pair.busy stamp (command.Ins a)) h
command_told peer stamp (command.Eco a) t h = ready_told peer (desk_taken peer t.pair.busy stamp (command.Eco a)) t (taken_kept peer t.pair.busy stamp (command.Eco a)) h
command_told peer stamp (command.Erp a) t h = ready_told peer (desk_taken peer t.pair.busy stamp (command.Erp a)) t (taken_kept peer t.pair.busy stamp (command.Erp a)) h
command_told peer stamp (command.Err a b) t h = ready_told peer (desk_taken peer t.pair.busy stamp (command.Err a b)) t (taken_kept peer t.pair.busy stamp (command.Err a b)) h

order_told : (peer : Host) (stamp : ℕ) (o : Order) (t : TurnState) → Told peer t → Told peer (order_taken peer stamp o t)
order_told peer stamp (Legal c) t h = command_told peer stamp c t h
order_told peer stamp (Wrong code octets) t h = ready_told peer (command_queued (error code octets)) t (λ d k. k) h

orders_told : (peer : Host) (stamp : ℕ) (os : List Order) (t : TurnState) → Told peer t → Told peer (orders_taken peer stamp os t)
orders_told peer stamp [] t h = h
orders_told peer stamp (o ∷ os) t h = orders_told peer stamp os (order_taken peer stamp o t) (order_told peer stamp o t h)

pub text_told : (peer : Host) (stamp link : ℕ) (text : List Bool) (t : TurnState) → Told peer t → Told peer (message_taken peer stamp link text t)
text_told peer stamp link text t h =
    if_told peer (link == 0) (orders_taken peer stamp (orders_of text) t) (if_ready (data_taken link text) t) (orders_told peer stamp (orders_of text) t h)
    (ready_told peer (data_taken link text) t (λ d k. data_found_kept peer link text (receiver_on link d) d k) h)

settled_told : (peer : Host) (t : TurnState) → Told peer t → Told peer (settled_turn t)
settled_told peer t h = about_both peer t.notices [] h tt

closed_told : (peer : Host) (ns : List Notice) (t : TurnState) → AreAbout peer ns → Told peer t → Told peer (closed ns t)
closed_told peer ns t a h = about_both peer t.notices ns h a

failed_by_told : (peer : Host) (p : Phase) (t : TurnState) → Told peer t → Told peer (failed_by peer p t)
failed_by_told peer phase.Closed t h = h
failed_by_told peer phase.Want t h = h
failed_by_told peer (phase.Gone early) t h = closed_told peer (notice.ContactFailed peer ∷ []) t (refl, tt) h
failed_by_told peer phase.Heard t h = closed_told peer (notice.ContactFailed peer ∷ []) t (refl, tt) h
failed_by_told peer phase.Ready t h = closed_told peer (notice.PairReset peer ∷ []) t (refl, tt) h

failed_told : (peer : Host) (t : TurnState) → Told peer t → Told peer (failed peer t)
failed_told peer t h =
    if_told peer (is_gone t.pair.phase || not t.pair.owed) (failed_by peer t.pair.phase t) (settled_turn t) (failed_by_told peer t.pair.phase t h) (settled_told peer t h)

pub answer_told : (peer : Host) (a : Answer) (link : ℕ) (t : TurnState) → Told peer t → Told peer (answer_taken peer a link t)
answer_told peer answer.Rfnm link t h = about_both peer t.notices [] h tt
answer_told peer answer.Incomplete link t h = failed_told peer t h
answer_told peer answer.Dead link t h = failed_told peer t h
answer_told peer answer.NotTaken link t h = failed_told peer t h

-- ---- a host

request_kept : (peer : Host) (stamp own foreign : ℕ) (d : DeskState) → Kept peer d → Kept peer (request_gone peer stamp own foreign d)
request_kept peer stamp own foreign d h =
    told_kept peer (opening_notices peer (entry_at own foreign (changed_at own foreign (asked_at stamp) d.entries))) (changed (is_at own foreign) (asked_at stamp) d) h
    (opening_about peer (entry_at own foreign (changed_at own foreign (asked_at stamp) d.entries)))

gone_kept : (peer : Host) (stamp : ℕ) (c : Command) (d : DeskState) → Kept peer d → Kept peer (command_gone peer stamp c d)
gone_kept peer stamp (command.Rts receive send link) d h = request_kept peer stamp receive send d h
gone_kept peer stamp (command.Str send receive size) d h = request_kept peer stamp send receive d h
gone_kept peer stamp (command.Cls own foreign) d h = swept_kept peer (changed (is_at own foreign) cls_sent d) h
gone_kept peer stamp command.Nop d h = h
gone_kept peer stamp (command.All a b c) d h = h
gone_kept peer stamp (command.Gvb a b c) d h = h
gone_kept peer stamp (command.Ret a b c) d h = h
gone_kept peer stamp (command.Inr a) d h = h
gone_kept peer stamp (command.Ins a) d h = h
gone_kept peer stamp (command.Eco a) d h = h
gone_kept peer stamp (command.Erp a) d h = h
gone_kept peer stamp (command.Err a b) d h = h
gone_kept peer stamp command.Rst d h = h
gone_kept peer stamp command.Rrp d h = h

all_gone_kept : (peer : Host) (stamp : ℕ) (cs : List Command) (d : DeskState) → Kept peer d → Kept peer (commands_gone peer stamp cs d)
all_gone_kept peer stamp [] d h = h
all_gone_kept peer stamp (c ∷ cs) d h = all_gone_kept peer stamp cs (command_gone peer stamp c d) (gone_kept peer stamp c d h)

pub parcel_kept : (peer : Host) (stamp : ℕ) (busy : List ℕ) (parcel : Parcel) (d : DeskState) → Kept peer d → Kept peer (parcel_gone peer stamp busy parcel d)
parcel_kept peer stamp busy Reset d h = h
parcel_kept peer stamp busy Reply d h = h
parcel_kept peer stamp busy (Commands count) d h = all_gone_kept peer stamp (take count d.queue) d h
parcel_kept peer stamp busy (Bytes e size count) d h = about_both peer d.notices (notice.Sent e.own (take (size * count) e.bits) ∷ []) h (tt, tt)
