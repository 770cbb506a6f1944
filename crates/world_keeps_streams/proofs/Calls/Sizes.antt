-- The byte sizes of a pair's ends are octets, and not zero: each call keeps that.
use Rattle.world_keeps_streams.proofs.Common.{◌≡◌, ℕ, zero, suc, ◌&&◌, IsTrue, nat_le, Bool, true, false, if◌then◌else◌, List, [], ◌∷◌, ◌++◌, map, filter, Option, Some, None, is_some, refl, sym, subst, arith, list_any, Host, header_of, is_byte_size, Command, DataHeader, receiver_requested, ERRONEOUS, arrived_if, data_found, is_acceptable, DeskState, listener_on, changed_first, entry_at, free_link, receiving_end, sends_on, PairState, command_gone, Entry, Listener}
use Rattle.ncp_control.specs.Command.{IsCommand, IsOctet}
use Rattle.host_pairs.specs.Commands.{Ending, Open, Unconnected, at_end, cls_taken_by, gvb_taken, interrupted, matched_once, receiver_on, ret_taken, rts_heard, rts_taken_by, sender_on, str_heard, str_linked, str_taken_by, desk_taken, Found, all_taken}
use Rattle.host_keeps_ranges.specs.Ranges.{AreSizes}
use Rattle.host_keeps_streams.specs.Histories.{Answered, AsksBack, Closes, Hears, IsHistory, OpensReceiver, OpensSender, Says, Takes, ends_by, ends_now, Call}
use Rattle.ncp_control.specs.declared.command.Command.TheVariants as command
use Rattle.host_pairs.specs.Commands as commands
use Rattle.host_keeps_ranges.proofs.lemmas.{size_found}
use Rattle.host_keeps_streams.specs.Histories as calls
use Rattle.world_keeps_streams.proofs.Calls.MayAsk.{AreSized, IsSize}

-- ---- lists

pub is_size : (size : ℕ) → IsOctet size → IsTrue (is_byte_size size) → IsSize (Some size)
is_size zero small some = absurd (let no : false ≡ true = some in cc)
is_size (suc n) small some = (small, omega arith)

sized_more : (xs : List Entry) (e : Entry) → AreSized xs → IsSize e.size → AreSized (xs ++ e ∷ [])
sized_more [] e h is = (is, tt)
sized_more (x ∷ xs) e h is = (h.0, sized_more xs e h.1 is)

abbrev Keeps : (Entry → Entry) → Type 0
Keeps change = (e : Entry) → IsSize e.size → IsSize (change e).size

sized_changed : (test : Entry → Bool) (change : Entry → Entry) (xs : List Entry) → Keeps change → AreSized xs → AreSized (changed_first test change xs)
sized_changed test change [] k h = tt
sized_changed test change (x ∷ xs) k h = by (test x) (sized_changed test change xs k h.1) where
  by : (b : Bool) → AreSized (changed_first test change xs) → AreSized (if b then change x ∷ xs else x ∷ changed_first test change xs)
  by true rest = (k x h.0, h.1)
  by false rest = (h.0, rest)

sized_mapped : (change : Entry → Entry) (xs : List Entry) → Keeps change → AreSized xs → AreSized (map change xs)
sized_mapped change [] k h = tt
sized_mapped change (x ∷ xs) k h = (k x h.0, sized_mapped change xs k h.1)

sized_filtered : (test : Entry → Bool) (xs : List Entry) → AreSized xs → AreSized (filter test xs)
sized_filtered test [] h = tt
sized_filtered test (x ∷ xs) h = by (test x) refl (sized_filtered test xs h.1) where
  by : (b : Bool) → test x ≡ b → AreSized (filter test xs) → AreSized (filter test (x ∷ xs))
  by true e rest = rw e (h.0, rest)
  by false e rest = rw e rest

-- ---- what is heard

either : (b : Bool) (d e : DeskState) → AreSized d.entries → AreSized e.entries → AreSized (if b then d else e).entries
either true d e h k = h
either false d e h k = k

matched_sized : (peer : Host) (own foreign : ℕ) (c : Command) (e : Entry) (change : Entry → Entry) (d : DeskState) → Keeps change → AreSized d.entries → AreSized (matched_once peer own foreign c e change d).entries
matched_sized peer own foreign c e change d k h = either (is_some e.partner) (commands.faulted ERRONEOUS c d) (commands.matched peer own foreign change d) h (sized_changed _ change d.entries k h)

rts_sized : (own foreign link stamp : ℕ) (l : Option Listener) (d : DeskState) → listener_on own d.listening ≡ l → AreSizes d.listening → AreSized d.entries → AreSized (rts_heard own foreign link stamp l d).entries
rts_sized own foreign link stamp None d is sizes h = sized_more d.entries _ h tt
rts_sized own foreign link stamp (Some l) d is sizes h =
    let size : IsOctet l.size × IsTrue (is_byte_size l.size) = size_found _ d.listening l sizes is in
    sized_more d.entries _ h (is_size l.size size.0 size.1)

rts_sized_by : (peer : Host) (own foreign link stamp : ℕ) (o : Option Entry) (d : DeskState) → AreSizes d.listening → AreSized d.entries → AreSized (rts_taken_by peer own foreign link stamp o d).entries
rts_sized_by peer own foreign link stamp None d sizes h = rts_sized own foreign link stamp (listener_on own d.listening) d refl sizes h
rts_sized_by peer own foreign link stamp (Some e) d sizes h = matched_sized peer own foreign (command.Rts foreign own link) e (commands.asked_on_link stamp link) d (λ y k. k) h

str_sized_linked : (own foreign size stamp : ℕ) (l : Option ℕ) (d : DeskState) → IsSize (Some size) → AreSized d.entries → AreSized (str_linked own foreign size stamp l d).entries
str_sized_linked own foreign size stamp None d is h = sized_more d.entries _ h tt
str_sized_linked own foreign size stamp (Some link) d is h = sized_more d.entries _ h is

str_sized : (own foreign size stamp : ℕ) (l : Option Listener) (d : DeskState) → IsSize (Some size) → AreSized d.entries → AreSized (str_heard own foreign size stamp l d).entries
str_sized own foreign size stamp None d is h = sized_more d.entries _ h tt
str_sized own foreign size stamp (Some l) d is h = str_sized_linked own foreign size stamp _ d is h

str_sized_by : (peer : Host) (own foreign size stamp : ℕ) (o : Option Entry) (d : DeskState) → IsSize (Some size) → AreSized d.entries → AreSized (str_taken_by peer own foreign size stamp o d).entries
str_sized_by peer own foreign size stamp None d is h = str_sized own foreign size stamp (listener_on own d.listening) d is h
str_sized_by peer own foreign size stamp (Some e) d is h = matched_sized peer own foreign (command.Str foreign own size) e (commands.asked_with_size stamp size) d (λ y k. is) h

cls_sized : (peer : Host) (busy : List ℕ) (own foreign : ℕ) (o : Option Entry) (d : DeskState) → AreSized d.entries → AreSized (cls_taken_by peer busy own foreign o d).entries
cls_sized peer busy own foreign None d h = h
cls_sized peer busy own foreign (Some e) d h =
    either e.partner_closed d _ h (sized_filtered _ _ (sized_mapped _ _ (λ y k. k) (sized_changed _ _ d.entries (λ y k. k) h)))

end_sized : (c : Command) (change : Entry → DeskState → DeskState) (f : Found) (d : DeskState) → ((e : Entry) → AreSized (change e d).entries) → AreSized d.entries → AreSized (at_end c change f d).entries
end_sized c change Unconnected d k h = h
end_sized c change Ending d k h = h
end_sized c change (Open e) d k h = k e

taken_sized : (peer : Host) (busy : List ℕ) (stamp : ℕ) (c : Command) (d : DeskState) → IsCommand c → AreSizes d.listening → AreSized d.entries → AreSized (desk_taken peer busy stamp c d).entries
taken_sized peer busy stamp (command.Rts receive send link) d ok sizes h =
    either (list_any (sends_on link) d.entries) (commands.faulted ERRONEOUS (command.Rts receive send link) d) (rts_taken_by peer send receive link stamp (entry_at send receive d.entries) d) h
    (rts_sized_by peer send receive link stamp (entry_at send receive d.entries) d sizes h)
taken_sized peer busy stamp (command.Str send receive size) d ok sizes h = str_sized_by peer receive send size stamp (entry_at receive send d.entries) d (is_size size ok.4 ok.5) h
taken_sized peer busy stamp (command.Cls mine yours) d ok sizes h = cls_sized peer busy yours mine (entry_at yours mine d.entries) d h
taken_sized peer busy stamp (command.All link messages bits) d ok sizes h = end_sized (command.All link messages bits) (all_taken link messages bits) (sender_on link d) d (λ e. sized_changed _ _ d.entries (λ y k. k) h) h
taken_sized peer busy stamp (command.Gvb link messages bits) d ok sizes h = end_sized (command.Gvb link messages bits) (gvb_taken link messages bits) (sender_on link d) d (λ e. sized_changed _ _ d.entries (λ y k. k) h) h
taken_sized peer busy stamp (command.Ret link messages bits) d ok sizes h =
    end_sized (command.Ret link messages bits) (ret_taken link messages bits) (receiver_on link d) d
    (λ e. either (nat_le messages e.allocation.messages && nat_le bits e.allocation.bits) _ (commands.faulted ERRONEOUS (command.Ret link messages bits) d) (sized_changed _ _ d.entries (λ y k. k) h) h) h
taken_sized peer busy stamp (command.Inr link) d ok sizes h = end_sized (command.Inr link) interrupted (sender_on link d) d (λ e. h) h
taken_sized peer busy stamp (command.Ins link) d ok sizes h = end_sized (command.Ins link) interrupted (receiver_on link d) d (λ e. h) h
taken_sized peer busy stamp c d ok sizes h = h

arrived_sized : (link : ℕ) (e : Entry) (text : List Bool) (o : Option DataHeader) (d : DeskState) → AreSized d.entries → AreSized (arrived_if link e text o d).entries
arrived_sized link e text None d h = h
arrived_sized link e text (Some header) d h = either (is_acceptable e header) _ _ (sized_changed _ _ d.entries (λ y k. k) h) h

data_sized : (link : ℕ) (text : List Bool) (f : Found) (d : DeskState) → AreSized d.entries → AreSized (data_found link text f d).entries
data_sized link text Unconnected d h = h
data_sized link text Ending d h = h
data_sized link text (Open e) d h = arrived_sized link e text _ d h

-- ---- what is said and asked for

gone_sized : (peer : Host) (stamp : ℕ) (c : Command) (d : DeskState) → AreSized d.entries → AreSized (command_gone peer stamp c d).entries
gone_sized peer stamp (command.Rts receive send link) d h = sized_changed _ _ d.entries (λ y k. k) h
gone_sized peer stamp (command.Str send receive size) d h = sized_changed _ _ d.entries (λ y k. k) h
gone_sized peer stamp (command.Cls own foreign) d h = sized_filtered _ _ (sized_changed _ _ d.entries (λ y k. k) h)
gone_sized peer stamp c d h = h

opened_sized : (own foreign : ℕ) (o : Option ℕ) (q : PairState) → AreSized q.entries → AreSized (receiver_requested own foreign o q).entries
opened_sized own foreign None q h = h
opened_sized own foreign (Some link) q h = sized_more q.entries _ h tt

-- ---- a call

abbrev pub HasSize : Call → Type 0
HasSize (Hears stamp said c) = IsCommand c
HasSize (OpensSender own foreign size) = IsSize (Some size)
HasSize k = Unit {0}

sized_by : (peer : Host) (k : Call) (q : PairState) (listening : List Listener) → HasSize k → AreSizes listening → AreSized q.entries → AreSized (ends_by peer k q listening)
sized_by peer (Hears stamp said c) q listening is sizes h = taken_sized peer q.busy stamp c _ is sizes h
sized_by peer (Takes l text) q listening is sizes h = data_sized l text _ _ h
sized_by peer (Says stamp c) q listening is sizes h = gone_sized peer stamp c _ h
sized_by peer (Answered l) q listening is sizes h = sized_mapped _ q.entries (λ y k. k) h
sized_by peer (OpensReceiver own foreign) q listening is sizes h = opened_sized own foreign _ q h
sized_by peer (OpensSender own foreign size) q listening is sizes h = sized_more q.entries _ h is
sized_by peer (AsksBack socket messages bits e) q listening is sizes h = h
sized_by peer (Closes socket e) q listening is sizes h = sized_mapped _ _ (λ y k. k) (sized_changed _ _ q.entries (λ y k. k) h)
sized_by peer c q listening is sizes h = sized_changed _ _ q.entries (λ y k. k) h

-- ---- all calls

abbrev pub AllSizes : List calls.Moment → Type 0
AllSizes [] = Unit {0}
AllSizes (m ∷ ms) = (HasSize m.call × AreSizes m.listening) × AllSizes ms

pub sizes_append : (xs ys : List calls.Moment) → AllSizes xs → AllSizes ys → AllSizes (xs ++ ys)
sizes_append [] ys h k = k
sizes_append (x ∷ xs) ys h k = (h.0, sizes_append xs ys h.1 k)

pub history_sized : (peer : Host) (cs : List calls.Moment) → IsHistory peer cs → AllSizes cs → AreSized (ends_now peer cs)
history_sized peer [] h sizes = tt
history_sized peer (m ∷ ms) h sizes = sized_by peer m.call m.pair m.listening sizes.0.0 sizes.0.1 (subst (λ (es : List Entry). AreSized es) (sym h.0) (history_sized peer ms h.1 sizes.1))
