-- What a command or data of the peer does to the connections keeps their numbers in their ranges.
use Rattle.std.proofs.Common.{◌≡◌, ℕ, ◌+◌, ◌-◌, ◌^◌, ◌<◌, ◌≤◌, Bool, true, false, ◌&&◌, if◌then◌else◌, nat_le, min, List, [], ◌∷◌, filter, find, Option, Some, None, is_some, All, IsTrue, refl, arith}
use Rattle.std.specs.List.{list_any}
use Rattle.bit_messages.specs.Octets.{octets_of}
use Rattle.bit_messages.proofs.lemmas.{octets_below}
use Rattle.interface.specs.Host.{Host}
use Rattle.ncp_control.specs.Allocation as counters
use Rattle.ncp_control.proofs.lemmas.{share-le}
use Rattle.ncp_control.specs.Command.{IsCommand, IsOctet, IsWord, spelling}
use Rattle.ncp_control.specs.DataHeader.{data_bits, header_of}
use Rattle.ncp_control.specs.Numbers.{is_byte_size, is_connection_link}
use Rattle.ncp_control.specs.declared.command.Command.{Command}
use Rattle.ncp_control.specs.declared.command.Command.TheVariants as command
use Rattle.ncp_control.specs.declared.data_header.DataHeader.{DataHeader}
use Rattle.host_pairs.specs.Commands as commands
use Rattle.host_pairs.specs.Commands.{all_taken, answered_on, asked_on_link, asked_with_size, at_end, changed, closed_once, cls_taken_by, Unconnected, Ending, Open, gvb_taken, interrupted, entry_joined, matched_once, ret_taken, rts_heard, rts_taken, rts_taken_by, sender_on, receiver_on, str_heard, str_linked, str_taken_by}
use Rattle.host_pairs.specs.Control.{ERRONEOUS, NO_SOCKET, NOT_CONNECTED, error}
use Rattle.host_pairs.specs.Data.{arrived_if, data_found, data_taken, is_acceptable, spent}
use Rattle.host_pairs.specs.Desk.{DeskState, listener_on, command_queued, settled, swept, desk_told}
use Rattle.host_pairs.specs.declared.notice.Notice.{Notice}
use Rattle.host_pairs.specs.Entries.{is_ending, is_open, closed_by_partner, cls_of, entry_at, free_link, is_at, must_close, receiving_end, receives_on, refused_end, sending_end, sends_on}
use Rattle.host_pairs.specs.declared.entry.Entry.{Entry}
use Rattle.host_pairs.specs.declared.listener.Listener.{Listener}
use Rattle.host_keeps_ranges.specs.Ranges.{AreCommands, AreInRange, AreSizes, IsInRange}
use Rattle.host_keeps_ranges.proofs.Orders.{error_command, spelled_octets}
use Rattle.host_keeps_ranges.proofs.Desks.{Keeps, closes, commands_append, commands_more, ends_changed, ends_filtered, ends_mapped, ends_more, free_is_link, link_octet, size_found, sizes_filtered}

pub record Ranged (d : DeskState) : Type 0 where
  pub ends : AreInRange d.entries
  pub commands : AreCommands d.queue
  pub sizes : AreSizes d.listening

ranged_if : (b : Bool) (d e : DeskState) → Ranged d → Ranged e → Ranged (if b then d else e)
ranged_if true d e h k = h
ranged_if false d e h k = k

ranged_queued : (c : Command) (d : DeskState) → IsCommand c → Ranged d → Ranged (command_queued c d)
ranged_queued c d is h = record { ends = h.ends; commands = commands_more d.queue c h.commands is; sizes = h.sizes }

pub ranged_error : (code : ℕ) (octets : List ℕ) (d : DeskState) → IsOctet code → All IsOctet octets → Ranged d → Ranged (command_queued (error code octets) d)
ranged_error code octets d is small h = ranged_queued (error code octets) d (error_command code octets is small) h

ranged_fault : (code : ℕ) (c : Command) (d : DeskState) → IsOctet code → IsCommand c → Ranged d → Ranged (commands.faulted code c d)
ranged_fault code c d is ok h = ranged_error code (spelling c) d is (spelled_octets c ok) h

pub ranged_changed : (test : Entry → Bool) (change : Entry → Entry) (d : DeskState) → Keeps change → Ranged d → Ranged (changed test change d)
ranged_changed test change d k h = record { ends = ends_changed test change d.entries k h.ends; commands = h.commands; sizes = h.sizes }

ranged_joined : (e : Entry) (d : DeskState) → IsInRange e → Ranged d → Ranged (entry_joined e d)
ranged_joined e d is h = record { ends = ends_more d.entries e h.ends is; commands = h.commands; sizes = h.sizes }

ranged_answered : (socket : ℕ) (d : DeskState) → Ranged d → Ranged (answered_on socket d)
ranged_answered socket d h = record { ends = h.ends; commands = h.commands; sizes = sizes_filtered _ d.listening h.sizes }

pub ranged_settled : (busy : List ℕ) (d : DeskState) → Ranged d → Ranged (settled busy d)
ranged_settled busy d h = record {
  ends = ends_mapped _ d.entries (λ e i. record { own = i.own; foreign = i.foreign; link = i.link; messages = i.messages; bits = i.bits }) h.ends;
  commands = commands_append d.queue _ h.commands (closes (filter (must_close busy) d.entries) (ends_filtered (must_close busy) d.entries h.ends));
  sizes = h.sizes;
}

pub ranged_swept : (peer : Host) (d : DeskState) → Ranged d → Ranged (swept peer d)
ranged_swept peer d h = record { ends = ends_filtered _ d.entries h.ends; commands = h.commands; sizes = h.sizes }

-- ---- new ends

pub sending_range : (own foreign size : ℕ) → IsWord own → IsWord foreign → IsInRange (sending_end own foreign size)
sending_range own foreign size a b = record { own = a; foreign = b; link = tt; messages = omega arith; bits = omega arith }

pub receiving_range : (own foreign link : ℕ) → IsWord own → IsWord foreign → IsOctet link → IsInRange (receiving_end own foreign link)
receiving_range own foreign link a b l = record { own = a; foreign = b; link = l; messages = omega arith; bits = omega arith }

on_link : (stamp link : ℕ) → IsOctet link → Keeps (asked_on_link stamp link)
on_link stamp link l e i = record { own = i.own; foreign = i.foreign; link = l; messages = i.messages; bits = i.bits }

with_size : (stamp size : ℕ) → Keeps (asked_with_size stamp size)
with_size stamp size e i = record { own = i.own; foreign = i.foreign; link = i.link; messages = i.messages; bits = i.bits }

-- ---- requests of the peer

ranged_refused : (own foreign stamp : ℕ) (d : DeskState) → IsWord own → IsWord foreign → Ranged d → Ranged (commands.refused own foreign stamp d)
ranged_refused own foreign stamp d a b h =
    ranged_queued (cls_of (refused_end own foreign stamp)) (entry_joined (refused_end own foreign stamp) d) (a, b)
    (ranged_joined (refused_end own foreign stamp) d (record { own = a; foreign = b; link = tt; messages = omega arith; bits = omega arith }) h)

ranged_matched : (peer : Host) (own foreign : ℕ) (c : Command) (e : Entry) (change : Entry → Entry) (d : DeskState) → IsCommand c → Keeps change → Ranged d → Ranged (matched_once peer own foreign c e change d)
ranged_matched peer own foreign c e change d ok k h =
    ranged_if (is_some e.partner) (commands.faulted ERRONEOUS c d) (commands.matched peer own foreign change d) (ranged_fault ERRONEOUS c d (omega arith) ok h)
    (record { ends = ends_changed (is_at own foreign) change d.entries k h.ends; commands = h.commands; sizes = h.sizes })

ranged_rts_heard : (own foreign link stamp : ℕ) (l : Option Listener) (d : DeskState) → listener_on own d.listening ≡ l → IsCommand (command.Rts foreign own link) → Ranged d → Ranged (rts_heard own foreign link stamp l d)
ranged_rts_heard own foreign link stamp None d is ok h = ranged_refused own foreign stamp d ok.2 ok.0 h
ranged_rts_heard own foreign link stamp (Some l) d is ok h =
    let size : IsOctet l.size × IsTrue (is_byte_size l.size) = size_found _ d.listening l h.sizes is in
    ranged_queued (command.Str own foreign l.size) (entry_joined (asked_on_link stamp link (sending_end own foreign l.size)) (answered_on own d)) (ok.2, ok.3, ok.0, ok.1, size.0, size.1)
    (ranged_joined (asked_on_link stamp link (sending_end own foreign l.size)) (answered_on own d) (on_link stamp link (link_octet link ok.4) (sending_end own foreign l.size) (sending_range own foreign l.size ok.2 ok.0)) (ranged_answered own d h))

ranged_rts_by : (peer : Host) (own foreign link stamp : ℕ) (o : Option Entry) (d : DeskState) → IsCommand (command.Rts foreign own link) → Ranged d → Ranged (rts_taken_by peer own foreign link stamp o d)
ranged_rts_by peer own foreign link stamp None d ok h = ranged_rts_heard own foreign link stamp (listener_on own d.listening) d refl ok h
ranged_rts_by peer own foreign link stamp (Some e) d ok h = ranged_matched peer own foreign (command.Rts foreign own link) e (asked_on_link stamp link) d ok (on_link stamp link (link_octet link ok.4)) h

ranged_rts : (peer : Host) (own foreign link stamp : ℕ) (d : DeskState) → IsCommand (command.Rts foreign own link) → Ranged d → Ranged (rts_taken peer own foreign link stamp d)
ranged_rts peer own foreign link stamp d ok h =
    ranged_if (list_any (sends_on link) d.entries) (commands.faulted ERRONEOUS (command.Rts foreign own link) d) (rts_taken_by peer own foreign link stamp (entry_at own foreign d.entries) d)
    (ranged_fault ERRONEOUS (command.Rts foreign own link) d (omega arith) ok h) (ranged_rts_by peer own foreign link stamp (entry_at own foreign d.entries) d ok h)

ranged_str_linked : (own foreign size stamp : ℕ) (l : Option ℕ) (d : DeskState) → free_link d.entries ≡ l → IsCommand (command.Str foreign own size) → Ranged d → Ranged (str_linked own foreign size stamp l d)
ranged_str_linked own foreign size stamp None d is ok h = ranged_refused own foreign stamp d ok.2 ok.0 h
ranged_str_linked own foreign size stamp (Some link) d is ok h =
    let free : IsTrue (is_connection_link link) = free_is_link d.entries link is in
    ranged_queued (command.Rts own foreign link) (entry_joined (asked_with_size stamp size (receiving_end own foreign link)) (answered_on own d)) (ok.2, ok.3, ok.0, ok.1, free)
    (ranged_joined (asked_with_size stamp size (receiving_end own foreign link)) (answered_on own d) (with_size stamp size (receiving_end own foreign link) (receiving_range own foreign link ok.2 ok.0 (link_octet link free))) (ranged_answered own d h))

ranged_str_heard : (own foreign size stamp : ℕ) (l : Option Listener) (d : DeskState) → IsCommand (command.Str foreign own size) → Ranged d → Ranged (str_heard own foreign size stamp l d)
ranged_str_heard own foreign size stamp None d ok h = ranged_refused own foreign stamp d ok.2 ok.0 h
ranged_str_heard own foreign size stamp (Some l) d ok h = ranged_str_linked own foreign size stamp (free_link d.entries) d refl ok h

ranged_str_by : (peer : Host) (own foreign size stamp : ℕ) (o : Option Entry) (d : DeskState) → IsCommand (command.Str foreign own size) → Ranged d → Ranged (str_taken_by peer own foreign size stamp o d)
ranged_str_by peer own foreign size stamp None d ok h = ranged_str_heard own foreign size stamp (listener_on own d.listening) d ok h
ranged_str_by peer own foreign size stamp (Some e) d ok h = ranged_matched peer own foreign (command.Str foreign own size) e (asked_with_size stamp size) d ok (with_size stamp size) h

-- ---- closing

off : Keeps closed_by_partner
off e i = record { own = i.own; foreign = i.foreign; link = i.link; messages = i.messages; bits = i.bits }

ranged_cls : (peer : Host) (busy : List ℕ) (own foreign : ℕ) (o : Option Entry) (d : DeskState) → IsCommand (command.Cls foreign own) → Ranged d → Ranged (cls_taken_by peer busy own foreign o d)
ranged_cls peer busy own foreign None d ok h = ranged_fault NO_SOCKET (command.Cls foreign own) d (omega arith) ok h
ranged_cls peer busy own foreign (Some e) d ok h =
    let next : DeskState = settled busy (changed (is_at own foreign) closed_by_partner d) in
    ranged_if e.partner_closed d (swept peer next) h (ranged_swept peer next (ranged_settled busy (changed (is_at own foreign) closed_by_partner d) (ranged_changed (is_at own foreign) closed_by_partner d off h)))

-- ---- allocation

below : (a b n : ℕ) → a ≤ b → b < n → a < n
below a b n h k = omega (arith, h, k)

pub more_granted : (messages bits : ℕ) → Keeps (commands.granted messages bits)
more_granted messages bits e i = record { own = i.own; foreign = i.foreign; link = i.link; messages = capped (e.allocation.messages + messages) 65535 (2 ^ 16) (omega arith); bits = capped (e.allocation.bits + bits) 4294967295 (2 ^ 32) (omega arith) } where
  capped : (a b n : ℕ) → b < n → min a b < n
  capped a b n h = omega (arith, h)

pub less : (a b n : ℕ) → a < n → a - b < n
less a b n h = omega (arith, h)

less_given : (messages bits : ℕ) → Keeps (commands.given_back messages bits)
less_given messages bits e i = record {
  own = i.own;
  foreign = i.foreign;
  link = i.link;
  messages = less e.allocation.messages (counters.share e.allocation.messages messages) (2 ^ 16) i.messages;
  bits = less e.allocation.bits (counters.share e.allocation.bits bits) (2 ^ 32) i.bits;
}

less_returned : (messages bits : ℕ) → Keeps (commands.returned messages bits)
less_returned messages bits e i = record { own = i.own; foreign = i.foreign; link = i.link; messages = less e.allocation.messages messages (2 ^ 16) i.messages; bits = less e.allocation.bits bits (2 ^ 32) i.bits }

less_spent : (bits : ℕ) → Keeps (spent bits)
less_spent bits e i = record { own = i.own; foreign = i.foreign; link = i.link; messages = less e.allocation.messages 1 (2 ^ 16) i.messages; bits = less e.allocation.bits bits (2 ^ 32) i.bits }

-- ---- what is found on a link

abbrev FoundRange : commands.Found → Type 0
FoundRange Unconnected = Unit {0}
FoundRange Ending = Unit {0}
FoundRange (Open e) = IsInRange e

abbrev pub SomeRange : Option Entry → Type 0
SomeRange None = Unit {0}
SomeRange (Some e) = IsInRange e

some_step : (test : Entry → Bool) (x : Entry) (xs : List Entry) → IsInRange x → SomeRange (find test xs) → (b : Bool) → test x ≡ b → SomeRange (find test (x ∷ xs))
some_step test x xs is rest true e = rw e is
some_step test x xs is rest false e = rw e rest

pub some_range : (test : Entry → Bool) (xs : List Entry) → AreInRange xs → SomeRange (find test xs)
some_range test [] h = tt
some_range test (x ∷ xs) h = some_step test x xs h.0 (some_range test xs h.1) (test x) refl

found_range : (o : Option Entry) → SomeRange o → FoundRange (commands.found_in o)
found_range None h = tt
found_range (Some e) h = by (is_open e) (is_ending e) where
  by : (b c : Bool) → FoundRange (if b then Open e else (if c then Ending else Unconnected))
  by true c = h
  by false true = tt
  by false false = tt

ranged_end : (c : Command) (change : Entry → DeskState → DeskState) (f : commands.Found) (d : DeskState) → IsCommand c → FoundRange f → ((e : Entry) → IsInRange e → Ranged (change e d)) → Ranged d → Ranged (at_end c change f d)
ranged_end c change Unconnected d ok there k h = ranged_fault NOT_CONNECTED c d (omega arith) ok h
ranged_end c change Ending d ok there k h = h
ranged_end c change (Open e) d ok there k h = k e there

ranged_gvb : (link messages bits : ℕ) (e : Entry) (d : DeskState) → IsOctet link → IsInRange e → Ranged d → Ranged (gvb_taken link messages bits e d)
ranged_gvb link messages bits e d l is h =
    ranged_queued _ (changed (sends_on link) (commands.given_back messages bits) d)
    (l, below (counters.share e.allocation.messages messages) e.allocation.messages (2 ^ 16) (share-le e.allocation.messages messages) is.messages, below (counters.share e.allocation.bits bits) e.allocation.bits (2 ^ 32) (share-le e.allocation.bits bits) is.bits)
    (ranged_changed (sends_on link) (commands.given_back messages bits) d (less_given messages bits) h)

ranged_ret : (link messages bits : ℕ) (e : Entry) (d : DeskState) → IsCommand (command.Ret link messages bits) → Ranged d → Ranged (ret_taken link messages bits e d)
ranged_ret link messages bits e d ok h =
    ranged_if (nat_le messages e.allocation.messages && nat_le bits e.allocation.bits) (desk_told _ (changed (receives_on link) (commands.returned messages bits) d)) (commands.faulted ERRONEOUS (command.Ret link messages bits) d)
    (record { ends = ends_changed (receives_on link) (commands.returned messages bits) d.entries (less_returned messages bits) h.ends; commands = h.commands; sizes = h.sizes })
    (ranged_fault ERRONEOUS (command.Ret link messages bits) d (omega arith) ok h)

ranged_told : (ns : List Notice) (d : DeskState) → Ranged d → Ranged (desk_told ns d)
ranged_told ns d h = record { ends = h.ends; commands = h.commands; sizes = h.sizes }

-- ---- all commands, and data

pub ranged_taken : (peer : Host) (busy : List ℕ) (stamp : ℕ) (c : Command) (d : DeskState) → IsCommand c → Ranged d → Ranged (commands.desk_taken peer busy stamp c d)
ranged_taken peer busy stamp (command.Rts receive send link) d ok h = ranged_rts peer send receive link stamp d ok h
ranged_taken peer busy stamp (command.Str send receive size) d ok h = ranged_str_by peer receive send size stamp (entry_at receive send d.entries) d ok h
ranged_taken peer busy stamp (command.Cls mine yours) d ok h = ranged_cls peer busy yours mine (entry_at yours mine d.entries) d ok h
ranged_taken peer busy stamp (command.All link messages bits) d ok h =
    ranged_end (command.All link messages bits) (all_taken link messages bits) (sender_on link d) d ok (found_range (find (sends_on link) d.entries) (some_range (sends_on link) d.entries h.ends))
    (λ e is. ranged_changed (sends_on link) (commands.granted messages bits) d (more_granted messages bits) h) h
ranged_taken peer busy stamp (command.Gvb link messages bits) d ok h =
    ranged_end (command.Gvb link messages bits) (gvb_taken link messages bits) (sender_on link d) d ok (found_range (find (sends_on link) d.entries) (some_range (sends_on link) d.entries h.ends)) (λ e is. ranged_gvb link messages bits e d ok.0 is h) h
ranged_taken peer busy stamp (command.Ret link messages bits) d ok h =
    ranged_end (command.Ret link messages bits) (ret_taken link messages bits) (receiver_on link d) d ok (found_range (find (receives_on link) d.entries) (some_range (receives_on link) d.entries h.ends)) (λ e is. ranged_ret link messages bits e d ok h) h
ranged_taken peer busy stamp (command.Inr link) d ok h =
    ranged_end (command.Inr link) interrupted (sender_on link d) d ok (found_range (find (sends_on link) d.entries) (some_range (sends_on link) d.entries h.ends)) (λ e is. ranged_told _ d h) h
ranged_taken peer busy stamp (command.Ins link) d ok h =
    ranged_end (command.Ins link) interrupted (receiver_on link d) d ok (found_range (find (receives_on link) d.entries) (some_range (receives_on link) d.entries h.ends)) (λ e is. ranged_told _ d h) h
ranged_taken peer busy stamp (command.Eco octet) d ok h = ranged_queued (command.Erp octet) d ok h
ranged_taken peer busy stamp (command.Erp octet) d ok h = ranged_told _ d h
ranged_taken peer busy stamp (command.Err code detail) d ok h = ranged_told _ d h
ranged_taken peer busy stamp c d ok h = h

ranged_arrived : (link : ℕ) (e : Entry) (text : List Bool) (o : Option DataHeader) (d : DeskState) → Ranged d → Ranged (arrived_if link e text o d)
ranged_arrived link e text None d h = ranged_error ERRONEOUS (octets_of text) d (omega arith) (octets_below text) h
ranged_arrived link e text (Some o) d h =
    ranged_if (is_acceptable e o) _ _ (record { ends = ends_changed (receives_on link) _ d.entries (less_spent (data_bits o)) h.ends; commands = h.commands; sizes = h.sizes })
    (ranged_error ERRONEOUS (octets_of text) d (omega arith) (octets_below text) h)

ranged_data_found : (link : ℕ) (text : List Bool) (f : commands.Found) (d : DeskState) → Ranged d → Ranged (data_found link text f d)
ranged_data_found link text Unconnected d h = ranged_error NOT_CONNECTED (octets_of text) d (omega arith) (octets_below text) h
ranged_data_found link text Ending d h = h
ranged_data_found link text (Open e) d h = ranged_arrived link e text (header_of text) d h

pub ranged_data : (link : ℕ) (text : List Bool) (d : DeskState) → Ranged d → Ranged (data_taken link text d)
ranged_data link text d h = ranged_data_found link text (receiver_on link d) d h
