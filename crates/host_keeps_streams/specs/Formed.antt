-- How far the ends of a host's program have come, and what they know then (NIC 8246, RTS, STR and CLS).
use Rattle.std.specs.Prelude.{◌≡◌, ℕ, true, false, List, [], ◌∷◌, None, Some, is_some}
use Rattle.std.specs.List.{list_any}
use Rattle.ncp_control.specs.Allocation as counters
use Rattle.ncp_control.specs.declared.command.Command.{Command}
use Rattle.ncp_control.specs.declared.command.Command.TheVariants as command
use Rattle.stream_law.specs.Senders.{Sender}
use Rattle.host_pairs.specs.Entries.{entry_at, has_cls, is_over, is_receiving, sends_on}
use Rattle.host_pairs.specs.declared.entry.Entry.{Entry}
use Rattle.host_keeps_streams.specs.Names.{numbers, AreApart}

-- an end that receives on a link knows its byte size once its partner's request was taken. One that sends knows it where it has a link; it
-- has neither a link nor counters before that request, and knows its size then; and without a link it closes as soon as it hears a CLS. An end
-- of which both CLS have passed is gone
pub record IsFormed (e : Entry) : Type 0 where
  pub live : is_over e ≡ false
  pub told : is_receiving e ≡ true → is_some e.link ≡ true → is_some e.partner ≡ true → is_some e.size ≡ true
  pub linked : is_receiving e ≡ false → is_some e.link ≡ true → is_some e.size ≡ true
  pub unlinked : is_receiving e ≡ false → is_some e.partner ≡ false → e.link ≡ None
  pub sized : is_receiving e ≡ false → is_some e.partner ≡ false → is_some e.size ≡ true
  pub ungranted : is_receiving e ≡ false → is_some e.partner ≡ false → e.allocation ≡ counters.nothing
  pub shut : is_receiving e ≡ false → e.link ≡ None → e.partner_closed ≡ true → has_cls e.closing ≡ true

abbrev pub AreFormed : List Entry → Type 0
AreFormed [] = Unit {0}
AreFormed (e ∷ entries) = IsFormed e × AreFormed entries

-- what holds of all ends of a host with a peer: each is formed, and no two have one number
pub record AreSound (name : ℕ → ℕ → ℕ) (entries : List Entry) : Type 0 where
  pub formed : AreFormed entries
  pub apart : AreApart (numbers name entries)

-- an RTS that names this link, where the program has no end on it, finds the law's free too
abbrev pub FindsFree : ℕ → Command → List Entry → Sender → Type 0
FindsFree link (command.Rts receive send l) entries s = l ≡ link → list_any (sends_on link) entries ≡ false → s.end ≡ None
FindsFree link c entries s = Unit {0}

-- a CLS that goes out is that of an end which said it
abbrev pub HasSaid : Command → List Entry → Type 0
HasSaid (command.Cls own foreign) entries = (e : Entry) → entry_at own foreign entries ≡ Some e → has_cls e.closing ≡ true
HasSaid c entries = Unit {0}
