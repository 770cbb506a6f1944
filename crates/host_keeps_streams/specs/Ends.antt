-- The ends of a host's program on one link, as the law of streams has them (NIC 8246, ALL, GVB and RET).
use Rattle.std.specs.Prelude.{◌≡◌, ◌⊎◌, ℕ, Bool, true, false, ◌&&◌, List, [], ◌∷◌, filter, Some, None, is_some}
use Rattle.stream_law.specs.Receivers.{Receiver}
use Rattle.stream_law.specs.Senders.{Sender}
use Rattle.host_pairs.specs.Entries.{has_cls, is_due, is_over, receives_on, sends_on}
use Rattle.host_pairs.specs.declared.entry.Entry.{Entry}

-- its own request has gone out and the partner's was taken
abbrev pub has_opened : Entry → Bool
has_opened e = is_some e.asked && is_some e.partner

-- the law's end of connection `c` is this one. A CLS that waits to go out is said; an end that receives waits for nothing before it closes, and
-- goes as soon as both CLS have passed
pub record IsReceiver (c : ℕ) (e : Entry) (r : Receiver) : Type 0 where
  pub end : r.end ≡ Some c
  pub opened : r.opened ≡ has_opened e
  pub closed : r.closed ≡ has_cls e.closing
  pub over : r.over c ≡ e.partner_closed
  pub size : r.size c ≡ e.size
  pub allocation : r.allocation ≡ e.allocation
  pub due : is_due e.closing ≡ false
  pub live : is_over e ≡ false

pub record IsSender (c : ℕ) (e : Entry) (s : Sender) : Type 0 where
  pub end : s.end ≡ Some c
  pub opened : s.opened ≡ has_opened e
  pub shut : s.shut ≡ e.partner_closed
  pub closed : s.closed c ≡ has_cls e.closing
  pub size : s.size c ≡ e.size
  pub allocation : s.allocation ≡ e.allocation
  pub live : is_over e ≡ false

-- the law's sender has no end, or one that didn't open or has closed, as that of a request which was refused
abbrev pub NoneOpen : Sender → Type 0
NoneOpen s = (c : ℕ) → s.end ≡ Some c → s.opened ≡ true → s.closed c ≡ true

-- the partner's CLS was taken and the own one waits to go out: the law's end is gone before
pub record IsLeaving (e : Entry) (s : Sender) : Type 0 where
  pub closed : has_cls e.closing ≡ true
  pub shut : e.partner_closed ≡ true
  pub live : is_over e ≡ false
  pub none : NoneOpen s

-- of the ends on a link there is at most one, and it is the law's. `name` is the number of the connection of two sockets, own and foreign
abbrev pub AreReceiver : (ℕ → ℕ → ℕ) → List Entry → Receiver → Type 0
AreReceiver name [] r = r.end ≡ None
AreReceiver name (e ∷ []) r = IsReceiver (name e.own e.foreign) e r
AreReceiver name (e ∷ f ∷ more) r = ⊥

abbrev pub AreSender : (ℕ → ℕ → ℕ) → List Entry → Sender → Type 0
AreSender name [] s = NoneOpen s
AreSender name (e ∷ []) s = IsSender (name e.own e.foreign) e s ⊎ IsLeaving e s
AreSender name (e ∷ f ∷ more) s = ⊥

-- these ends are, on this link, the law's
abbrev pub HasReceiver : (ℕ → ℕ → ℕ) → ℕ → List Entry → Receiver → Type 0
HasReceiver name link entries r = AreReceiver name (filter (receives_on link) entries) r

abbrev pub HasSender : (ℕ → ℕ → ℕ) → ℕ → List Entry → Sender → Type 0
HasSender name link entries s = AreSender name (filter (sends_on link) entries) s
