-- The numbers of the connections of a host's program, and what each link's law knows of all of them (NIC 8246, STR and CLS name no link).
use Rattle.std.specs.Prelude.{◌≡◌, ℕ, ◌==◌, ◌||◌, Bool, false, List, [], ◌∷◌, map, Some, None}
use Rattle.ncp_control.specs.declared.command.Command.{Command}
use Rattle.ncp_control.specs.declared.command.Command.TheVariants as command
use Rattle.stream_law.specs.Receivers.{Receiver}
use Rattle.stream_law.specs.Senders.{Sender}
use Rattle.host_pairs.specs.Entries.{entry_at, has_cls, is_receiving}
use Rattle.host_pairs.specs.declared.entry.Entry.{Entry}
use Rattle.host_keeps_streams.specs.Ends.{HasSender}

-- the number of an end's connection
abbrev pub named : (ℕ → ℕ → ℕ) → Entry → ℕ
named name e = name e.own e.foreign

abbrev pub numbers : (ℕ → ℕ → ℕ) → List Entry → List ℕ
numbers name entries = map (named name) entries

abbrev pub is_among : ℕ → List ℕ → Bool
is_among c [] = false
is_among c (k ∷ ks) = k == c || is_among c ks

-- no number occurs twice
abbrev pub AreApart : List ℕ → Type 0
AreApart [] = Unit {0}
AreApart (c ∷ cs) = (is_among c cs ≡ false) × AreApart cs

-- the law's sender knows what was said of this sending end, on whatever link it is, or will be
pub record IsKnown (c : ℕ) (e : Entry) (s : Sender) : Type 0 where
  pub size : s.size c ≡ e.size
  pub closed : s.closed c ≡ has_cls e.closing

abbrev pub AreKnown : (ℕ → ℕ → ℕ) → List Entry → Sender → Type 0
AreKnown name [] s = Unit {0}
AreKnown name (e ∷ entries) s = (is_receiving e ≡ false → IsKnown (named name e) e s) × AreKnown name entries s

-- what the law's sender has of a host's ends: the one on its link, and what was said of all of them
pub record IsSending (name : ℕ → ℕ → ℕ) (link : ℕ) (entries : List Entry) (s : Sender) : Type 0 where
  pub here : HasSender name link entries s
  pub known : AreKnown name entries s

-- a number that no end has, and of which the law's receiver knows nothing
pub record IsNewReceived (c : ℕ) (taken : List ℕ) (r : Receiver) : Type 0 where
  pub free : is_among c taken ≡ false
  pub unasked : r.asked c ≡ false
  pub untold : r.size c ≡ None
  pub unheard : r.over c ≡ false

-- and of which the law's sender knows nothing
pub record IsNewSent (c : ℕ) (taken : List ℕ) (s : Sender) : Type 0 where
  pub free : is_among c taken ≡ false
  pub untold : s.size c ≡ None
  pub unclosed : s.closed c ≡ false
  pub unheard : s.end ≡ Some c → ⊥

-- a request of the peer for which there is no end yet has such a number
abbrev pub NewReceived : (ℕ → ℕ → ℕ) → Command → List Entry → Receiver → Type 0
NewReceived name (command.Str send receive size) entries r = entry_at receive send entries ≡ None → IsNewReceived (name receive send) (numbers name entries) r
NewReceived name c entries r = Unit {0}

abbrev pub NewSent : (ℕ → ℕ → ℕ) → Command → List Entry → Sender → Type 0
NewSent name (command.Rts receive send link) entries s = entry_at send receive entries ≡ None → IsNewSent (name send receive) (numbers name entries) s
NewSent name c entries s = Unit {0}

abbrev pub NewNumber : (ℕ → ℕ → ℕ) → Command → List Entry → Type 0
NewNumber name (command.Rts receive send link) entries = entry_at send receive entries ≡ None → is_among (name send receive) (numbers name entries) ≡ false
NewNumber name (command.Str send receive size) entries = entry_at receive send entries ≡ None → is_among (name receive send) (numbers name entries) ≡ false
NewNumber name c entries = Unit {0}
