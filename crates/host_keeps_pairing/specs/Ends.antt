-- One pair of sockets in a host's program, as the law of pairing has it (NIC 8246, RTS, STR and CLS).
use Rattle.std.specs.Prelude.{◌≡◌, ℕ, Bool, true, false, ◌&&◌, if◌then◌else◌, List, [], ◌∷◌, ◌++◌, map, filter, Option, Some, None, is_some}
use Rattle.ncp_control.specs.declared.command.Command.{Command}
use Rattle.pairing_law.specs.Ends.{End, nothing}
use Rattle.pairing_law.specs.Marks.{Mark, Ask, Close}
use Rattle.host_pairs.specs.Entries.{has_cls, is_at, is_sent}
use Rattle.host_pairs.specs.Pair.{PairState}
use Rattle.ncp_control.specs.Phases.{is_ready}
use Rattle.host_pairs.specs.declared.entry.Closing.{Closing}
use Rattle.host_pairs.specs.declared.entry.Closing.TheVariants as closing
use Rattle.host_pairs.specs.declared.entry.Entry.{Entry}
use Rattle.host_keeps_pairing.specs.Words.{marks}

-- ---- an end

-- what matters of a program's end: whether it is this host's own; the places where its own request went out and where its partner's
-- was taken; how far its own CLS has come, and whether the partner's was taken
pub record Standing : Type 0 where
  pub mine : Bool
  pub asked : Option ℕ
  pub partner : Option ℕ
  pub closing : Closing
  pub partner_closed : Bool

abbrev pub standing : Entry → Standing
standing e = record { mine = e.mine; asked = e.asked; partner = e.partner; closing = e.closing; partner_closed = e.partner_closed }

-- the ends of these two sockets
abbrev pub at : ℕ → ℕ → List Entry → List Standing
at own foreign entries = map standing (filter (is_at own foreign) entries)

-- both CLS have passed
abbrev pub is_past : Standing → Bool
is_past s = is_sent s.closing && s.partner_closed

-- ---- the same as the law has it

-- the law names a partner's request by the place where it went out, and the program by that where it was taken
abbrev pub came_from : (ℕ → ℕ) → Option ℕ → Option ℕ
came_from origin None = None
came_from origin (Some place) = Some (origin place)

abbrev pub end_of : (ℕ → ℕ) → Standing → End
end_of origin s =
    if is_past s then nothing
    else record { asked = s.asked; partner = came_from origin s.partner; gone = is_sent s.closing; taken = s.partner_closed }

-- ---- what waits to be said of it

-- a host asks for its own ends only, and for each once
abbrev pub request_due : ℕ → Bool → Option ℕ → List Mark
request_due place true None = Ask place ∷ []
request_due place mine asked = []

abbrev pub close_waits : Closing → List Mark
close_waits closing.Queued = Close ∷ []
close_waits c = []

-- its request, then its CLS, if both went out at this place
abbrev pub due : ℕ → Standing → List Mark
due place s = request_due place s.mine s.asked ++ close_waits s.closing

-- ---- its `Standing`

-- an end whose CLS have both passed is there only until it is swept; an end that isn't this host's own is that of a request
-- which it refuses; no CLS goes out before the own request, and only an own end has one
pub record IsSound (swept : Bool) (s : Standing) : Type 0 where
  pub live : swept ≡ true → is_past s ≡ false
  pub refused : s.mine ≡ false → (is_some s.partner ≡ true) × (has_cls s.closing ≡ true)
  pub asked : is_sent s.closing ≡ true → s.mine ≡ true → is_some s.asked ≡ true
  pub own : is_some s.asked ≡ true → s.mine ≡ true

-- there is no end, and nothing waits; or there is one, and what waits is what it still has to say
abbrev pub Stand : Bool → (ℕ → ℕ) → ℕ → List Standing → List Mark → End → Type 0
Stand swept origin place [] words x = (words ≡ []) × (x ≡ nothing)
Stand swept origin place (s ∷ []) words x = IsSound swept s × (words ≡ due place s) × (x ≡ end_of origin s)
Stand swept origin place (s ∷ t ∷ more) words x = ⊥

-- these ends and these commands that wait are, for these two sockets, the law's end `x`
abbrev pub AreEnd : Bool → (ℕ → ℕ) → ℕ → ℕ → List Entry → List Command → End → Type 0
AreEnd swept origin own foreign entries queue x = (place : ℕ) → Stand swept origin place (at own foreign entries) (marks place own foreign queue) x

-- a host's program has this end with a peer; and none unless both are through a reset
pub record HasEnd (origin : ℕ → ℕ) (own foreign : ℕ) (q : PairState) (x : End) : Type 0 where
  pub ends : AreEnd true origin own foreign q.entries q.queue x
  pub idle : is_ready q.phase ≡ false → x ≡ nothing

-- an end is kept while the pair is ready
abbrev pub kept_in : PairState → End → End
kept_in q x = if is_ready q.phase then x else nothing
