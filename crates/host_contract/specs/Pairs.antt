-- A host and one of its peers, as the host's own log has them (NIC 8246, RST and RRP).
use Rattle.std.specs.Prelude.{ℕ, ◌==◌, Bool, true, false, not, ◌&&◌, List, [], ◌∷◌, ◌++◌, map, filter, find, Option}
use Rattle.std.specs.Prelude.{Some, None, is_some, is_none, if◌then◌else◌}
use Rattle.std.specs.Option.{option_or}
use Rattle.ncp_control.specs.declared.command.Command.{Command}
use Rattle.host_contract.specs.Acts.{Sockets}
use Rattle.host_contract.specs.Ends.{End, new_end, is_open, receives}

-- why two hosts aren't through a reset, or why a connection is lost: there was no reset; the RRP came before the RFNM
-- of the RST; a message failed; the host stopped; a reset dropped it
pub data Why : Type 0 where
  Unreset : Why
  Early : Why
  Failed : Why
  Stopped : Why
  Dropped : Why

-- how far the host's reset with the peer is: the RST is out, and whether an RRP has come meanwhile; the RST was
-- taken; the exchange is done
pub data Stage : Type 0 where
  Away : (why : Why) → Stage
  Gone : (early : Bool) → Stage
  Heard : Stage
  Through : Stage

-- a message that has no answer: its first command, once it has one, and of data their end
pub record Sent : Type 0 where
  pub link : ℕ
  pub said : Option Command
  pub at : Option Sockets

-- a connection that is over: whether its partner had asked, and why it was lost; of one that both CLS ended, nothing
pub record Past : Type 0 where
  pub at : Sockets
  pub partner : Bool
  pub lost : Option Why

-- the reset, whether an RRP is owed, what has no answer, the ends with the oldest first, those that are over with the
-- newest first, and the sockets for which the peer's RTS was ignored
pub record Pair : Type 0 where
  pub stage : Stage
  pub owed : Bool
  pub out : List Sent
  pub ends : List End
  pub past : List Past
  pub ignored : List Sockets

abbrev pub opening : Pair
opening = record { stage = Away Unreset; owed = false; out = []; ends = []; past = []; ignored = [] }

-- ---- what is there

abbrev pub is_any : {A : Type 0} → (A → Bool) → Option A → Bool
is_any test None = false
is_any test (Some x) = test x

abbrev pub same_sockets : Sockets → Sockets → Bool
same_sockets s t = s.own == t.own && s.foreign == t.foreign

abbrev pub end_of : Sockets → Pair → Option End
end_of s p = find (λ e. same_sockets s e.at) p.ends

-- there is an end of these sockets, and it passes a test
abbrev pub has_end : Sockets → (End → Bool) → Pair → Bool
has_end s test p = is_any test (end_of s p)

-- the receiving end that has a link, or the sending one: the one that is open, or else the first
abbrev pub end_with : (End → Bool) → List End → Option End
end_with test ends = option_or (find (λ e. test e && is_open e) ends) (find test ends)

abbrev pub receiver : ℕ → Pair → Option End
receiver link p = end_with (λ e. receives e && is_any (λ n. n == link) e.link) p.ends

abbrev pub sender : ℕ → Pair → Option End
sender link p = end_with (λ e. not (receives e) && is_any (λ n. n == link) e.link) p.ends

abbrev pub outstanding : ℕ → Pair → Option Sent
outstanding link p = find (λ m. m.link == link) p.out

abbrev pub past_of : Sockets → Pair → Option Past
past_of s p = find (λ e. same_sockets s e.at) p.past

-- why nothing but RST and RRP may go
abbrev pub why_away : Stage → Option Why
why_away (Away why) = Some why
why_away (Gone early) = Some (if early then Early else Unreset)
why_away Heard = Some Unreset
why_away Through = None

abbrev pub is_through : Pair → Bool
is_through p = is_none (why_away p.stage)

-- ---- what becomes of it

abbrev pub changed : Sockets → (End → End) → Pair → Pair
changed s change p = record p { ends = map (λ e. if same_sockets s e.at then change e else e) p.ends }

-- an end is there from the first that is said or wished of it
abbrev pub entered : Sockets → Pair → Pair
entered s p = if is_some (end_of s p) then p else record p { ends = p.ends ++ new_end s ∷ [] }

-- some of its ends are over
abbrev pub over : Option Why → (End → Bool) → Pair → Pair
over lost test p = record p {
  ends = filter (λ e. not (test e)) p.ends;
  past = map (λ e. record { at = e.at; partner = e.partner; lost = lost }) (filter test p.ends) ++ p.past;
}

abbrev pub all_lost : Why → Pair → Pair
all_lost why p = over (Some why) (λ e. true) p

-- both CLS have crossed
abbrev pub swept : Pair → Pair
swept p = over None (λ e. e.gone && e.taken) p
