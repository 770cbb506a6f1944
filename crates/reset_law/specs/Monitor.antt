-- Clean points, determined by contacts, messages and answers only: no phase of a host program occurs here.
use Rattle.std.specs.Prelude.{ℕ, ◌<◌, Bool, true, false, not, ◌&&◌, ◌||◌, ◌==◌, List, [], ◌∷◌, Option, Some, None, if◌then◌else◌}
use Rattle.interface.specs.Host.{Host}
use Rattle.interface.specs.declared.crossing.Answer.{Answer}
use Rattle.interface.specs.declared.crossing.Answer.TheVariants as answer
use Rattle.reset_law.specs.Events.{Message, Reset, Reply, Other, Event, Part, Call, Send, Take, Hear, Begin, part_of, place}
use Rattle.reset_law.specs.Boxes.{at_link}

-- the last RST that went out for a contact: none yet, or one without an answer, or one with its RFNM
pub data Stage : Type 0 where
  Unsent : Stage
  OnItsWay : Stage
  Received : Stage

-- a host and one peer since the host came up last:
pub record Monitor : Type 0 where
  -- a contact waits for its reset
  pub pending : Bool
  pub stage : Stage
  -- an RRP was taken between that RST and its RFNM
  pub early : Bool
  -- an RST of the peer was taken, and no RRP has gone out since
  pub owed : Bool
  -- on this link a message is outstanding that went out after that RST
  pub after : ℕ → Bool
  -- the place of the last clean point
  pub clean : Option ℕ

abbrev pub opening_monitor : Monitor
opening_monitor = record { pending = false; stage = Unsent; early = false; owed = false; after = λ k. false; clean = None }

abbrev pub was_sent : Stage → Bool
was_sent Unsent = false
was_sent OnItsWay = true
was_sent Received = true

abbrev pub is_on_its_way : Stage → Bool
is_on_its_way Unsent = false
is_on_its_way OnItsWay = true
is_on_its_way Received = false

abbrev pub is_received : Stage → Bool
is_received Unsent = false
is_received OnItsWay = false
is_received Received = true

abbrev pub after_sent : ℕ → Monitor → ℕ → Bool
after_sent l m = if m.pending && was_sent m.stage then at_link m.after l true else m.after

abbrev pub monitor_sent : ℕ → Message → Monitor → Monitor
monitor_sent l Reset m = record m { stage = OnItsWay; early = false; after = λ k. false }
monitor_sent l Reply m = record m { owed = false; after = after_sent l m }
monitor_sent l (Other text) m = record m { after = after_sent l m }

-- an RRP ends a contact where its RST has its RFNM and no RRP came early
abbrev pub counts : Monitor → Bool
counts m = m.pending && is_received m.stage && not m.early

abbrev pub comes_early : Monitor → Bool
comes_early m = m.pending && is_on_its_way m.stage

-- an RST of the peer is a clean point where no contact waits, and an RRP is one where it ends a contact
abbrev pub monitor_took : ℕ → Message → Monitor → Monitor
monitor_took here Reset m = record m { owed = true; clean = if m.pending then m.clean else Some here }
monitor_took here Reply m = record m {
  pending = if counts m then false else m.pending;
  early = if comes_early m then true else m.early;
  clean = if counts m then Some here else m.clean;
}
monitor_took here (Other text) m = m

-- a contact ends too where its RST fails, or a message after it while no RRP is owed
abbrev pub ends_contact : ℕ → Monitor → Bool
ends_contact l m = (is_on_its_way m.stage && l == 0) || (m.after l && not m.owed)

abbrev pub monitor_failed : ℕ → Monitor → Monitor
monitor_failed l m = record m { pending = m.pending && not (ends_contact l m); after = at_link m.after l false }

abbrev pub monitor_told : ℕ → Answer → Monitor → Monitor
monitor_told l answer.Rfnm m = record m { stage = if is_on_its_way m.stage && l == 0 then Received else m.stage; after = at_link m.after l false }
monitor_told l answer.Dead m = monitor_failed l m
monitor_told l answer.Incomplete m = monitor_failed l m
monitor_told l answer.NotTaken m = monitor_failed l m

abbrev pub monitored : ℕ → Option Part → Monitor → Monitor
monitored here None m = m
monitored here (Some Call) m = record m { pending = true; stage = Unsent; early = false; after = λ k. false }
monitored here (Some (Send l message)) m = monitor_sent l message m
monitored here (Some (Take message)) m = monitor_took here message m
monitored here (Some (Hear l k)) m = monitor_told l k m
monitored here (Some Begin) m = opening_monitor

abbrev pub monitor : Host → Host → List Event → Monitor
monitor a b [] = opening_monitor
monitor a b (e ∷ events) = monitored (place events) (part_of a b e) (monitor a b events)

-- a place comes after the last clean point, and there is one
abbrev pub IsAfter : ℕ → Option ℕ → Type 0
IsAfter p None = ⊥
IsAfter p (Some c) = c < p
