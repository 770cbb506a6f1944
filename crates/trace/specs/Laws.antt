-- The laws of src/ that are longer than a line: each is a record, and its fields are the clauses.
use Rattle.std.specs.List.{All, Contains}
use Rattle.std.specs.Prelude.{List, None, Some, [], codes, false, is_ok, true, ℕ, ◌∷◌, ◌≡◌, ◌⊎◌}
use Rattle.interface.specs.Host.{Host}
use Rattle.interface.specs.declared.carrier.CarrierFault.TheVariants as fault
use Rattle.interface.specs.declared.crossing.Answer.TheVariants as answer
use Rattle.interface.specs.declared.crossing.Crossing.TheVariants as crossing
use Rattle.interface.specs.declared.event.NetEvent.TheVariants as net
use Rattle.leader1822.specs.Boxes.{Boxes, opening_boxes, plain_calls}
use Rattle.replay.specs.Output.{Crossed, Refused, Shown, crossings_of}
use Rattle.replay.specs.Replay.{Happens, IsOneCall, Replays}
use Rattle.script.specs.Spelling.{IsEvent}
use Rattle.script.specs.declared.event.RawEvent.TheVariants as event
use Rattle.script.specs.declared.event.RawEvent.{RawEvent}
use Rattle.topology.specs.declared.network.CarrierKind.TheVariants as kind
use Rattle.trace.specs.Changes.{AreOfOne, IsGone, IsLostAt, changed_parts, members_of}
use Rattle.trace.specs.Flows.{gone}
use Rattle.trace.specs.Kept.{IsTold}
use Rattle.trace.specs.Parts.{Down, IsPart, Part, SamePart, Waiting, is_named, parts_of}
use Rattle.trace.specs.Texts.{answer_object, crossing_object, opening_line, part_name, part_text, queues_text}
use Rattle.trace.specs.Texts.{trace_line, whole_text}
use Rattle.trace.specs.Traces.{SaysAll, TellsEvent, asking_from, change_text, numbered_from, plain_inside}
use Rattle.trace.specs.Worked.{empty, first, flow, second, short, taken, third, waiting, with_down}
use Rattle.trace.specs.declared.all_parts.AllParts.{AllParts}
use Rattle.trace.specs.declared.element.Spot.{Spot}
use Rattle.trace.specs.declared.fate.Fate.TheVariants as fate
use Rattle.trace.specs.declared.flow_part.FlowPart.{FlowPart}

-- What is traced of an event says all of it, though a calm is traced up to its first still round only.
pub record Saying : Type 0 where
  pub events :
      (old new other : Boxes) (spot : Spot) (e : RawEvent) (lines : List (List ℕ)) (shown : List Shown) →
      TellsEvent plain_calls plain_inside old (spot, e) new lines → Happens plain_calls old e other shown →
      SaysAll plain_calls plain_inside spot old new lines other shown

-- What an elementary event's parts do not name is as before.
pub record Rest : Type 0 where
  pub parts :
      (old new : Boxes) (e : RawEvent) (shown : List Shown) (p : Part) → IsOneCall e →
      Happens plain_calls old e new shown → IsPart old.hosts p →
      is_named p (parts_of old.hosts e (crossings_of shown)) ≡ false → SamePart p old new
  pub hosts :
      (old new : Boxes) (e : RawEvent) (shown : List Shown) → IsOneCall e → Happens plain_calls old e new shown →
      new.hosts ≡ old.hosts

-- A refused event changes no part.
pub record Refusal : Type 0 where
  pub parts :
      (old new : Boxes) (e : RawEvent) (shown : List Shown) → IsOneCall e → (h : Happens plain_calls old e new shown) →
      is_ok h.outcome ≡ false → change_text plain_inside old new ≡ codes "{}"

-- What a line says of all parts. A reader who puts the parts of a line in the place of those before has all, where
-- `null` is the text of a flow that is there no more.
pub record Changes : Type 0 where
  -- each part that is there now is among those of the line, or was there before
  pub kept :
      (before now : AllParts) (t : List ℕ) → Contains (members_of now) t →
      Contains (changed_parts before now) t ⊎ Contains (members_of before) t
  -- those of the line are there now, or are the null of a flow that is there no more; and each of these is among them
  pub only :
      (before now : AllParts) (t : List ℕ) → Contains (changed_parts before now) t →
      Contains (members_of now) t ⊎ IsGone before.flows now.flows t
  pub lost :
      (before now : AllParts) (place : ℕ) (p : FlowPart) → IsLostAt before.flows now.flows place p →
      Contains (changed_parts before now) (gone p)
  -- where none has changed all are as they were. This is of parts of one network, as those of all states over the same
  -- hosts are
  pub none : (before now : AllParts) → AreOfOne before now → changed_parts before now ≡ [] → now ≡ before
  pub rises :
      (one other : Boxes) → one.hosts ≡ other.hosts → AreOfOne (plain_inside.members one) (plain_inside.members other)
  -- where all are as they were none has changed
  pub same : (now : AllParts) → changed_parts now now ≡ []

-- The texts of all parts determine the whole state, but for the log, in every state that a replay comes to.
pub record Whole : Type 0 where
  pub texts :
      (one other : Boxes) → IsTold one → IsTold other → one.hosts ≡ other.hosts →
      ((p : Part) → IsPart one.hosts p → part_text one p ≡ part_text other p) → other ≡ record one { log = other.log }
  -- the events are those that a script may ask for
  pub reached :
      (hosts : List Host) (events : List RawEvent) (new : Boxes) (shown : List Shown) → All IsEvent events →
      Replays plain_calls (opening_boxes hosts) events new shown → IsTold new

-- The text of each part.
pub record WorkedTexts : Type 0 where
  -- the hosts that are down, in the order in which they went down
  pub down : part_text (with_down (third ∷ first ∷ [])) Down ≡ codes "[\"0/2\",\"0/1\"]"
  pub none_down : part_text (with_down []) Down ≡ codes "[]"
  -- what waits, oldest first: messages with their texts, and answers
  pub queues :
      queues_text (short ∷ empty ∷ []) ((answer.Rfnm, flow) ∷ (answer.Dead, flow) ∷ [])
      ≡ codes "{\"messages\":[{\"from\":\"0/1\",\"to\":\"0/2\",\"link\":5,\"bits\":3,\"octets\":\"A0\"},{\"from\":\"0/1\",\"to\":\"0/2\",\"link\":6,\"bits\":0,\"octets\":\"\"}],\"answers\":[{\"kind\":\"rfnm\",\"from\":\"0/1\",\"to\":\"0/2\",\"link\":5},{\"kind\":\"dead\",\"from\":\"0/1\",\"to\":\"0/2\",\"link\":5}]}"
  pub no_queues : queues_text [] [] ≡ codes "{\"messages\":[],\"answers\":[]}"
  -- two answers that are alike to hosts are distinguished
  pub incomplete :
      answer_object (answer.Incomplete, flow)
      ≡ codes "{\"kind\":\"incomplete\",\"from\":\"0/1\",\"to\":\"0/2\",\"link\":5}"
  pub not_taken :
      crossing_object (crossing.Answer answer.NotTaken flow)
      ≡ codes "{\"kind\":\"nottaken\",\"from\":\"0/1\",\"to\":\"0/2\",\"link\":5}"
  -- what else crosses
  pub went_out :
      crossing_object (crossing.Out short)
      ≡ codes "{\"kind\":\"out\",\"from\":\"0/1\",\"to\":\"0/2\",\"link\":5,\"bits\":3,\"octets\":\"A0\"}"
  pub stopped : crossing_object (crossing.Down second) ≡ codes "{\"kind\":\"down\",\"host\":\"1/1\"}"
  -- their names
  pub down_name : part_name Down ≡ codes "down"
  pub host_name : part_name (Waiting second) ≡ codes "host 1/1"

-- Lines of a trace.
pub record WorkedLines : Type 0 where
  -- the network: the order of its lines says which of them line 0 is, and which way `+` is
  pub opening :
      opening_line (record {
        carrier = kind.Subnet;
        raw = true;
        imps = record { imp = 1; hosts = 2 } ∷ record { imp = 3; hosts = 0 } ∷ [];
        lines = record { a = 3; b = 1 } ∷ [];
        strangers = [];
      }) (codes "{}")
      ≡ codes "{\"trace\":3,\"carrier\":\"subnet\",\"raw\":true,\"imps\":[[1,2],[3,0]],\"lines\":[[3,1]],\"parts\":{}}"
  pub all_parts :
      whole_text (opening_boxes (third ∷ [])) ≡ codes "{\"down\":[],\"host 0/2\":{\"messages\":[],\"answers\":[]}}"
  -- lines that ask for nothing are counted, and their numbers passed over
  pub numbers : asking_from 1 (codes "calm 1" ∷ [] ∷ codes "# then" ∷ codes "take 0/1" ∷ []) ≡ 1 ∷ 4 ∷ []
  pub numbered :
      numbered_from 1 ((1, event.Calm 1) ∷ (4, event.Take first) ∷ [])
      ≡ (record { line = 1; number = 1 }, event.Calm 1) ∷ (record { line = 4; number = 2 }, event.Take first) ∷ []
  pub start :
      trace_line (record { line = 9; number = 7 })
      (record { round = 0; event = event.Net (net.HostUp third) }) None (Crossed (crossing.Up third) ∷ [])
      (change_text plain_inside (with_down (third ∷ first ∷ [])) (with_down (first ∷ [])))
      ≡ codes "{\"line\":9,\"number\":7,\"round\":0,\"event\":\"hostup 0/2\",\"crossed\":[{\"kind\":\"up\",\"host\":\"0/2\"}],\"printed\":[\"up 0/2\"],\"parts\":{\"down\":[\"0/1\"]}}"
  pub refused :
      trace_line (record { line = 12; number = 12 })
      (record { round = 0; event = event.Net (net.Resend 1) }) None (Refused fault.NoSuch ∷ [])
      (change_text plain_inside (with_down []) (with_down []))
      ≡ codes "{\"line\":12,\"number\":12,\"round\":0,\"event\":\"resend 1\",\"crossed\":[],\"printed\":[\"refused NoSuch\"],\"parts\":{}}"
  pub taken :
      trace_line (record { line = 3; number = 3 })
      (record { round = 2; event = event.Take third }) None (Crossed (crossing.In short) ∷ [])
      (change_text plain_inside waiting taken)
      ≡ codes "{\"line\":3,\"number\":3,\"round\":2,\"event\":\"take 0/2\",\"crossed\":[{\"kind\":\"in\",\"from\":\"0/1\",\"to\":\"0/2\",\"link\":5,\"bits\":3,\"octets\":\"A0\"}],\"printed\":[\"in 0/1 0/2 5 3\"],\"parts\":{\"host 0/1\":{\"messages\":[],\"answers\":[{\"kind\":\"rfnm\",\"from\":\"0/1\",\"to\":\"0/2\",\"link\":5}]},\"host 0/2\":{\"messages\":[],\"answers\":[]}}}"
  -- the fate of a frame comes before what crossed
  pub delivered :
      trace_line (record { line = 1; number = 1 }) (record { round = 1; event = event.Calm 0 })
      (Some fate.NoRoom) [] (codes "{}")
      ≡ codes "{\"line\":1,\"number\":1,\"round\":1,\"event\":\"calm 0\",\"fate\":\"noroom\",\"crossed\":[],\"printed\":[],\"parts\":{}}"
