-- The flows of an IMP's hosts (BBN Report 1822: a link is blocked from a message until the answer to it).
--
-- A flow at its source is idle, outstanding with a number, or answered: then its answer waits for the host. Numbers and what is
-- outstanding are in the tables of crate link_table.
use Rattle.std.specs.Prelude.{ℕ, Bool, true, not, [], ◌∷◌, ◌++◌, ◌&&◌, slice_set, if◌then◌else◌}
use Rattle.std.specs.FinMap as map
use Rattle.std.specs.List.{list_any}
use Rattle.interface.specs.Flow.{same_flow}
use Rattle.interface.specs.declared.address.Flow.{Flow}
use Rattle.interface.specs.declared.crossing.Answer.{Answer}
use Rattle.link_table.specs.Flows as tables
use Rattle.link_table.specs.Flows.{is_idle_in, number_in, release_in, begun, flow_answered, handed}
use Rattle.link_table.specs.declared.destination.Fate.{Fate}
use Rattle.link_table.specs.declared.source.Release.{Release}
use Rattle.link_table.specs.declared.source.Release.TheVariants as release
use Rattle.packetiser.specs.PacketFields.{PacketFields}
use Rattle.packetiser.specs.declared.packet.PacketKind.{PacketKind}
use Rattle.imp_node.specs.declared.waiting.Message.{Message}
use Rattle.imp_node.specs.declared.waiting.Told.{Told}
use Rattle.imp_node.specs.State.{State, HostState, host_at, is_up}

-- ---- at the source

abbrev pub is_about : Flow → Told → Bool
is_about f told = same_flow f told.flow

-- A flow is idle: nothing of it is outstanding, and no answer of it waits. (A Dead that was given at once belongs to no number,
-- so only the fact that it waits shows it)
abbrev pub is_idle : State → Flow → Bool
is_idle s f = is_idle_in (map.get s.sources f) && not (list_any (is_about f) (host_at s f.source.host).answers)

-- the number of its next message
abbrev pub next_number : State → Flow → ℕ
next_number s f = number_in (map.get s.sources f)

abbrev pub with_begun : Flow → State → State
with_begun f s = record s { sources = begun s.sources f }

-- an answer waits for a host that is up
abbrev pub given : HostState → Told → HostState
given h told = record h { answers = if h.up then h.answers ++ told ∷ [] else h.answers }

-- An answer waits for the source of its flow. Where the source is down, the flow is idle at once
abbrev pub answer_queued : Answer → Flow → State → State
answer_queued kind f s = record s {
  hosts = slice_set s.hosts f.source.host (given (host_at s f.source.host) (record { kind = kind; flow = f }));
  sources = if is_up s f.source.host then s.sources else handed s.sources f;
}

-- An answer to the message of this number comes to its flow: with the outstanding number it frees the flow, with any other it
-- is stale
abbrev pub answered_by : Release → Answer → Flow → ℕ → State → State
answered_by release.Freed kind f n s = answer_queued kind f (record s { sources = flow_answered s.sources f n })
answered_by release.Stale kind f n s = s

abbrev pub freed : Answer → Flow → ℕ → State → State
freed kind f n s = answered_by (release_in n (map.get s.sources f)) kind f n s

-- ---- at the destination

-- a number is the last that was noted of its flow, with the fate of its message
abbrev pub noted : Flow → ℕ → Fate → State → State
noted f n new s = record s { kept = tables.noted s.kept f n new }

-- the message of this number met another fate, if the number is still its flow's last
abbrev pub fated : Flow → ℕ → Fate → State → State
fated f n new s = record s { kept = tables.ended s.kept f n new }

-- a whole message waits for its host after the others
abbrev pub message_queued : Message → State → State
message_queued m s = record s {
  hosts = slice_set s.hosts m.flow.destination.host (record (host_at s m.flow.destination.host) { queue = (host_at s m.flow.destination.host).queue ++ m ∷ [] });
}

-- ---- answers that travel

-- the packet that notifies a message's source of what became of it
abbrev pub answer_packet : PacketKind → Flow → ℕ → PacketFields
answer_packet kind f n = record {
  kind = kind;
  source = f.source;
  destination = f.destination;
  link = f.link.0;
  number = n;
  place = 0;
  last = true;
  bits = [];
}
