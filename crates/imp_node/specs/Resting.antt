-- Calls that would give nothing and change nothing.
use Rattle.std.specs.Prelude.{◌≡◌, ℕ, Bool, true, false, not, length, Some, None, Result, Ok, Err, is_none, slice_index_or, ◌==◌, ◌&&◌}
use Rattle.imp_channel.specs.declared.frame.Content.{Content}
use Rattle.imp_channel.specs.declared.frame.Content.TheVariants as content
use Rattle.imp_channel.specs.declared.frame.Frame.{Frame}
use Rattle.imp_channel.specs.Line.{answer_to, is_repeat_answer}
use Rattle.imp_channel.specs.declared.fault.ChannelFault.{ChannelFault}
use Rattle.imp_channel.specs.declared.line.Received.{Received}
use Rattle.imp_channel.specs.declared.line.Received.TheVariants as received
use Rattle.imp_node.specs.Pump.{target}
use Rattle.imp_node.specs.Room.{has_room_to}
use Rattle.imp_node.specs.State.{State, number, host_at, port_at}
use Rattle.imp_node.specs.Taking.{next_for}

-- a host is up and nothing waits for it, and no packet waits for a channel: it would take nothing
abbrev pub has_nothing_for : State → ℕ → Bool
has_nothing_for s h = (host_at s h).up && (is_none (next_for s h) && length s.store == 0)

-- what a frame brings is known at a port: the distances that were heard there last, or nothing. A packet never is
abbrev pub IsKnown : State → ℕ → Content → Type 0
IsKnown s k (content.Packet carried) = ⊥
IsKnown s k content.Nothing = Unit {0}
IsKnown s k (content.Routes distances) = slice_index_or s.routes.heard k None ≡ Some distances

-- a frame brings a packet that was given before, and no packet waits for a channel: only the acknowledgement is sent
abbrev pub is_repeat : State → ℕ → Frame → Bool
is_repeat s k f = (port_at s.ports k).up && (length s.store == 0 && is_repeat_answer (answer_to (port_at s.ports k).line f))

-- nothing is sent for a frame at an end that is down, nor where no packet waits for a channel and what the frame brings is known
abbrev pub IsQuiet : State → ℕ → Frame → Type 0
IsQuiet s k f = (port_at s.ports k).up ≡ true → ((length s.store == 0) ≡ true) × IsKnown s k f.content

-- a frame brings a packet that wasn't given before, for another IMP, and there is room for it
abbrev pub brings_passing : Result Received ChannelFault → State → Bool
brings_passing (Ok (received.Fresh p)) s = not (target p == number s) && has_room_to s (target p)
brings_passing (Ok received.Repeat) s = false
brings_passing (Ok received.AckOnly) s = false
brings_passing (Ok (received.Routes distances)) s = false
brings_passing (Err fault) s = false

-- and no packet waits for a channel: it is acknowledged, and sent at once if it can
abbrev pub passes : State → ℕ → Frame → Bool
passes s k f = (port_at s.ports k).up && (length s.store == 0 && brings_passing (answer_to (port_at s.ports k).line f) s)
