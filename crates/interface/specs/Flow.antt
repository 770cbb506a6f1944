-- Flows: when two are the same, their order, and the numbers of their messages.
use Rattle.std.specs.Prelude.{ℕ, Bool, ◌==◌, ◌&&◌}
use Rattle.std.specs.declared.cmp.Ordering.{Ordering}
use Rattle.std.specs.Ordering.{nat_cmp, ordering_then, is_lt}
use Rattle.interface.specs.Host.{same_host, host_cmp}
use Rattle.interface.specs.declared.address.Flow.{Flow}

abbrev pub same_flow : Flow → Flow → Bool
same_flow f g = same_host f.source g.source && same_host f.destination g.destination && f.link.0 == g.link.0

-- flows in order of their sources, then of their destinations, then of their links
abbrev pub flow_cmp : Flow → Flow → Ordering
flow_cmp f g = ordering_then (host_cmp f.source g.source) (ordering_then (host_cmp f.destination g.destination) (nat_cmp f.link.0 g.link.0))

abbrev pub flow_before : Flow → Flow → Bool
flow_before f g = is_lt (flow_cmp f g)

-- the messages of a flow are numbered 0 to 65,535, and 0 follows 65,535
abbrev pub message_numbers : ℕ
message_numbers = 65536
